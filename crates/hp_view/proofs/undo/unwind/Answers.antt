use Rattle.std.proofs.Common.{◌<◌, length, arith}
use Rattle.std.proofs.lemmas.List.{length-map}
use Rattle.hp_store.specs.Changes.{changes}
use Rattle.hp_view.specs.Mapped.{replaced}
use Rattle.hp_view.proofs.Undoing.{covered_item, unwind_item}
use Rattle.hp_view.proofs.undo.unwind.Goals as goal

pub restore-requires : goal.restore-requires
restore-requires c =
    covered_item replaced c.loop-undo.undo.items c.pop.new.self.items (c.in-Some.cell, c.in-Some.before) (changes c.loop-undo.writes) c.in-Some.ensures.items c.loop-undo.invariant.covered

pub loop-undo-preserved-in-Some : goal.loop-undo-preserved-in-Some
loop-undo-preserved-in-Some c =
    let below : c.args.at < length c.loop-undo.undo.items = omega (arith, c.loop-undo.undo.ok.0) in
    let step =
    unwind_item replaced c.args.at c.loop-undo.undo.items c.pop.new.self.items (c.in-Some.cell, c.in-Some.before) (changes c.loop-undo.writes) (changes c.restore.new.writes) _ _
    c.in-Some.ensures.items below c.loop-undo.invariant.covered c.loop-undo.invariant.changes c.loop-undo.invariant.undo c.restore.ensures
    in record { within = omega (arith, step.within, length-map c.pop.new.self.items replaced); covered = step.covered; changes = step.changes; undo = step.undo }
