use Rattle.std.proofs.Common.{refl}
use Rattle.hp_model.specs.Cells.{over}
use Rattle.hp_value.specs.Mapped.{class_part}
use Rattle.hp_store.specs.Changes.{changes}
use Rattle.hp_store.specs.Stack.{cells_in}
use Rattle.hp_store.proofs.Agreed.{agreed, agreed_missing}
use Rattle.hp_store.proofs.snapshot.Snapshot.has_part_over.Goals as goal

pub returns-then-shows_each : goal.returns-then-shows_each
returns-then-shows_each c =
    agreed (over (cells_in c.args.self.now) (changes c.args.writes.now)) (class_part c.args.part.now) c.args.class c.args.objects.now c.agrees_on_all.result (c.if-not-objects_rise.ensures.0 refl)
    c.if-shows_each.ensures c.agrees_on_all.ensures.covers c.agrees_on_all.ensures.always

pub returns-else-shows_each : goal.returns-else-shows_each
returns-else-shows_each c =
    agreed_missing (over (cells_in c.args.self.now) (changes c.args.writes.now)) (class_part c.args.part.now) c.args.class c.args.objects.now c.shows_each.result
    c.if-shows_each.false c.shows_each.ensures
