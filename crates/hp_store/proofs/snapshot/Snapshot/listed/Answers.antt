use Rattle.std.proofs.Common.{◌∙◌, sym, ap, Some, pos, get_or, w64, FitsSigned, rules}
use Rattle.std.proofs.lemmas.Int.{to_z-of_z}
use Rattle.hp_model.specs.Cells.{row_value}
use Rattle.hp_store.specs.Stack.{cells_in}
use Rattle.hp_store.proofs.Wholes.{listed_more}
use Rattle.hp_store.proofs.snapshot.Snapshot.listed.Goals as goal

pub loop-key-preserved : goal.loop-key-preserved
loop-key-preserved c =
    let fits : FitsSigned w64 (get_or c.args.keys.now c.loop-key.key-index (pos 0)) = search rules in
    let there = sym c.get.ensures ∙ c.in-Some.ensures in
    let shared = ap (λ r. Some (row_value r)) (sym c.in_ok-clone.ensures.cases) in
    let step = listed_more (cells_in c.args.self.now) c.args.class c.args.keys.now c.loop-key.key-index c.loop-key.objects c.push.new.self _ c.in_ok-clone.field-0
    c.loop-key-test.true (to_z-of_z w64 _ fits) c.loop-key.invariant.keys c.loop-key.invariant.rows (there ∙ shared) c.in_ok-push.ensures.ok in
    record { keys = step.so_far; rows = step.rows }
