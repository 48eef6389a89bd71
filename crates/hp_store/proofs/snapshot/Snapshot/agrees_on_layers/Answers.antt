use Rattle.std.proofs.Common.{map, List, subst, arith}
use Rattle.std.proofs.lemmas.List.{take_all}
use Rattle.hp_model.specs.Cells.{over}
use Rattle.hp_value.specs.Mapped.{class_part, keyed_row, keys_of}
use Rattle.hp_store.specs.Changes.{Entries, changes, changes_in}
use Rattle.hp_store.specs.Parts.{Covers, agrees_at, keys_left, no_cells}
use Rattle.hp_store.specs.Stack.{cells_in}
use Rattle.hp_store.proofs.Covered.{covers_more}
use Rattle.hp_store.proofs.Agreed.{agree_covers, agree_always}
use Rattle.hp_store.proofs.snapshot.Snapshot.agrees_on_layers.Goals as goal

pub loop-shared-preserved : goal.loop-shared-preserved
loop-shared-preserved c =
    let test = agrees_at (over (cells_in c.args.self.now) (changes c.args.writes.now)) (class_part c.args.part.now) c.args.class (keys_of (map keyed_row c.args.objects.now)) in
    covers_more test (class_part c.args.part.now) c.args.class c.args.layers.now c.loop-shared.shared-index c.shared-item.result c.loop-shared-test.true c.shared-item.is c.loop-shared.invariant
    (agree_covers test (class_part c.args.part.now) c.args.class (over no_cells (changes c.shared-item.result)) (keys_left c.candidates-keys.result)
    c.agrees_on.result c.agrees_on.ensures c.candidates-keys.ensures
    c.if-not-agrees_on.false)

pub returns-then-not-agrees_on-clause-always : goal.returns-then-not-agrees_on-clause-always
returns-then-not-agrees_on-clause-always c = λ each.
    agree_always (agrees_at (over (cells_in c.args.self.now) (changes c.args.writes.now)) (class_part c.args.part.now) c.args.class (keys_of (map keyed_row c.args.objects.now)))
    (keys_left c.candidates-keys.result) c.agrees_on.result c.if-not-agrees_on.true c.agrees_on.ensures each

pub returns-clause-covers : goal.returns-clause-covers
returns-clause-covers c = λ t.
    let test = agrees_at (over (cells_in c.args.self.now) (changes c.args.writes.now)) (class_part c.args.part.now) c.args.class (keys_of (map keyed_row c.args.objects.now)) in
    subst (λ (ls : List Entries). Covers test (class_part c.args.part.now) c.args.class (over no_cells (changes_in ls)))
    (take_all c.loop-shared.shared-index c.args.layers.now (omega (arith, c.loop-shared-test.false))) c.loop-shared.invariant
