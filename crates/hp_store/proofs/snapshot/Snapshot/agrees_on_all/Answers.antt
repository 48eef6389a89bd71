use Rattle.std.proofs.Common.{map, List, subst, ◌∙◌}
use Rattle.hp_model.specs.Cells.{over}
use Rattle.hp_value.specs.Mapped.{class_part, keyed_row, keys_of}
use Rattle.hp_store.specs.declared.base.Base.{Base}
use Rattle.hp_store.specs.Changes.{Entries, changes, changes_in}
use Rattle.hp_store.specs.Parts.{Covers, agrees_at, keys_left, no_cells}
use Rattle.hp_store.specs.Stack.{cells_in}
use Rattle.hp_store.specs.Tables.{base_cells}
use Rattle.hp_store.proofs.Covered.{covers_each}
use Rattle.hp_store.proofs.Indexed.{complete_shared}
use Rattle.hp_store.proofs.Agreed.{agree_covers, agree_always, all_pass}
use Rattle.hp_store.proofs.snapshot.Snapshot.agrees_on_all.Goals as goal

pub returns-then-not-agrees_on-clause-always : goal.returns-then-not-agrees_on-clause-always
returns-then-not-agrees_on-clause-always c = λ each.
    agree_always (agrees_at (over (cells_in c.args.self.now) (changes c.args.writes.now)) (class_part c.args.part.now) c.args.class (keys_of (map keyed_row c.args.objects.now)))
    (keys_left c.candidates-keys.result) c.agrees_on.result c.if-not-agrees_on.true c.agrees_on.ensures each

pub returns-clause-covers : goal.returns-clause-covers
returns-clause-covers c = λ holds.
    let test = agrees_at (over (cells_in c.args.self.now) (changes c.args.writes.now)) (class_part c.args.part.now) c.args.class (keys_of (map keyed_row c.args.objects.now)) in
    let part = class_part c.args.part.now in
    covers_each test part c.args.class c.self.inside.base.value c.self.inside.layers.items c.args.self.now c.args.writes.now c.self.view_is
    (subst (λ (b : Base). Covers test part c.args.class (base_cells b)) c.deref.ensures
    (agree_covers test part c.args.class (base_cells c.deref.result.now) (keys_left c.candidates-keys.result) c.agrees_on.result c.agrees_on.ensures
    (c.candidates-keys.ensures (complete_shared c.self.inside.base.value c.deref.result.now c.deref.ensures c.self.invariant.2)) c.if-not-agrees_on.false))
    (subst (λ (ls : List Entries). Covers test part c.args.class (over no_cells (changes_in ls))) c.deref-2.ensures (c.agrees_on_layers.ensures.covers c.if-not-agrees_on_layers.false))
    (agree_covers test part c.args.class (over no_cells (changes c.args.writes.now)) (keys_left c.candidates-written.result) c.agrees_on-2.result
    c.agrees_on-2.ensures c.candidates-written.ensures holds)

pub returns-clause-always : goal.returns-clause-always
returns-clause-always c = λ each.
    c.agrees_on-2.ensures
    ∙ all_pass (agrees_at (over (cells_in c.args.self.now) (changes c.args.writes.now)) (class_part c.args.part.now) c.args.class (keys_of (map keyed_row c.args.objects.now)))
    (keys_left c.candidates-written.result) each
