use Rattle.std.proofs.Common.{List, subst}
use Rattle.hp_model.specs.Cells.{over}
use Rattle.hp_value.specs.Mapped.{class_part}
use Rattle.hp_store.specs.declared.base.Base.{Base}
use Rattle.hp_store.specs.Changes.{Entries, changes, changes_in}
use Rattle.hp_store.specs.Parts.{Covers, is_among, keys_left, no_cells}
use Rattle.hp_store.specs.Tables.{base_cells}
use Rattle.hp_store.proofs.Covered.{covers_each}
use Rattle.hp_store.proofs.Indexed.{complete_shared}
use Rattle.hp_store.proofs.Picked.{covers_wider, not_before, not_after}
use Rattle.hp_store.proofs.snapshot.Snapshot.candidates_over.Goals as goal

pub returns-clause-covers : goal.returns-clause-covers
returns-clause-covers c =
    let part = class_part c.args.part.now in
    let class = c.args.class in
    let first = c.add.new.keys.items in
    let second = c.add_layers.new.keys.items in
    let all = c.add-2.new.keys.items in
    covers_each (is_among all) part class c.self.inside.base.value c.self.inside.layers.items c.args.self.now c.args.writes.now c.self.view_is
    (subst (λ (b : Base). Covers (is_among all) part class (base_cells b)) c.deref.ensures
    (covers_wider (is_among (keys_left c.in-Some.found)) (is_among all) part class (base_cells c.deref.result.now)
    (λ key out.
    not_after c.new-keys.result.items (keys_left c.in-Some.found) first c.in_ok-add.ensures key
    (c.in_ok-add_layers.ensures.kept key (not_before second (keys_left c.candidates.result) all c.in_ok-add-2.ensures key out)))
    (c.in-Some.ensures.covers (complete_shared c.self.inside.base.value c.deref.result.now c.deref.ensures c.self.invariant.2))))
    (subst (λ (ls : List Entries). Covers (is_among all) part class (over no_cells (changes_in ls))) c.deref-2.ensures
    (covers_wider (is_among second) (is_among all) part class (over no_cells (changes_in c.deref-2.result.now)) (not_before second (keys_left c.candidates.result) all c.in_ok-add-2.ensures)
    c.in_ok-add_layers.ensures.covers))
    (covers_wider (is_among (keys_left c.candidates.result)) (is_among all) part class (over no_cells (changes c.args.writes.now))
    (not_after second (keys_left c.candidates.result) all c.in_ok-add-2.ensures) c.candidates.ensures)
