use Rattle.std.proofs.Common.{List, take, subst, arith}
use Rattle.std.proofs.lemmas.List.{take_all}
use Rattle.hp_model.specs.Cells.{over}
use Rattle.hp_value.specs.Mapped.{class_part}
use Rattle.hp_store.specs.Changes.{Entries, changes, changes_in}
use Rattle.hp_store.specs.Parts.{Covers, is_among, keys_left, no_cells}
use Rattle.hp_store.proofs.Covered.{covers_more}
use Rattle.hp_store.proofs.Picked.{covers_wider, not_before, not_after}
use Rattle.hp_store.proofs.parts.add_layers.Goals as goal

pub loop-shared-preserved : goal.loop-shared-preserved
loop-shared-preserved c =
    let part = class_part c.args.part.now in
    let old = c.loop-shared.keys.items in
    let new = c.add.new.keys.items in
    let more = keys_left c.candidates.result in
    record {
      kept = λ key out. c.loop-shared.invariant.kept key (not_before old more new c.in_ok-add.ensures key out);
      covers =
          covers_more (is_among new) part c.args.class c.args.layers.now c.loop-shared.shared-index c.shared-item.result c.loop-shared-test.true c.shared-item.is
          (covers_wider (is_among old) (is_among new) part c.args.class (over no_cells (changes_in (take c.loop-shared.shared-index c.args.layers.now)))
          (not_before old more new c.in_ok-add.ensures) c.loop-shared.invariant.covers)
          (covers_wider (is_among more) (is_among new) part c.args.class (over no_cells (changes c.shared-item.result)) (not_after old more new c.in_ok-add.ensures) c.candidates.ensures);
    }

pub returns-clause-covers : goal.returns-clause-covers
returns-clause-covers c =
    subst (λ (ls : List Entries). Covers (is_among c.loop-shared.keys.items) (class_part c.args.part.now) c.args.class (over no_cells (changes_in ls)))
    (take_all c.loop-shared.shared-index c.args.layers.now (omega (arith, c.loop-shared-test.false))) c.loop-shared.invariant.covers
