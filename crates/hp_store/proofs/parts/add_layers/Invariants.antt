use Rattle.std.proofs.Common.{◌≡◌, ℤ, false, take}
use Rattle.hp_model.specs.Cells.{over}
use Rattle.hp_value.specs.Mapped.{class_part}
use Rattle.hp_store.specs.Changes.{changes_in}
use Rattle.hp_store.specs.Parts.{Covers, is_among, no_cells}
use Rattle.hp_store.proofs.parts.add_layers.Given as goal

abbrev pub invariant-loop-shared : goal.invariant-loop-shared
invariant-loop-shared l = record {
  kept : (key : ℤ) → is_among l.keys.items key ≡ false → is_among l.initial.keys.items key ≡ false;
  covers : Covers (is_among l.keys.items) (class_part l.part) l.class (over no_cells (changes_in (take l.shared-index l.layers)));
}
