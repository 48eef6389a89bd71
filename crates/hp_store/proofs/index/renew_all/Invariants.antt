use Rattle.std.proofs.Common.{◌≡◌, ℤ, length}
use Rattle.std.specs.Prelude.{All, option_map}
use Rattle.std.specs.List.{AllWithin}
use Rattle.hp_model.specs.Cells.{Cells, object_cell}
use Rattle.hp_value.specs.Mapped.{cell}
use Rattle.hp_store.specs.declared.index.Index.{Index}
use Rattle.hp_store.specs.Indexed.{IsComplete, AreComplete, with_value}
use Rattle.hp_store.specs.Mapped.{cell_value}
use Rattle.hp_store.proofs.index.renew_all.Given as goal

abbrev pub invariant-loop-i : goal.invariant-loop-i
invariant-loop-i l = record {
  elsewhere : All (λ (i : Index). (key : ℤ) → cell l.cell ≡ object_cell i.class key → ⊥) l.initial.indexes.items → l.indexes.items ≡ l.initial.indexes.items;
  same : length l.indexes.items ≡ length l.initial.indexes.items;
  done : (cells : Cells) → AreComplete cells l.initial.indexes.items → AllWithin (IsComplete (with_value cells (cell l.cell) (option_map (λ x. cell_value x.now) l.new))) l.indexes.items 0 l.i;
  rest : (cells : Cells) → AreComplete cells l.initial.indexes.items → AllWithin (IsComplete cells) l.indexes.items l.i (length l.indexes.items);
}
