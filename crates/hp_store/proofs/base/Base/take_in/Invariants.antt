use Rattle.std.proofs.Common.{◌≡◌, map, None}
use Rattle.hp_model.specs.Cells.{Cell, over}
use Rattle.hp_store.specs.Changes.{changes, IsEachOnce}
use Rattle.hp_store.specs.Indexed.{AreComplete}
use Rattle.hp_store.specs.Mapped.{entry}
use Rattle.hp_store.specs.Tables.{base_cells}
use Rattle.hp_store.proofs.base.Base.take_in.Given as goal

abbrev pub invariant-loop-cell : goal.invariant-loop-cell
invariant-loop-cell l = record {
  once : IsEachOnce (map entry l.cell-iterator);
  so_far : (q : Cell) → over (base_cells l.self) (changes (map entry l.cell-iterator)) q ≡ over (base_cells l.initial.self) (changes l.layer) q;
  unnamed : (q : Cell) → changes l.layer q ≡ None → changes (map entry l.cell-iterator) q ≡ None;
  others : (q : Cell) → changes l.layer q ≡ None → base_cells l.self q ≡ base_cells l.initial.self q;
  complete : AreComplete (base_cells l.initial.self) l.initial.self.indexes.items → AreComplete (base_cells l.self) l.self.indexes.items;
}
