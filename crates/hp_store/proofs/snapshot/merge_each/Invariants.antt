use Rattle.std.proofs.Common.{◌≡◌, take, None}
use Rattle.hp_model.specs.Cells.{Cell, over}
use Rattle.hp_store.specs.Changes.{changes_in}
use Rattle.hp_store.specs.Indexed.{AreComplete}
use Rattle.hp_store.specs.Tables.{base_cells}
use Rattle.hp_store.proofs.snapshot.merge_each.Given as goal

abbrev pub invariant-loop-shared : goal.invariant-loop-shared
invariant-loop-shared l = record {
  so_far : (q : Cell) → base_cells l.base q ≡ over (base_cells l.initial.base) (changes_in (take l.shared-index l.layers)) q;
  others : (q : Cell) → changes_in l.layers q ≡ None → base_cells l.base q ≡ base_cells l.initial.base q;
  complete : AreComplete (base_cells l.initial.base) l.initial.base.indexes.items → AreComplete (base_cells l.base) l.base.indexes.items;
}
