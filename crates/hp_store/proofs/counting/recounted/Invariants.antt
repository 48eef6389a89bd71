use Rattle.std.proofs.Common.{◌+◌, ◌≤◌, length, map}
use Rattle.hp_model.specs.Cells.{over}
use Rattle.hp_store.specs.Changes.{changes_in, class_entries}
use Rattle.hp_store.specs.Mapped.{entry}
use Rattle.hp_store.specs.Tables.{base_cells}
use Rattle.hp_store.proofs.Counted.{Recounts}
use Rattle.hp_store.proofs.counting.recounted.Given as goal

abbrev pub invariant-loop-cell : goal.invariant-loop-cell
invariant-loop-cell l = record {
  counts : Recounts (over (base_cells l.base) (changes_in l.layers)) l.class l.more l.number (map entry l.cell-iterator);
  few : l.number + length l.cell-iterator ≤ l.before + length (class_entries l.class l.more);
}
