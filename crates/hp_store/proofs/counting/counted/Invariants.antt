use Rattle.std.proofs.Common.{◌+◌, ◌*◌, ◌^◌, ◌≤◌, take}
use Rattle.hp_model.specs.Cells.{IsCount, over}
use Rattle.hp_store.specs.Changes.{changes_in}
use Rattle.hp_store.specs.Tables.{base_cells}
use Rattle.hp_store.proofs.counting.counted.Given as goal

abbrev pub invariant-loop-at : goal.invariant-loop-at
invariant-loop-at l = record {
  count : IsCount (over (base_cells l.base) (changes_in (take l.at l.layers))) l.class l.number;
  few : l.number ≤ (l.at + 1) * 2 ^ 63;
}
