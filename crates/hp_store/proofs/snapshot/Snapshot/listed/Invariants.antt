use Rattle.std.proofs.Common.{◌≡◌, ◌++◌, drop, Some}
use Rattle.std.specs.Prelude.{All}
use Rattle.hp_model.specs.Values as model
use Rattle.hp_model.specs.Cells.{object_cell, row_value}
use Rattle.hp_value.specs.Mapped.{keys_of}
use Rattle.hp_store.specs.Stack.{cells_in}
use Rattle.hp_store.proofs.snapshot.Snapshot.listed.Given as goal

abbrev pub invariant-loop-key : goal.invariant-loop-key
invariant-loop-key l = record {
  keys : keys_of l.objects ++ drop l.key-index l.keys ≡ l.keys;
  rows : All (λ (o : model.KeyedRow). cells_in l.self (object_cell l.class o.key) ≡ Some (row_value o.row)) l.objects;
}
