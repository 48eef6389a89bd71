use Rattle.std.proofs.Common.{◌≡◌, map}
use Rattle.hp_model.specs.Cells.{over}
use Rattle.hp_store.specs.Changes.{changes, class_entries}
use Rattle.hp_store.specs.Listed.{are_listed}
use Rattle.hp_store.specs.Mapped.{entry}
use Rattle.hp_store.specs.Stack.{cells_in}
use Rattle.hp_store.proofs.snapshot.Snapshot.lists_layer.Given as goal

abbrev pub invariant-loop-cell : goal.invariant-loop-cell
invariant-loop-cell l =
    are_listed (over (cells_in l.self) (changes l.writes)) l.keys (map entry l.cell-iterator)
    ≡ are_listed (over (cells_in l.self) (changes l.writes)) l.keys (class_entries l.class l.layer)
