use Rattle.std.proofs.Common.{map, take}
use Rattle.hp_model.specs.Cells.{over}
use Rattle.hp_value.specs.Mapped.{class_part, keyed_row, keys_of}
use Rattle.hp_store.specs.Changes.{changes, changes_in}
use Rattle.hp_store.specs.Parts.{agrees_at, Covers, no_cells}
use Rattle.hp_store.specs.Stack.{cells_in}
use Rattle.hp_store.proofs.snapshot.Snapshot.agrees_on_layers.Given as goal

abbrev pub invariant-loop-shared : goal.invariant-loop-shared
invariant-loop-shared l =
    Covers (agrees_at (over (cells_in l.self) (changes l.writes)) (class_part l.part) l.class (keys_of (map keyed_row l.objects))) (class_part l.part)
    l.class (over no_cells (changes_in (take l.shared-index l.layers)))
