use Rattle.std.proofs.Common.{◌≡◌, map, length}
use Rattle.std.specs.List.{list_all}
use Rattle.hp_model.specs.Cells.{over}
use Rattle.hp_value.specs.Mapped.{class_part, keyed_row, keys_of}
use Rattle.hp_store.specs.Changes.{changes}
use Rattle.hp_store.specs.Parts.{agrees_at, keys_left}
use Rattle.hp_store.specs.Stack.{cells_in}
use Rattle.hp_store.proofs.snapshot.Snapshot.agrees_on.Given as goal

abbrev pub invariant-loop-key : goal.invariant-loop-key
invariant-loop-key l =
    list_all (agrees_at (over (cells_in l.self) (changes l.writes)) (class_part l.part) l.class (keys_of (map keyed_row l.objects))) (keys_left l.keys)
    ≡ list_all (agrees_at (over (cells_in l.self) (changes l.writes)) (class_part l.part) l.class (keys_of (map keyed_row l.objects))) (keys_left l.fn.keys)

abbrev pub decreases-loop-key : goal.decreases-loop-key
decreases-loop-key l = length (keys_left l.keys)
