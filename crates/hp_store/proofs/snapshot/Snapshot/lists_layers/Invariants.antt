use Rattle.std.proofs.Common.{◌≡◌, drop}
use Rattle.std.specs.List.{list_all}
use Rattle.hp_model.specs.Cells.{over}
use Rattle.hp_store.specs.Changes.{changes, class_entries}
use Rattle.hp_store.specs.Listed.{are_listed}
use Rattle.hp_store.specs.Stack.{cells_in}
use Rattle.hp_store.proofs.snapshot.Snapshot.lists_layers.Given as goal

abbrev pub invariant-loop-shared : goal.invariant-loop-shared
invariant-loop-shared l =
    list_all (λ layer. are_listed (over (cells_in l.self) (changes l.writes)) l.keys (class_entries l.class layer)) (drop l.shared-index l.layers)
    ≡ list_all (λ layer. are_listed (over (cells_in l.self) (changes l.writes)) l.keys (class_entries l.class layer)) l.layers
