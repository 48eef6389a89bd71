use Rattle.std.proofs.Common.{◌≡◌, drop, is_some}
use Rattle.std.specs.List.{list_all}
use Rattle.hp_model.specs.Cells.{object_cell, over}
use Rattle.hp_store.specs.Changes.{changes}
use Rattle.hp_store.specs.Stack.{cells_in}
use Rattle.hp_store.proofs.snapshot.Snapshot.holds_each.Given as goal

abbrev pub invariant-loop-key : goal.invariant-loop-key
invariant-loop-key l =
    list_all (λ key. is_some (over (cells_in l.self) (changes l.writes) (object_cell l.class key))) (drop l.key-index l.keys)
    ≡ list_all (λ key. is_some (over (cells_in l.self) (changes l.writes) (object_cell l.class key))) l.keys
