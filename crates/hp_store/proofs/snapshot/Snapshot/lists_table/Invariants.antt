use Rattle.std.proofs.Common.{◌≡◌}
use Rattle.std.specs.List.{list_all}
use Rattle.hp_model.specs.Cells.{object_cell, over}
use Rattle.hp_store.specs.Changes.{changes}
use Rattle.hp_store.specs.Listed.{is_listed}
use Rattle.hp_store.specs.Stack.{cells_in}
use Rattle.hp_store.proofs.snapshot.Snapshot.lists_table.Given as goal

abbrev pub invariant-loop-key : goal.invariant-loop-key
invariant-loop-key l =
    list_all (λ e. is_listed (over (cells_in l.self) (changes l.writes)) l.keys (object_cell l.class e.0)) l.key-iterator
    ≡ list_all (λ e. is_listed (over (cells_in l.self) (changes l.writes)) l.keys (object_cell l.class e.0)) l.table.entries
