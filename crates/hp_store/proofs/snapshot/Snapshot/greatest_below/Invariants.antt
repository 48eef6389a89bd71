use Rattle.std.proofs.Common.{◌≡◌, ℤ, true, false, is_some}
use Rattle.hp_model.specs.Cells.{object_cell, over}
use Rattle.hp_store.specs.Changes.{changes}
use Rattle.hp_store.specs.Greatest.{is_below}
use Rattle.hp_store.specs.Stack.{cells_in}
use Rattle.hp_store.proofs.Topmost.{left_below}
use Rattle.hp_store.proofs.snapshot.Snapshot.greatest_below.Given as goal

-- no object has a key that isn't below the bound, of those that are looked for
abbrev pub invariant-loop-key : goal.invariant-loop-key
invariant-loop-key l =
    (key : ℤ) → is_below l.fn.below key ≡ true → is_below l.bound key ≡ false → is_some (over (cells_in l.self) (changes l.writes) (object_cell l.class key)) ≡ false

abbrev pub decreases-loop-key : goal.decreases-loop-key
decreases-loop-key l = left_below l.bound
