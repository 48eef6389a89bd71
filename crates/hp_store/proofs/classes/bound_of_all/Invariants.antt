use Rattle.std.proofs.Common.{◌≡◌, ◌≤◌, ℕ, ℤ, None, take}
use Rattle.hp_model.specs.Cells.{object_cell}
use Rattle.hp_store.specs.Changes.{changes_in}
use Rattle.hp_store.proofs.classes.bound_of_all.Given as goal

-- the layers so far name nothing past the bound
abbrev pub invariant-loop-shared : goal.invariant-loop-shared
invariant-loop-shared l = (class : ℕ) (key : ℤ) → l.bound ≤ class → changes_in (take l.shared-index l.layers) (object_cell class key) ≡ None
