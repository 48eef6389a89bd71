use Rattle.std.proofs.Common.{◌≡◌, ◌≤◌, ℕ, ℤ, map}
use Rattle.hp_model.specs.Cells.{object_cell}
use Rattle.hp_store.specs.Changes.{changes}
use Rattle.hp_store.specs.Mapped.{entry}
use Rattle.hp_store.proofs.classes.bound_of.Given as goal

-- what the layer names past the bound is still to come
abbrev pub invariant-loop-cell : goal.invariant-loop-cell
invariant-loop-cell l = (class : ℕ) (key : ℤ) → l.bound ≤ class → changes (map entry l.cell-iterator) (object_cell class key) ≡ changes l.layer (object_cell class key)
