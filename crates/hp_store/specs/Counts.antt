-- Numbers of objects.
use Rattle.std.specs.Prelude.{ℕ, ◌≤◌, ◌^◌, Bool, true, false}
use Rattle.hp_model.specs.Cells.{Cells, IsCount}

-- how many objects a cell has: one, if an object is there
abbrev pub one_if : Bool → ℕ
one_if true = 1
one_if false = 0

-- a class has more objects than a `usize` counts
pub record IsUncountable (cells : Cells) (class : ℕ) : Type 0 where
  pub number : ℕ
  pub counted : IsCount cells class number
  pub many : 2 ^ 64 ≤ number
