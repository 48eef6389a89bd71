-- Keys above which a class has no object.
use Rattle.std.specs.Prelude.{◌≡◌, ◌-◌, ◌^◌, ℕ, ℤ, pos, int_lt, Bool, true, Option, Some, None}
use Rattle.std.specs.declared.ops.Bound.{Bound}
use Rattle.std.specs.declared.ops.Bound.TheVariants.{Included, Excluded, Unbounded}
use Rattle.hp_model.specs.Cells.{Changes, object_cell, is_above}
use Rattle.hp_value.specs.declared.cell.Cell.{Cell}
use Rattle.hp_value.specs.declared.cell.Cell.TheVariants.{Object}

-- whether a key lies below a bound, if there is one
abbrev pub is_below : Option ℤ → ℤ → Bool
is_below None key = true
is_below (Some bound) key = int_lt key bound

-- a layer names no object of the class whose key is above the greatest and below the bound
abbrev pub NamesNone : Changes → ℕ → (bound greatest : Option ℤ) → Type 0
NamesNone layer class bound greatest = (key : ℤ) → is_below bound key ≡ true → is_above greatest key ≡ true → layer (object_cell class key) ≡ None

-- ---- where a range ends that has what lies below a bound

abbrev pub below_bound : Option ℤ → Bound ℤ
below_bound None = Unbounded
below_bound (Some key) = Excluded key

-- the same among a class's objects
abbrev pub class_end : ℕ → Option ℤ → Bound Cell
class_end class None = Included (Object class (pos (2 ^ 63 - 1)))
class_end class (Some key) = Excluded (Object class key)
