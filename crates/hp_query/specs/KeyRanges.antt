-- Ranges of keys, and predicates that are true exactly of the rows with the keys in one.
use Rattle.std.specs.Prelude.{◌≡◌, ℤ, Bool, true, not, ◌&&◌, List, ◌∷◌, filter, Option, Some, None, option_map, Ok, int_lt}
use Rattle.std.specs.List.{last_or}
use Rattle.hp_model.specs.Values.{Name, integer, KeyedRow}
use Rattle.hp_model.specs.Expressions.{Expression, Comparison, compare, Environment, bound}
use Rattle.hp_model.specs.ClassParts.{key_attribute, ClassPart}
use Rattle.hp_model.specs.Firing.{boolean_value}

-- whether a key lies between two bounds, both inclusive; `None` means unbounded
abbrev pub reaches : (low : Option ℤ) → ℤ → Bool
reaches None key = true
reaches (Some low) key = not (int_lt key low)

abbrev pub stays_below : (high : Option ℤ) → ℤ → Bool
stays_below None key = true
stays_below (Some high) key = not (int_lt high key)

abbrev pub is_within : (low high : Option ℤ) → ℤ → Bool
is_within low high key = reaches low key && stays_below high key

-- the part of a class with these keys
abbrev pub key_part : (low high : Option ℤ) → ClassPart
key_part low high = record { attribute = key_attribute; low = option_map integer low; high = option_map integer high }

-- the keys for which a comparison with a number is true
abbrev pub Meaning : Comparison → ℤ → (low high : Option ℤ) → Type 0
Meaning op number low high = (key : ℤ) → compare op (integer key) (integer number) ≡ Ok (is_within low high key)

-- the predicate is true for the rows with these keys, and false for all others, without a fault
pub record IsTrueWithin (env : Environment) (x : Name) (predicate : Expression) (low high : Option ℤ) : Type 0 where
  pub within : (r : KeyedRow) → boolean_value (bound x r env) predicate ≡ Ok (is_within low high r.key)

-- the first and the last of keys in ascending order that lie in a range
abbrev pub IsLeastIn : (low high : Option ℤ) → ℤ → List ℤ → Type 0
IsLeastIn low high key keys = (rest : List ℤ) × (filter (is_within low high) keys ≡ key ∷ rest)

abbrev pub IsGreatestIn : (low high : Option ℤ) → ℤ → List ℤ → Type 0
IsGreatestIn low high key keys = last_or None (filter (is_within low high) keys) ≡ Some key
