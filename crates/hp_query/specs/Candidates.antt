-- The rows of a class on which a predicate has to be tested.
use Rattle.std.specs.Prelude.{◌≡◌, ℕ, Bool, true, false, List, length, filter, Ok, if◌then◌else◌}
use Rattle.std.specs.List.{AllByRecursion}
use Rattle.hp_model.specs.Values.{Name, boolean, KeyedRow, Outcome, ◌>>=◌}
use Rattle.hp_model.specs.Expressions.{Expression, constant, Environment, bound}
use Rattle.hp_model.specs.Firing.{boolean_value}

-- all rows but some for which the predicate is false, without a fault
pub record AreCandidates (env : Environment) (x : Name) (predicate : Expression) (rows all : List KeyedRow) : Type 0 where
  pub is_kept : KeyedRow → Bool
  pub kept : rows ≡ filter is_kept all
  pub elsewhere : (r : KeyedRow) → is_kept r ≡ false → boolean_value (bound x r env) predicate ≡ Ok false

-- the predicate is true of each row
pub record IsTrueOfEach (env : Environment) (x : Name) (predicate : Expression) (rows : List KeyedRow) : Type 0 where
  pub each : AllByRecursion (λ r. boolean_value (bound x r env) predicate ≡ Ok true) rows

-- what is tested of rows: nothing, if the predicate is known to be true of them
abbrev pub tested : (is_known : Bool) → Expression → Expression
tested is_known predicate = if is_known then constant (boolean true) else predicate

-- the number of rows of an answer
abbrev pub counted : Outcome (List KeyedRow) → Outcome ℕ
counted o = o >>= λ rows. Ok (length rows)
