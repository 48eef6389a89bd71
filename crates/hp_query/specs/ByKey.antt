-- Predicates that are false of all rows but those with one key.
use Rattle.std.specs.Prelude.{◌≡◌, ℤ, Bool, false, Option, Some, None, Ok, Err, if◌then◌else◌, bytes_eq}
use Rattle.std.specs.Ordering.{int_eq}
use Rattle.hp_model.specs.Values.{Name, Value, integer, KeyedRow, Cause, Outcome}
use Rattle.hp_model.specs.Expressions.{Expression, both, compared, equal, key_of, Environment, bound, row_named, value_of}
use Rattle.hp_model.specs.Firing.{boolean_value}

-- for each row with another key the predicate is false, without a fault
pub record IsFalseElsewhere (env : Environment) (x : Name) (predicate : Expression) (key : ℤ) : Type 0 where
  pub elsewhere : (r : KeyedRow) → int_eq r.key key ≡ false → boolean_value (bound x r env) predicate ≡ Ok false

-- this holds wherever the name has no meaning yet and the expression's value is the key
pub record AsksFor (x : Name) (predicate wanted : Expression) : Type 0 where
  pub asks : (env : Environment) (c : Cause) (key : ℤ) → row_named env x ≡ Err c → value_of env wanted ≡ Ok (integer key) → IsFalseElsewhere env x predicate key

-- ---- which predicates ask for a key

-- whether an expression is the key of the row of this name
abbrev pub is_key_of : Name → Expression → Bool
is_key_of x (key_of y) = bytes_eq y x
is_key_of x e = false

-- the first of the tests that a predicate joins by `and`
abbrev pub first_test : Expression → Expression
first_test (both first second) = first_test first
first_test e = e

-- the other side of an equation, if one side is the key of the row of this name
abbrev pub other_side : Name → (a b : Expression) → Option Expression
other_side x a b = if is_key_of x a then Some b else (if is_key_of x b then Some a else None)

-- the expression that a test says to be the key of the row of this name
abbrev pub key_equated : Name → Expression → Option Expression
key_equated x (compared equal a b) = other_side x a b
key_equated x e = None

-- the integer that an outcome is
abbrev pub integer_in : Outcome Value → Option ℤ
integer_in (Ok (integer key)) = Some key
integer_in o = None

abbrev pub value_wanted : Environment → Option Expression → Option ℤ
value_wanted env None = None
value_wanted env (Some wanted) = integer_in (value_of env wanted)

-- an expression is evaluated for all rows at once only where the name has no meaning yet
abbrev pub if_free : {A : Type 0} → Outcome KeyedRow → Option A → Option A
if_free (Ok r) asked = None
if_free (Err c) asked = asked

-- the key that a predicate begins by asking for: its first test says that its row's key is an expression whose value is
-- an integer and doesn't depend on the row
abbrev pub key_asked : Environment → Name → Expression → Option ℤ
key_asked env x predicate = if_free (row_named env x) (value_wanted env (key_equated x (first_test predicate)))
