-- Expressions and their values.
use Rattle.std.specs.Prelude.{ℕ, zero, ℤ, pos, ◌+ℤ◌, ◌-ℤ◌, ◌*ℤ◌, neg_ℤ, int_div, int_rem, int_lt, Bool, true, false, not, List, ◌∷◌, Option, Some, None, Ok, Err, bytes_eq, slice_get, if◌then◌else◌}
use Rattle.std.specs.Ordering.{int_eq, nat_cmp, is_lt}
use Rattle.std.specs.Cmp.Lexicographic.{slice_cmp}
use Rattle.std.specs.Map.{lookup}
use Rattle.hp_model.specs.Values.{Name, NamedValues, Value, integer, boolean, text, Row, KeyedRow, wrong_kind, overflow, divide_by_zero, no_parameter, Outcome, ◌>>=◌, or_cause, fits_64}
use Rattle.hp_model.specs.Occurrences.{Primitive, created, updated, deleted, signalled, moment_reached, Occurrence}

pub data Arithmetic : Type 0 where
  plus minus times quotient remainder : Arithmetic

pub data Comparison : Type 0 where
  equal unequal less at_most greater at_least : Comparison

pub data Expression : Type 0 where
  constant : Value → Expression
  arithmetic : Arithmetic → Expression → Expression → Expression
  negated : Expression → Expression
  inverted : Expression → Expression
  both : Expression → Expression → Expression
  either : Expression → Expression → Expression
  compared : Comparison → Expression → Expression → Expression
  field_of : (variable field : Name) → Expression
  key_of : (variable : Name) → Expression
  new_field : (part : ℕ) → (field : Name) → Expression
  old_field : (part : ℕ) → (field : Name) → Expression
  key_in : (part : ℕ) → Expression
  argument : (part place : ℕ) → Expression
  time_of : (part : ℕ) → Expression
  occurrence_count : Expression
  -- the value of a `let`, and the clock's moment while the unit runs
  value_named : Name → Expression
  time_now : Expression

-- the environment of an expression: the occurrence, if there is one, the rows and the values of `let`s by name, the
-- innermost first, and the clock's moment
pub record Environment : Type 0 where
  pub occurrence : Option Occurrence
  pub rows : List (Name × KeyedRow)
  pub values : NamedValues
  pub now : ℕ

-- the environment with one more name, of a row or of a value
abbrev pub bound : Name → KeyedRow → Environment → Environment
bound x row env = record { occurrence = env.occurrence; rows = (x, row) ∷ env.rows; values = env.values; now = env.now }

abbrev pub holding : Name → Value → Environment → Environment
holding x v env = record { occurrence = env.occurrence; rows = env.rows; values = (x, v) ∷ env.values; now = env.now }

abbrev pub as_integer : Value → Outcome ℤ
as_integer (integer z) = Ok z
as_integer (boolean b) = Err wrong_kind
as_integer (text s) = Err wrong_kind

abbrev pub as_boolean : Value → Outcome Bool
as_boolean (integer z) = Err wrong_kind
as_boolean (boolean b) = Ok b
as_boolean (text s) = Err wrong_kind

-- the result of a computation without bounds, tested against the range of 64 bits
abbrev pub in_range : ℤ → Outcome Value
in_range z = if fits_64 z then Ok (integer z) else Err overflow

-- the quotient is rounded towards zero
abbrev pub calculate : Arithmetic → ℤ → ℤ → Outcome Value
calculate plus x y = in_range (x +ℤ y)
calculate minus x y = in_range (x -ℤ y)
calculate times x y = in_range (x *ℤ y)
calculate quotient x (pos zero) = Err divide_by_zero
calculate quotient x y = in_range (int_div x y)
calculate remainder x (pos zero) = Err divide_by_zero
calculate remainder x y = in_range (int_div x y) >>= λ _. Ok (integer (int_rem x y))

-- on two integers, or two texts byte by byte
abbrev pub is_below : Value → Value → Outcome Bool
is_below (integer x) (integer y) = Ok (int_lt x y)
is_below (text s) (text t) = Ok (is_lt (slice_cmp nat_cmp s t))
is_below v w = Err wrong_kind

-- on two values of the same kind
abbrev pub is_equal : Value → Value → Outcome Bool
is_equal (integer x) (integer y) = Ok (int_eq x y)
is_equal (boolean b) (boolean c) = Ok (if b then c else not c)
is_equal (text s) (text t) = Ok (bytes_eq s t)
is_equal v w = Err wrong_kind

abbrev pub compare : Comparison → Value → Value → Outcome Bool
compare equal v w = is_equal v w
compare unequal v w = is_equal v w >>= λ b. Ok (not b)
compare less v w = is_below v w
compare at_most v w = is_below w v >>= λ b. Ok (not b)
compare greater v w = is_below w v
compare at_least v w = is_below v w >>= λ b. Ok (not b)

-- a part of the occurrence, by its index
abbrev pub part_of : Environment → ℕ → Outcome Primitive
part_of env i = or_cause (parts_at env.occurrence i) no_parameter
  where
    parts_at : Option Occurrence → ℕ → Option Primitive
    parts_at None i = None
    parts_at (Some o) i = slice_get o.parts i

-- the row named x; a checked expression uses no other name
abbrev pub row_named : Environment → Name → Outcome KeyedRow
row_named env x = or_cause (lookup (bytes_eq x) env.rows) wrong_kind

-- the value of the `let` named x; a checked expression uses no other name
abbrev pub value_at : Environment → Name → Outcome Value
value_at env x = or_cause (lookup (bytes_eq x) env.values) wrong_kind

abbrev pub field_in : Row → Name → Outcome Value
field_in row f = or_cause (lookup (bytes_eq f) row) wrong_kind

-- the row after an operation, and the row before it
abbrev pub new_row : Primitive → Outcome Row
new_row (created c k new) = Ok new
new_row (updated c k old new) = Ok new
new_row p = Err no_parameter

abbrev pub old_row : Primitive → Outcome Row
old_row (updated c k old new) = Ok old
old_row (deleted c k old) = Ok old
old_row p = Err no_parameter

abbrev pub operation_key : Primitive → Outcome Value
operation_key (created c k new) = Ok (integer k)
operation_key (updated c k old new) = Ok (integer k)
operation_key (deleted c k old) = Ok (integer k)
operation_key p = Err no_parameter

abbrev pub argument_of : Primitive → ℕ → Outcome Value
argument_of (signalled name arguments) j = or_cause (slice_get arguments j) no_parameter
argument_of p j = Err no_parameter

abbrev pub moment_of : Primitive → Outcome Value
moment_of (moment_reached t) = in_range (pos t)
moment_of p = Err no_parameter

abbrev pub count_in : Option Occurrence → Outcome Value
count_in None = Err no_parameter
count_in (Some o) = in_range (pos o.count)

-- the value of an expression, or the cause for which its statement aborts: operands are evaluated first, from left to
-- right, then their kinds are tested, then the result
abbrev pub value_of : Environment → Expression → Outcome Value
value_of env (constant v) = Ok v
value_of env (arithmetic op a b) = do
  v ← value_of env a
  w ← value_of env b
  x ← as_integer v
  y ← as_integer w
  calculate op x y
value_of env (negated a) = do
  v ← value_of env a
  x ← as_integer v
  in_range (neg_ℤ x)
value_of env (inverted a) = do
  v ← value_of env a
  b ← as_boolean v
  Ok (boolean (not b))
value_of env (both a b) = do
  v ← value_of env a
  x ← as_boolean v
  w ← if x then value_of env b else Ok (boolean false)
  y ← as_boolean w
  Ok (boolean y)
value_of env (either a b) = do
  v ← value_of env a
  x ← as_boolean v
  w ← if x then Ok (boolean true) else value_of env b
  y ← as_boolean w
  Ok (boolean y)
value_of env (compared op a b) = do
  v ← value_of env a
  w ← value_of env b
  b ← compare op v w
  Ok (boolean b)
value_of env (field_of x f) = do
  r ← row_named env x
  field_in r.row f
value_of env (key_of x) = do
  r ← row_named env x
  Ok (integer r.key)
value_of env (new_field i f) = do
  p ← part_of env i
  row ← new_row p
  field_in row f
value_of env (old_field i f) = do
  p ← part_of env i
  row ← old_row p
  field_in row f
value_of env (key_in i) = do
  p ← part_of env i
  operation_key p
value_of env (argument i j) = do
  p ← part_of env i
  argument_of p j
value_of env (time_of i) = do
  p ← part_of env i
  moment_of p
value_of env occurrence_count = count_in env.occurrence
value_of env (value_named x) = value_at env x
value_of env time_now = in_range (pos env.now)
