-- How far from 0 the values of calm expressions are, in one pass: what the program computes.
use Rattle.std.specs.Prelude.{ℕ, ◌+◌, ◌*◌, ◌^◌, ◌≤◌, ◌&&◌, ⊤, Option, Some, None, if◌then◌else◌}
use Rattle.hp_model.specs.Expressions.{Arithmetic, plus, minus, times, quotient, remainder, Expression, arithmetic, negated, inverted, both, either, compared, occurrence_count}
use Rattle.hp_model.specs.Kinds.{bounded_by, known_divisor, quotient_bound, magnitude, is_small, is_nonzero}

-- a bound, if it is small
abbrev pub small : Option ℕ → Option (Option ℕ)
small bound = if is_small bound then Some bound else None

-- what an operation on values within these bounds gives, if it is calm
abbrev pub result_measure : Arithmetic → (left right divisor : Option ℕ) → Option (Option ℕ)
result_measure plus a b d = small (bounded_by ◌+◌ a b)
result_measure minus a b d = small (bounded_by ◌+◌ a b)
result_measure times a b d = small (bounded_by ◌*◌ a b)
result_measure quotient a b d = if is_nonzero d then small (quotient_bound a d) else None
result_measure remainder a b d = if is_nonzero d && is_small (quotient_bound a d) then Some b else None

-- with the bounds of both, if both are calm
abbrev pub if_both : (left right : Option (Option ℕ)) → (Option ℕ → Option ℕ → Option (Option ℕ)) → Option (Option ℕ)
if_both None b f = None
if_both (Some x) None f = None
if_both (Some x) (Some y) f = f x y

abbrev pub if_calm : Option (Option ℕ) → (Option ℕ → Option (Option ℕ)) → Option (Option ℕ)
if_calm None f = None
if_calm (Some x) f = f x

-- the bound of a calm expression's value, if it has one; nothing, if the expression isn't calm
abbrev pub measured : Expression → Option (Option ℕ)
measured (arithmetic op a b) = if_both (measured a) (measured b) (λ x y. result_measure op x y (known_divisor b))
measured (negated a) = if_calm (measured a) (λ x. small x)
measured (inverted a) = if_calm (measured a) (λ x. Some None)
measured (both a b) = if_both (measured a) (measured b) (λ x y. Some None)
measured (either a b) = if_both (measured a) (measured b) (λ x y. Some None)
measured (compared op a b) = if_both (measured a) (measured b) (λ x y. Some None)
measured occurrence_count = None
measured e = Some (magnitude e)

-- at most as far from 0 as an integer of 64 bits
abbrev pub IsWithin : Option ℕ → Type 0
IsWithin None = ⊤
IsWithin (Some m) = m ≤ 2 ^ 63

abbrev pub IsMeasured : Option (Option ℕ) → Type 0
IsMeasured None = ⊤
IsMeasured (Some bound) = IsWithin bound
