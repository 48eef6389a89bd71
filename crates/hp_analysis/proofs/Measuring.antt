-- What the program measures of an expression is whether it is calm, and how far from 0 its values are.
use Rattle.std.proofs.Common.{◌≡◌, refl, ap, ap₂, ◌∙◌, ℕ, Bool, true, false, ◌&&◌, Option, Some, None}
use Rattle.std.specs.Prelude.{if◌then◌else◌, is_some}
use Rattle.hp_model.specs.Expressions.{Arithmetic, plus, minus, times, quotient, remainder, Expression, constant, arithmetic, negated, inverted, both, either, compared, field_of}
use Rattle.hp_model.specs.Expressions.{key_of, new_field, old_field, key_in, argument, time_of, occurrence_count, value_named, time_now}
use Rattle.hp_model.specs.Kinds.{known_divisor, quotient_bound, magnitude, is_small, is_nonzero, is_calm, is_result_calm}
use Rattle.hp_analysis.specs.Measures.{small, result_measure, if_both, if_calm, measured}

-- the bound, if the expression is calm
abbrev bound_if : Bool → Option ℕ → Option (Option ℕ)
bound_if calm bound = if calm then Some bound else None

joined : (a b c : Bool) (m n k : Option ℕ) → if_both (bound_if a m) (bound_if b n) (λ x y. bound_if c k) ≡ bound_if ((a && b) && c) k
joined true true c m n k = refl
joined true false c m n k = refl
joined false b c m n k = refl

plain : (a b : Bool) (m n : Option ℕ) → if_both (bound_if a m) (bound_if b n) (λ x y. Some None) ≡ bound_if (a && b) None
plain true true m n = refl
plain true false m n = refl
plain false b m n = refl

alone : (a : Bool) (m : Option ℕ) → if_calm (bound_if a m) (λ x. Some None) ≡ bound_if a None
alone true m = refl
alone false m = refl

-- an operation on values of which the bounds are known
both_known : (op : Arithmetic) (a b : Bool) (x y : Expression)
    → if_both (bound_if a (magnitude x)) (bound_if b (magnitude y)) (λ m n. result_measure op m n (known_divisor y)) ≡ bound_if ((a && b) && is_result_calm op x y) (magnitude (arithmetic op x y))
both_known plus true true x y = refl
both_known minus true true x y = refl
both_known times true true x y = refl
both_known quotient true true x y = by (is_nonzero (known_divisor y)) (quotient_bound (magnitude x) (known_divisor y))
  where
    by : (b : Bool) (bound : Option ℕ) → (if b then small bound else None) ≡ bound_if (b && is_small bound) bound
    by true bound = refl
    by false bound = refl
both_known remainder true true x y = refl
both_known op true false x y = refl
both_known op false b x y = refl

less : (a : Bool) (x : Expression) → if_calm (bound_if a (magnitude x)) (λ m. small m) ≡ bound_if (a && is_small (magnitude x)) (magnitude (negated x))
less true x = refl
less false x = refl

pub measured_is : (e : Expression) → measured e ≡ bound_if (is_calm e) (magnitude e)
measured_is (constant v) = refl
measured_is (arithmetic op a b) =
    ap₂ (λ x y. if_both x y (λ m n. result_measure op m n (known_divisor b))) (measured_is a) (measured_is b) ∙ both_known op (is_calm a) (is_calm b) a b
measured_is (negated a) = ap (λ x. if_calm x (λ m. small m)) (measured_is a) ∙ less (is_calm a) a
measured_is (inverted a) = ap (λ x. if_calm x (λ m. Some None)) (measured_is a) ∙ alone (is_calm a) (magnitude a)
measured_is (both a b) = ap₂ (λ x y. if_both x y (λ m n. Some None)) (measured_is a) (measured_is b) ∙ plain (is_calm a) (is_calm b) (magnitude a) (magnitude b)
measured_is (either a b) = ap₂ (λ x y. if_both x y (λ m n. Some None)) (measured_is a) (measured_is b) ∙ plain (is_calm a) (is_calm b) (magnitude a) (magnitude b)
measured_is (compared op a b) = ap₂ (λ x y. if_both x y (λ m n. Some None)) (measured_is a) (measured_is b) ∙ plain (is_calm a) (is_calm b) (magnitude a) (magnitude b)
measured_is (field_of x f) = refl
measured_is (key_of x) = refl
measured_is (new_field i f) = refl
measured_is (old_field i f) = refl
measured_is (key_in i) = refl
measured_is (argument i j) = refl
measured_is (time_of i) = refl
measured_is occurrence_count = refl
measured_is (value_named x) = refl
measured_is time_now = refl

some_if : (b : Bool) (m : Option ℕ) → is_some (bound_if b m) ≡ b
some_if true m = refl
some_if false m = refl

pub measured_calm : (e : Expression) → is_some (measured e) ≡ is_calm e
measured_calm e = ap is_some (measured_is e) ∙ some_if (is_calm e) (magnitude e)
