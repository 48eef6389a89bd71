-- How far from 0 the integers are that expressions give, and arithmetic that never faults.
use native.Mathlib.Omega.{arith}
use Rattle.std.proofs.Common.{◌≡◌, refl, sym, ap, ◌∙◌, subst, ℕ, zero, suc, ℤ, pos, negsuc, ◌+◌, ◌*◌, ◌/◌, ◌≤◌, ◌<◌, Bool, true, ◌&&◌, IsTrue, [], Option, None, Some}
use Rattle.std.specs.Prelude.{⊤, ◌^◌, Ok, Err, bytes_eq, unsigned_abs, neg_ℤ, int_div, int_rem, ◌+ℤ◌, ◌-ℤ◌, ◌*ℤ◌, if◌then◌else◌}
use Rattle.std.specs.List.{AllByRecursion}
use Rattle.std.specs.Map.{lookup}
use Rattle.std.proofs.Math.IntN.{suc_ℤ, pred_ℤ, +ℤ-suc_ℤ, +ℤ-pred_ℤ, +ℤ_idr}
use Rattle.std.proofs.Math.Nat.{div-le_self, div-mul-le_self}
use Rattle.std.proofs.lemmas.Nat.{le-div, mul-le}
use Rattle.std.proofs.lemmas.Int.{unsigned_abs-mul, rem_below}
use Rattle.std.proofs.lemmas.Bool.{and_parts, ltb-true}
use Rattle.hp_model.specs.Values.{Name, Value, integer, boolean, text, KeyedRow, wrong_kind, overflow, divide_by_zero, Outcome, ◌>>=◌, fits_64}
use Rattle.hp_model.specs.Expressions.{Arithmetic, plus, minus, times, quotient, remainder, Expression, constant, arithmetic, negated, inverted, both, either, compared, field_of}
use Rattle.hp_model.specs.Expressions.{key_of, new_field, old_field, key_in, argument, time_of, occurrence_count, value_named, time_now, Environment, as_integer, in_range}
use Rattle.hp_model.specs.Expressions.{calculate, row_named, value_of}
use Rattle.hp_model.specs.Rules.{Library}
use Rattle.hp_model.specs.Ranges.{expression_fits}
use Rattle.hp_model.specs.Kinds.{bounded_by, known_divisor, quotient_bound, magnitude, is_small, is_nonzero, is_result_calm}
use Rattle.hp_model.proofs.FitValues.{Gives, Gives-value, Gives-none, Gives-any, Gives-then, Gives-if, Gives-or, each_found, ValueFits, KeyedFits, OptionFits, unsigned_fits}
use Rattle.hp_model.proofs.FitValues.{fits_unsigned, field_gives, value_gives}

-- ---- distances from 0

suc_abs : (z : ℤ) → unsigned_abs (suc_ℤ z) ≤ suc (unsigned_abs z)
suc_abs (pos n) = omega arith
suc_abs (negsuc zero) = omega arith
suc_abs (negsuc (suc n)) = omega arith

pred_abs : (z : ℤ) → unsigned_abs (pred_ℤ z) ≤ suc (unsigned_abs z)
pred_abs (pos zero) = omega arith
pred_abs (pos (suc n)) = omega arith
pred_abs (negsuc n) = omega arith

add_abs : (z y : ℤ) → unsigned_abs (z +ℤ y) ≤ unsigned_abs z + unsigned_abs y
add_abs z (pos zero) = let same = ap unsigned_abs (+ℤ_idr z) in omega (arith, same)
add_abs z (pos (suc n)) = let one = suc_abs (z +ℤ pos n) in let more = add_abs z (pos n) in let same = ap unsigned_abs (+ℤ-suc_ℤ z (pos n)) in omega (arith, one, more, same)
add_abs z (negsuc zero) = let one = pred_abs z in let same = ap unsigned_abs (+ℤ-pred_ℤ z (pos zero) ∙ ap pred_ℤ (+ℤ_idr z)) in omega (arith, one, same)
add_abs z (negsuc (suc n)) = let one = pred_abs (z +ℤ negsuc n) in let more = add_abs z (negsuc n) in let same = ap unsigned_abs (+ℤ-pred_ℤ z (negsuc n)) in omega (arith, one, more, same)

neg_abs : (x : ℤ) → unsigned_abs (neg_ℤ x) ≡ unsigned_abs x
neg_abs (pos zero) = refl
neg_abs (pos (suc n)) = refl
neg_abs (negsuc n) = refl

sub_abs : (x y : ℤ) → unsigned_abs (x -ℤ y) ≤ unsigned_abs x + unsigned_abs y
sub_abs x y = subst (λ n. unsigned_abs (x -ℤ y) ≤ unsigned_abs x + n) (neg_abs y) (add_abs x (neg_ℤ y))

div_abs : (x y : ℤ) → unsigned_abs (int_div x y) ≡ unsigned_abs x / unsigned_abs y
div_abs (pos m) (pos n) = refl
div_abs (pos m) (negsuc n) = neg_abs (pos (m / suc n))
div_abs (negsuc m) (pos n) = neg_abs (pos (suc m / n))
div_abs (negsuc m) (negsuc n) = refl

-- ---- bounds

-- the value, if it is an integer, is within the bound, if there is one
abbrev pub Near : Option ℕ → Value → Type 0
Near None v = ⊤
Near (Some m) v = (z : ℤ) → v ≡ integer z → unsigned_abs z ≤ m

near_integer : (o : Option ℕ) (z : ℤ) → ((m : ℕ) → o ≡ Some m → unsigned_abs z ≤ m) → Near o (integer z)
near_integer None z h = tt
near_integer (Some m) z h = λ y e. let same : z ≡ y = cc in subst (λ x. unsigned_abs x ≤ m) same (h m refl)

abbrev NearInteger : Option ℕ → ℤ → Type 0
NearInteger o z = (m : ℕ) → o ≡ Some m → unsigned_abs z ≤ m

from_near : (o : Option ℕ) (v : Value) (z : ℤ) → Near o v → v ≡ integer z → NearInteger o z
from_near None v z h is m e = cc
from_near (Some k) v z h is m e = let same : k ≡ m = cc in subst (λ n. unsigned_abs z ≤ n) same (h z is)

not_integer : (o : Option ℕ) (b : Bool) → Near o (boolean b)
not_integer None b = tt
not_integer (Some m) b = λ z e. cc

-- the divisor, if it is known, is the constant
abbrev Known : Option ℕ → ℤ → Type 0
Known o y = (d : ℕ) → o ≡ Some d → unsigned_abs y ≡ d

near_range : (o : Option ℕ) (z : ℤ) → NearInteger o z → Gives (Near o) (in_range z)
near_range o z h = Gives-if (fits_64 z) (integer z) overflow (λ _. near_integer o z h)

two_bounds : (f : ℕ → ℕ → ℕ) (o p : Option ℕ) (x y z : ℤ) → NearInteger o x → NearInteger p y → ((m n : ℕ) → unsigned_abs x ≤ m → unsigned_abs y ≤ n → unsigned_abs z ≤ f m n)
    → NearInteger (bounded_by f o p) z
two_bounds f None p x y z h k result m e = cc
two_bounds f (Some a) None x y z h k result m e = cc
two_bounds f (Some a) (Some b) x y z h k result m e = let same : f a b ≡ m = cc in subst (λ n. unsigned_abs z ≤ n) same (result a b (h a refl) (k b refl))

product_below : (x y : ℤ) (m n : ℕ) → unsigned_abs x ≤ m → unsigned_abs y ≤ n → unsigned_abs (x *ℤ y) ≤ m * n
product_below x y m n h k = subst (λ p. p ≤ m * n) (sym (unsigned_abs-mul x y)) (mul-le (unsigned_abs x) (unsigned_abs y) m n h k)

quotient_below : (q m k d : ℕ) → q ≡ m / suc d → m ≤ k → q ≤ k / suc d
quotient_below q m k d is low =
    let part = div-mul-le_self m (suc d) in
    subst (λ n. n ≤ k / suc d) (sym is) (le-div (m / suc d) k (suc d) (omega arith) (omega (arith, part, low)))

-- the quotient by a divisor that isn't 0
quotient_near : (o d : Option ℕ) (x y : ℤ) (k : ℕ) → unsigned_abs y ≡ suc k → NearInteger o x → Known d y → NearInteger (quotient_bound o d) (int_div x y)
quotient_near None None x y k is h known m e = cc
quotient_near None (Some zero) x y k is h known m e = cc
quotient_near None (Some (suc d)) x y k is h known m e = cc
quotient_near (Some b) None x y k is h known m e = let same : b ≡ m = cc in
    let low = h b refl in let less = div-le_self (unsigned_abs x) (unsigned_abs y) in let whole = div_abs x y in omega (arith, same, low, less, whole)
quotient_near (Some b) (Some zero) x y k is h known m e = let zero_is = known zero refl in absurd (omega (arith, zero_is, is))
quotient_near (Some b) (Some (suc d)) x y k is h known m e =
    let same : b / suc d ≡ m = cc in
    subst (λ n. unsigned_abs (int_div x y) ≤ n) same (quotient_below (unsigned_abs (int_div x y)) (unsigned_abs x) b d (div_abs x y ∙ ap (λ n. unsigned_abs x / n) (known (suc d) refl)) (h b refl))

-- what an operation gives, from the bounds of its operands
abbrev result_bound : Arithmetic → Option ℕ → Option ℕ → Option ℕ → Option ℕ
result_bound plus o p d = bounded_by ◌+◌ o p
result_bound minus o p d = bounded_by ◌+◌ o p
result_bound times o p d = bounded_by ◌*◌ o p
result_bound quotient o p d = quotient_bound o d
result_bound remainder o p d = p

calculate_near : (op : Arithmetic) (o p d : Option ℕ) (x y : ℤ) → NearInteger o x → NearInteger p y → Known d y → Gives (Near (result_bound op o p d)) (calculate op x y)
calculate_near plus o p d x y h k known = near_range (bounded_by ◌+◌ o p) (x +ℤ y) (two_bounds ◌+◌ o p x y (x +ℤ y) h k (λ m n a b. let sum = add_abs x y in omega (arith, a, b, sum)))
calculate_near minus o p d x y h k known = near_range (bounded_by ◌+◌ o p) (x -ℤ y) (two_bounds ◌+◌ o p x y (x -ℤ y) h k (λ m n a b. let sum = sub_abs x y in omega (arith, a, b, sum)))
calculate_near times o p d x y h k known = near_range (bounded_by ◌*◌ o p) (x *ℤ y) (two_bounds ◌*◌ o p x y (x *ℤ y) h k (λ m n a b. product_below x y m n a b))
calculate_near quotient o p d x (pos zero) h k known = Gives-none divide_by_zero
calculate_near quotient o p d x (pos (suc n)) h k known = near_range (quotient_bound o d) (int_div x (pos (suc n))) (quotient_near o d x (pos (suc n)) n refl h known)
calculate_near quotient o p d x (negsuc n) h k known = near_range (quotient_bound o d) (int_div x (negsuc n)) (quotient_near o d x (negsuc n) n refl h known)
calculate_near remainder o p d x (pos zero) h k known = Gives-none divide_by_zero
calculate_near remainder o p d x (pos (suc n)) h k known =
    Gives-then (Gives-any (in_range (int_div x (pos (suc n))))) λ v _. Gives-value (integer (int_rem x (pos (suc n))))
    (near_integer p (int_rem x (pos (suc n))) (λ m e. let low = rem_below x (pos (suc n)) (omega arith) in let high = k m e in omega (arith, low, high)))
calculate_near remainder o p d x (negsuc n) h k known =
    Gives-then (Gives-any (in_range (int_div x (negsuc n)))) λ v _. Gives-value (integer (int_rem x (negsuc n)))
    (near_integer p (int_rem x (negsuc n)) (λ m e. let low = rem_below x (negsuc n) (omega arith) in let high = k m e in omega (arith, low, high)))

-- ---- expressions

number_of : (v : Value) → Gives (λ z. v ≡ integer z) (as_integer v)
number_of (integer z) = Gives-value z refl
number_of (boolean b) = Gives-none wrong_kind
number_of (text s) = Gives-none wrong_kind

by_bits : (v : Value) → ValueFits v → Near (Some (2 ^ 63)) v
by_bits v fits = λ z e. fits_unsigned z (subst ValueFits e fits)

Gives-weaker : {A : Type 0} {P Q : A → Type 0} {o : Outcome A} → ((x : A) → P x → Q x) → Gives P o → Gives Q o
Gives-weaker next gives = record { fact = λ x e. next x (gives.fact x e) }

Gives-both : {A : Type 0} {P Q : A → Type 0} {o : Outcome A} → Gives P o → Gives Q o → Gives (λ x. P x × Q x) o
Gives-both one two = record { fact = λ x e. (one.fact x e, two.fact x e) }

abbrev pub KnownValue : Expression → Value → Type 0
KnownValue e v = (z : ℤ) → v ≡ integer z → Known (known_divisor e) z

none_known : (v : Value) (z : ℤ) → v ≡ integer z → Known None z
none_known v z is d e = cc

-- what a constant divisor is
pub known_value : (env : Environment) (e : Expression) → Gives (KnownValue e) (value_of env e)
known_value env (constant (integer z)) = Gives-value (integer z) (λ y is d e. let same : z ≡ y = cc in let so : unsigned_abs z ≡ d = cc in subst (λ x. unsigned_abs x ≡ d) same so)
known_value env (constant (boolean b)) = Gives-value (boolean b) (λ y is d e. cc)
known_value env (constant (text s)) = Gives-value (text s) (λ y is d e. cc)
known_value env (arithmetic op a b) = Gives-weaker (λ v _. none_known v) (Gives-any (value_of env (arithmetic op a b)))
known_value env (negated a) = Gives-weaker (λ v _. none_known v) (Gives-any (value_of env (negated a)))
known_value env (inverted a) = Gives-weaker (λ v _. none_known v) (Gives-any (value_of env (inverted a)))
known_value env (both a b) = Gives-weaker (λ v _. none_known v) (Gives-any (value_of env (both a b)))
known_value env (either a b) = Gives-weaker (λ v _. none_known v) (Gives-any (value_of env (either a b)))
known_value env (compared op a b) = Gives-weaker (λ v _. none_known v) (Gives-any (value_of env (compared op a b)))
known_value env (field_of x f) = Gives-weaker (λ v _. none_known v) (Gives-any (value_of env (field_of x f)))
known_value env (key_of x) = Gives-weaker (λ v _. none_known v) (Gives-any (value_of env (key_of x)))
known_value env (new_field i f) = Gives-weaker (λ v _. none_known v) (Gives-any (value_of env (new_field i f)))
known_value env (old_field i f) = Gives-weaker (λ v _. none_known v) (Gives-any (value_of env (old_field i f)))
known_value env (key_in i) = Gives-weaker (λ v _. none_known v) (Gives-any (value_of env (key_in i)))
known_value env (argument i j) = Gives-weaker (λ v _. none_known v) (Gives-any (value_of env (argument i j)))
known_value env (time_of i) = Gives-weaker (λ v _. none_known v) (Gives-any (value_of env (time_of i)))
known_value env occurrence_count = Gives-weaker (λ v _. none_known v) (Gives-any (value_of env occurrence_count))
known_value env (value_named x) = Gives-weaker (λ v _. none_known v) (Gives-any (value_of env (value_named x)))
known_value env time_now = Gives-weaker (λ v _. none_known v) (Gives-any (value_of env time_now))

module _ (library : Library) (env : Environment) (parts : OptionFits library env.occurrence) (rows : AllByRecursion (λ (b : Name × KeyedRow). KeyedFits b.1) env.rows) where
  -- the parts of the occurrence, without names
  abbrev nameless : Environment
  nameless = record { occurrence = env.occurrence; rows = []; values = []; now = env.now }

  of_parts : (e : Expression) → IsTrue (expression_fits e) → Gives ValueFits (value_of nameless e)
  of_parts e fits = value_gives library nameless (parts, tt, tt) e fits

  row_found : (x : Name) → Gives KeyedFits (row_named env x)
  row_found x = Gives-or (lookup (bytes_eq x) env.rows) wrong_kind (λ r is. each_found KeyedFits (bytes_eq x) env.rows r rows is)

  pub near_value : (e : Expression) → Gives (Near (magnitude e)) (value_of env e)
  near_value (constant (integer z)) = Gives-value (integer z) (near_integer (Some (unsigned_abs z)) z (λ m e. let same : unsigned_abs z ≡ m = cc in omega (arith, same)))
  near_value (constant (boolean b)) = Gives-value (boolean b) tt
  near_value (constant (text s)) = Gives-value (text s) tt
  near_value (arithmetic op a b) =
      Gives-then (near_value a) λ v hv.
      Gives-then (Gives-both (near_value b) (known_value env b)) λ w hw.
      Gives-then (number_of v) λ x is_x.
      Gives-then (number_of w) λ y is_y.
      of_op op (calculate_near op (magnitude a) (magnitude b) (known_divisor b) x y (from_near (magnitude a) v x hv is_x) (from_near (magnitude b) w y hw.0 is_y) (hw.1 y is_y))
    where
      of_op : (o : Arithmetic) {out : Outcome Value} → Gives (Near (result_bound o (magnitude a) (magnitude b) (known_divisor b))) out → Gives (Near (magnitude (arithmetic o a b))) out
      of_op plus h = h
      of_op minus h = h
      of_op times h = h
      of_op quotient h = h
      of_op remainder h = h
  near_value (negated a) =
      Gives-then (near_value a) λ v hv.
      Gives-then (number_of v) λ x is_x. near_range (magnitude a) (neg_ℤ x) (λ m e. let same = neg_abs x in let low = from_near (magnitude a) v x hv is_x m e in omega (arith, same, low))
  near_value (inverted a) = Gives-weaker (λ v _. tt) (Gives-any (value_of env (inverted a)))
  near_value (both a b) = Gives-weaker (λ v _. tt) (Gives-any (value_of env (both a b)))
  near_value (either a b) = Gives-weaker (λ v _. tt) (Gives-any (value_of env (either a b)))
  near_value (compared op a b) = Gives-weaker (λ v _. tt) (Gives-any (value_of env (compared op a b)))
  near_value (field_of x f) =
      Gives-then (row_found x) λ r hr.
      Gives-weaker by_bits (field_gives r.row f hr.1)
  near_value (key_of x) = Gives-then (row_found x) λ r hr. Gives-value (integer r.key) (by_bits (integer r.key) hr.0)
  near_value (new_field i f) = Gives-weaker by_bits (of_parts (new_field i f) refl)
  near_value (old_field i f) = Gives-weaker by_bits (of_parts (old_field i f) refl)
  near_value (key_in i) = Gives-weaker by_bits (of_parts (key_in i) refl)
  near_value (argument i j) = Gives-weaker by_bits (of_parts (argument i j) refl)
  near_value (time_of i) = Gives-weaker by_bits (of_parts (time_of i) refl)
  near_value occurrence_count = Gives-weaker by_bits (of_parts occurrence_count refl)
  near_value (value_named x) = Gives-weaker (λ v _. tt) (Gives-any (value_of env (value_named x)))
  near_value time_now = Gives-weaker by_bits (of_parts time_now refl)

-- ---- calm operations

small_fits : (o : Option ℕ) (z : ℤ) → is_small o ≡ true → NearInteger o z → IsTrue (fits_64 z)
small_fits None z e h = cc
small_fits (Some m) z e h = let low = ltb-true m (2 ^ 63) e in let near = h m refl in unsigned_fits z (omega (arith, low, near))

nonzero : (o : Option ℕ) (y : ℤ) → is_nonzero o ≡ true → Known o y → 0 < unsigned_abs y
nonzero None y e known = cc
nonzero (Some d) y e known = let low = ltb-true 0 d e in let same = known d refl in omega (arith, low, same)

quotient_fits : (o d : Option ℕ) (x y : ℤ) → (is_nonzero d && is_small (quotient_bound o d)) ≡ true → NearInteger o x → Known d y → IsTrue (fits_64 (int_div x y)) × (0 < unsigned_abs y)
quotient_fits o d x y e h known =
    let both_hold = and_parts (is_nonzero d) (is_small (quotient_bound o d)) e in
    let some = nonzero d y both_hold.0 known in
    (small_fits (quotient_bound o d) (int_div x y) both_hold.1 (by (unsigned_abs y) refl some), some)
  where
    by : (n : ℕ) → unsigned_abs y ≡ n → 0 < n → NearInteger (quotient_bound o d) (int_div x y)
    by zero is low = absurd (omega (arith, low))
    by (suc k) is low = quotient_near o d x y k is h known

-- a calm operation gives an integer
abbrev pub GivesInteger : Outcome Value → Type 0
GivesInteger o = (z : ℤ) × (o ≡ Ok (integer z))

range_gives : (z : ℤ) → IsTrue (fits_64 z) → GivesInteger (in_range z)
range_gives z fits = (z, ap (λ b. if b then Ok (integer z) else Err overflow) fits)

quotient_gives : (x y : ℤ) → 0 < unsigned_abs y → IsTrue (fits_64 (int_div x y)) → GivesInteger (calculate quotient x y)
quotient_gives x (pos zero) low fits = absurd (omega (arith, low))
quotient_gives x (pos (suc n)) low fits = range_gives (int_div x (pos (suc n))) fits
quotient_gives x (negsuc n) low fits = range_gives (int_div x (negsuc n)) fits

remainder_gives : (x y : ℤ) → 0 < unsigned_abs y → IsTrue (fits_64 (int_div x y)) → GivesInteger (calculate remainder x y)
remainder_gives x (pos zero) low fits = absurd (omega (arith, low))
remainder_gives x (pos (suc n)) low fits =
    let got = range_gives (int_div x (pos (suc n))) fits in
    (int_rem x (pos (suc n)), ap (λ (o : Outcome Value). o >>= λ _. Ok (integer (int_rem x (pos (suc n))))) got.1)
remainder_gives x (negsuc n) low fits =
    let got = range_gives (int_div x (negsuc n)) fits in
    (int_rem x (negsuc n), ap (λ (o : Outcome Value). o >>= λ _. Ok (integer (int_rem x (negsuc n)))) got.1)

pub calm_gives : (op : Arithmetic) (a b : Expression) (v w : Value) (x y : ℤ) → is_result_calm op a b ≡ true → Near (magnitude a) v → Near (magnitude b) w
    → KnownValue b w → v ≡ integer x → w ≡ integer y → GivesInteger (calculate op x y)
calm_gives plus a b v w x y e h k known is_x is_y =
    range_gives (x +ℤ y) (small_fits (bounded_by ◌+◌ (magnitude a) (magnitude b)) (x +ℤ y) e
    (two_bounds ◌+◌ (magnitude a) (magnitude b) x y (x +ℤ y) (from_near (magnitude a) v x h is_x) (from_near (magnitude b) w y k is_y) (λ m n l r. let sum = add_abs x y in omega (arith, l, r, sum))))
calm_gives minus a b v w x y e h k known is_x is_y =
    range_gives (x -ℤ y) (small_fits (bounded_by ◌+◌ (magnitude a) (magnitude b)) (x -ℤ y) e
    (two_bounds ◌+◌ (magnitude a) (magnitude b) x y (x -ℤ y) (from_near (magnitude a) v x h is_x) (from_near (magnitude b) w y k is_y) (λ m n l r. let sum = sub_abs x y in omega (arith, l, r, sum))))
calm_gives times a b v w x y e h k known is_x is_y =
    range_gives (x *ℤ y) (small_fits (bounded_by ◌*◌ (magnitude a) (magnitude b)) (x *ℤ y) e
    (two_bounds ◌*◌ (magnitude a) (magnitude b) x y (x *ℤ y) (from_near (magnitude a) v x h is_x) (from_near (magnitude b) w y k is_y) (λ m n l r. product_below x y m n l r)))
calm_gives quotient a b v w x y e h k known is_x is_y =
    let fits = quotient_fits (magnitude a) (known_divisor b) x y e (from_near (magnitude a) v x h is_x) (known y is_y) in
    quotient_gives x y fits.1 fits.0
calm_gives remainder a b v w x y e h k known is_x is_y =
    let fits = quotient_fits (magnitude a) (known_divisor b) x y e (from_near (magnitude a) v x h is_x) (known y is_y) in
    remainder_gives x y fits.1 fits.0

pub calm_negation : (a : Expression) (v : Value) (x : ℤ) → is_small (magnitude a) ≡ true → Near (magnitude a) v → v ≡ integer x → GivesInteger (in_range (neg_ℤ x))
calm_negation a v x e h is_x =
    range_gives (neg_ℤ x) (small_fits (magnitude a) (neg_ℤ x) e (λ m is. let same = neg_abs x in let low = from_near (magnitude a) v x h is_x m is in omega (arith, same, low)))
