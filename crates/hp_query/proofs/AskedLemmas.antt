-- Predicates that begin by asking for a part of a class, and their answers.
use Rattle.std.proofs.Common.{◌≡◌, refl, sym, ap, ap₂, ◌∙◌, ℕ, ℤ, Bool, true, false, not, ◌&&◌, List, Ok, Err, if◌then◌else◌, int_eq, int_lt, arith}
use Rattle.std.specs.Prelude.{bytes_eq}
use Rattle.std.specs.declared.cmp.Ordering.{Ordering}
use Rattle.std.specs.declared.cmp.Ordering.TheVariants.{Less, Equal, Greater}
use Rattle.std.specs.Ordering.{is_lt, is_eq, nat_cmp, ordering_reverse}
use Rattle.std.specs.Cmp.Lexicographic.{slice_cmp}
use Rattle.std.proofs.lemmas.Bool.Decides.{same_from_decides}
use Rattle.std.proofs.lemmas.Cmp.{int_eq_equiv, nat_list_cmp_total}
use Rattle.std.proofs.lemmas.Map.Text.{is_eq-slice_cmp}
use lib.Pointwise.{bytes_decides}
use Rattle.hp_model.specs.Values.{Name, Value, integer, boolean, text, KeyedRow, Cause, Outcome, ◌>>=◌}
use Rattle.hp_model.specs.Expressions.{Expression, Comparison, equal, unequal, less, at_most, greater, at_least, both, compared, Environment, bound, as_boolean, field_in, is_equal}
use Rattle.hp_model.specs.Expressions.{is_below, compare, row_named, value_of}
use Rattle.hp_model.specs.ClassParts.{Attribute, key_attribute, field_attribute, attribute_of, lies_within}
use Rattle.hp_query.specs.Parts.{IsTrueInside, AsksForPart, Compares, expression_of, turned, low_bound, high_bound, part_compared, is_comparison, is_true_at_bounds}
use Rattle.hp_query.proofs.ByKeyLemmas.{value_stays, no_more, own_row}

-- ---- two values that are in order aren't in the other order, and aren't equal

lower_once : (r : Ordering) → is_lt (ordering_reverse r) ≡ true → is_lt r ≡ false
lower_once Less h = cc
lower_once Equal h = cc
lower_once Greater h = refl

lower_apart : (r : Ordering) → is_lt r ≡ true → is_eq r ≡ false
lower_apart Less h = refl
lower_apart Equal h = cc
lower_apart Greater h = cc

numbers_once : (y z : ℤ) → int_lt y z ≡ true → int_lt z y ≡ false
numbers_once y z h = grind arith

numbers_apart : (y z : ℤ) → int_lt y z ≡ true → int_eq y z ≡ false
numbers_apart y z h = grind arith

texts_once : (s t : List ℕ) → is_lt (slice_cmp nat_cmp s t) ≡ true → is_lt (slice_cmp nat_cmp t s) ≡ false
texts_once s t h = lower_once (slice_cmp nat_cmp t s) (ap is_lt (sym (nat_list_cmp_total.antisymm s t)) ∙ h)

texts_apart : (s t : List ℕ) → is_lt (slice_cmp nat_cmp s t) ≡ true → bytes_eq s t ≡ false
texts_apart s t h = sym (is_eq-slice_cmp s t) ∙ lower_apart (slice_cmp nat_cmp s t) h

one_bool : {b c : Bool} → ◌≡◌ {A = Outcome Bool} (Ok b) (Ok c) → b ≡ c
one_bool e = cc

below_once : (v w : Value) → is_below v w ≡ Ok true → is_below w v ≡ Ok false
below_once (integer y) (integer z) h = ap Ok (numbers_once y z (one_bool h))
below_once (text s) (text t) h = ap Ok (texts_once s t (one_bool h))
below_once (integer y) (boolean c) h = cc
below_once (integer y) (text t) h = cc
below_once (boolean b) w h = cc
below_once (text s) (integer z) h = cc
below_once (text s) (boolean c) h = cc

below_apart : (v w : Value) → is_below v w ≡ Ok true → is_equal v w ≡ Ok false
below_apart (integer y) (integer z) h = ap Ok (numbers_apart y z (one_bool h))
below_apart (text s) (text t) h = ap Ok (texts_apart s t (one_bool h))
below_apart (integer y) (boolean c) h = cc
below_apart (integer y) (text t) h = cc
below_apart (boolean b) w h = cc
below_apart (text s) (integer z) h = cc
below_apart (text s) (boolean c) h = cc

bools_turn : (b c : Bool) → (if b then c else not c) ≡ (if c then b else not b)
bools_turn true true = refl
bools_turn true false = refl
bools_turn false true = refl
bools_turn false false = refl

equal_turn : (v w : Value) → is_equal v w ≡ is_equal w v
equal_turn (integer y) (integer z) = ap Ok (int_eq_equiv.symm y z)
equal_turn (boolean b) (boolean c) = ap Ok (bools_turn b c)
equal_turn (text s) (text t) = ap Ok (same_from_decides (bytes_eq s t) (bytes_eq t s) (bytes_decides s t) ((λ e. sym ((bytes_decides t s).0 e)), (λ e. (bytes_decides t s).1 (sym e))))
equal_turn (integer y) (boolean c) = refl
equal_turn (integer y) (text t) = refl
equal_turn (boolean b) (integer z) = refl
equal_turn (boolean b) (text t) = refl
equal_turn (text s) (integer z) = refl
equal_turn (text s) (boolean c) = refl

compare_turned : (op : Comparison) (v w : Value) → compare op v w ≡ compare (turned op) w v
compare_turned equal v w = equal_turn v w
compare_turned unequal v w = ap (λ (o : Outcome Bool). o >>= λ b. Ok (not b)) (equal_turn v w)
compare_turned less v w = refl
compare_turned at_most v w = refl
compare_turned greater v w = refl
compare_turned at_least v w = refl

-- ---- outside the bounds of a comparison it is false

too_low : (o : Outcome Bool) → ((o >>= λ b. Ok (not b)) >>= λ f. Ok (f && true)) ≡ Ok false → o ≡ Ok true
too_low (Ok true) h = refl
too_low (Ok false) h = cc
too_low (Err c) h = cc

too_high : (o : Outcome Bool) → ((o >>= λ b. Ok (not b)) >>= λ f. Ok (true && f)) ≡ Ok false → o ≡ Ok true
too_high (Ok true) h = refl
too_high (Ok false) h = cc
too_high (Err c) h = cc

turned_false : (o : Outcome Bool) → o ≡ Ok true → (o >>= λ b. Ok (not b)) ≡ Ok false
turned_false o is = ap (λ (o : Outcome Bool). o >>= λ b. Ok (not b)) is

outside_false : (op : Comparison) (v w : Value) → lies_within (low_bound op v) (high_bound op v) w ≡ Ok false → compare op w v ≡ Ok false
outside_false equal v w isnt = by (is_below w v) (is_below v w) refl refl isnt
  where
    by : (o p : Outcome Bool) → is_below w v ≡ o → is_below v w ≡ p → ((o >>= λ b. Ok (not b)) >>= λ f. (p >>= λ b. Ok (not b)) >>= λ g. Ok (f && g)) ≡ Ok false → is_equal w v ≡ Ok false
    by (Ok true) p is _ h = below_apart w v is
    by (Ok false) (Ok true) _ is h = equal_turn w v ∙ below_apart v w is
    by (Ok false) (Ok false) _ _ h = cc
    by (Ok false) (Err c) _ _ h = cc
    by (Err c) p _ _ h = cc
outside_false unequal v w isnt = cc
outside_false less v w isnt = below_once v w (too_high (is_below v w) isnt)
outside_false at_most v w isnt = turned_false (is_below v w) (too_high (is_below v w) isnt)
outside_false greater v w isnt = below_once w v (too_low (is_below w v) isnt)
outside_false at_least v w isnt = turned_false (is_below w v) (too_low (is_below w v) isnt)

-- ---- within the bounds of some comparisons they are true

numbers_same : (y z : ℤ) → int_lt y z ≡ false → int_lt z y ≡ false → int_eq y z ≡ true
numbers_same y z h k = grind arith

neither : (r : Ordering) → is_lt r ≡ false → is_lt (ordering_reverse r) ≡ false → is_eq r ≡ true
neither Less h k = cc
neither Equal h k = refl
neither Greater h k = cc

texts_same : (s t : List ℕ) → is_lt (slice_cmp nat_cmp s t) ≡ false → is_lt (slice_cmp nat_cmp t s) ≡ false → bytes_eq s t ≡ true
texts_same s t h k = sym (is_eq-slice_cmp s t) ∙ neither (slice_cmp nat_cmp s t) h (ap is_lt (sym (nat_list_cmp_total.antisymm t s)) ∙ k)

neither_below : (v w : Value) → is_below v w ≡ Ok false → is_below w v ≡ Ok false → is_equal v w ≡ Ok true
neither_below (integer y) (integer z) h k = ap Ok (numbers_same y z (one_bool h) (one_bool k))
neither_below (text s) (text t) h k = ap Ok (texts_same s t (one_bool h) (one_bool k))
neither_below (integer y) (boolean c) h k = cc
neither_below (integer y) (text t) h k = cc
neither_below (boolean b) w h k = cc
neither_below (text s) (integer z) h k = cc
neither_below (text s) (boolean c) h k = cc

high_enough : (o : Outcome Bool) → (o >>= λ f. Ok (f && true)) ≡ Ok true → o ≡ Ok true
high_enough (Ok true) h = refl
high_enough (Ok false) h = cc
high_enough (Err c) h = cc

low_enough : (o : Outcome Bool) → (o >>= λ f. Ok (true && f)) ≡ Ok true → o ≡ Ok true
low_enough (Ok true) h = refl
low_enough (Ok false) h = cc
low_enough (Err c) h = cc

inside_true : (op : Comparison) (v w : Value) → is_true_at_bounds op ≡ true → lies_within (low_bound op v) (high_bound op v) w ≡ Ok true → compare op w v ≡ Ok true
inside_true equal v w at is = by (is_below w v) (is_below v w) refl refl is
  where
    by : (o p : Outcome Bool) → is_below w v ≡ o → is_below v w ≡ p → ((o >>= λ b. Ok (not b)) >>= λ f. (p >>= λ b. Ok (not b)) >>= λ g. Ok (f && g)) ≡ Ok true → is_equal w v ≡ Ok true
    by (Ok false) (Ok false) is other h = neither_below w v is other
    by (Ok false) (Ok true) _ _ h = cc
    by (Ok true) (Ok false) _ _ h = cc
    by (Ok true) (Ok true) _ _ h = cc
    by (Ok true) (Err c) _ _ h = cc
    by (Ok false) (Err c) _ _ h = cc
    by (Err c) p _ _ h = cc
inside_true unequal v w at is = cc
inside_true less v w at is = cc
inside_true at_most v w at is = low_enough (compare at_most w v) is
inside_true greater v w at is = cc
inside_true at_least v w at is = high_enough (compare at_least w v) is

compared_inside : (op : Comparison) (o : Outcome Value) (v : Value) → is_true_at_bounds op ≡ true → (o >>= λ w. lies_within (low_bound op v) (high_bound op v) w) ≡ Ok true
    → (o >>= λ w. compare op w v) ≡ Ok true
compared_inside op (Ok w) v at is = inside_true op v w at is
compared_inside op (Err c) v at is = cc

both_true : (a b : Bool) → (a && b) ≡ true → (a ≡ true) × (b ≡ true)
both_true true b e = (refl, e)
both_true false b e = cc

-- where the predicate is such a comparison, it is true in the part
pub true_inside : {x : Name} {predicate : Expression} {a : Attribute} {op : Comparison} {wanted : Expression} → (is_comparison predicate ≡ true → Compares x predicate a op wanted)
    → (is_comparison predicate && is_true_at_bounds op) ≡ true → (env : Environment) (c : Cause) (v : Value) → row_named env x ≡ Err c → value_of env wanted ≡ Ok v
    → IsTrueInside env x predicate (part_compared a op v)
true_inside {predicate} {a} {op} is exact env c v free value =
    let (one, at) = both_true (is_comparison predicate) (is_true_at_bounds op) exact in
    record { inside = λ r within. (is one).compares env c v free value r ∙ compared_inside op (attribute_of a r) v at within }

-- ---- which predicates ask for a part

own_attribute : (env : Environment) (x : Name) (a : Attribute) (r : KeyedRow) → value_of (bound x r env) (expression_of x a) ≡ attribute_of a r
own_attribute env x key_attribute r = ap (λ (o : Outcome KeyedRow). o >>= λ q. Ok (integer q.key)) (own_row env x r)
own_attribute env x (field_attribute f) r = ap (λ (o : Outcome KeyedRow). o >>= λ q. field_in q.row f) (own_row env x r)

-- what a comparison of two outcomes is, as a boolean
abbrev compared_outcomes : Comparison → Outcome Value → Outcome Value → Outcome Bool
compared_outcomes op o p = (o >>= λ v. p >>= λ w. compare op v w >>= λ t. Ok (boolean t)) >>= λ v. as_boolean v

unwrapped : (o : Outcome Bool) → ((o >>= λ t. Ok (boolean t)) >>= λ u. as_boolean u) ≡ o
unwrapped (Ok t) = refl
unwrapped (Err c) = refl

left_compared : (op : Comparison) (o : Outcome Value) (v : Value) → compared_outcomes op o (Ok v) ≡ (o >>= λ w. compare op w v)
left_compared op (Ok w) v = unwrapped (compare op w v)
left_compared op (Err c) v = refl

right_compared : (op : Comparison) (o : Outcome Value) (v : Value) → compared_outcomes op (Ok v) o ≡ (o >>= λ w. compare (turned op) w v)
right_compared op (Ok w) v = unwrapped (compare op v w) ∙ compare_turned op v w
right_compared op (Err c) v = refl

pub compares_left : (x : Name) (op : Comparison) (a : Attribute) (b : Expression) → Compares x (compared op (expression_of x a) b) a op b
compares_left x op a b = record {
  compares = λ env c v free is r. ap₂ (compared_outcomes op) (own_attribute env x a r) ((value_stays env x r c free b).so v is) ∙ left_compared op (attribute_of a r) v;
}

pub compares_right : (x : Name) (op : Comparison) (a : Attribute) (b : Expression) → Compares x (compared op b (expression_of x a)) a (turned op) b
compares_right x op a b = record {
  compares = λ env c v free is r. ap₂ (compared_outcomes op) ((value_stays env x r c free b).so v is) (own_attribute env x a r) ∙ right_compared op (attribute_of a r) v;
}

compared_outside : (op : Comparison) (o : Outcome Value) (v : Value) → (o >>= λ w. lies_within (low_bound op v) (high_bound op v) w) ≡ Ok false → (o >>= λ w. compare op w v) ≡ Ok false
compared_outside op (Ok w) v isnt = outside_false op v w isnt
compared_outside op (Err c) v isnt = cc

pub asks_by : (x : Name) (predicate : Expression) (a : Attribute) (op : Comparison) (wanted : Expression) → Compares x predicate a op wanted → AsksForPart x predicate a op wanted
asks_by x predicate a op wanted is = record {
  asks = λ env c v free value. record {
    outside = λ r isnt. is.compares env c v free value r ∙ compared_outside op (attribute_of a r) v isnt;
  };
}

pub asks_through_both : (x : Name) (first second : Expression) (a : Attribute) (op : Comparison) (wanted : Expression) → AsksForPart x first a op wanted → AsksForPart x (both first second) a op wanted
asks_through_both x first second a op wanted asked = record {
  asks = λ env c v free is. record {
    outside = λ r isnt. no_more (value_of (bound x r env) first) (value_of (bound x r env) second) ((asked.asks env c v free is).outside r isnt);
  };
}
