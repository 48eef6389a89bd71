-- Whether two expressions of the model are the same, as a test that is true exactly where the two are equal.
use Rattle.std.specs.Prelude.{◌≡◌, refl, Bool, true, false, ◌&&◌, nat_eq, bytes_eq}
use Rattle.std.proofs.Common.{ap}
use lib.Pointwise.{bytes_decides}
use Rattle.std.specs.Bool.{Decides}
use Rattle.std.specs.Cmp.{IsEquivalence, decided, unsigned_Decides}
use Rattle.hp_model.specs.Expressions.{Arithmetic, plus, minus, times, quotient, remainder}
use Rattle.hp_model.specs.Expressions.{Comparison, equal, unequal, less, at_most, greater, at_least}
use Rattle.hp_model.specs.Expressions.{Expression, constant, arithmetic, negated, inverted, both, either, compared, field_of, key_of}
use Rattle.hp_model.specs.Expressions.{new_field, old_field, key_in, argument, time_of, occurrence_count, value_named, time_now}
use Rattle.hp_value.specs.Same.{value_same, value_decides, both_decide}

abbrev pub arithmetic_same : Arithmetic → Arithmetic → Bool
arithmetic_same plus plus = true
arithmetic_same minus minus = true
arithmetic_same times times = true
arithmetic_same quotient quotient = true
arithmetic_same remainder remainder = true
arithmetic_same o p = false

abbrev pub comparison_same : Comparison → Comparison → Bool
comparison_same equal equal = true
comparison_same unequal unequal = true
comparison_same less less = true
comparison_same at_most at_most = true
comparison_same greater greater = true
comparison_same at_least at_least = true
comparison_same o p = false

abbrev pub expression_same : Expression → Expression → Bool
expression_same (constant v) (constant w) = value_same v w
expression_same (arithmetic o a b) (arithmetic p c d) = arithmetic_same o p && (expression_same a c && expression_same b d)
expression_same (negated a) (negated b) = expression_same a b
expression_same (inverted a) (inverted b) = expression_same a b
expression_same (both a b) (both c d) = expression_same a c && expression_same b d
expression_same (either a b) (either c d) = expression_same a c && expression_same b d
expression_same (compared o a b) (compared p c d) = comparison_same o p && (expression_same a c && expression_same b d)
expression_same (field_of x f) (field_of y g) = bytes_eq x y && bytes_eq f g
expression_same (key_of x) (key_of y) = bytes_eq x y
expression_same (new_field i f) (new_field j g) = nat_eq i j && bytes_eq f g
expression_same (old_field i f) (old_field j g) = nat_eq i j && bytes_eq f g
expression_same (key_in i) (key_in j) = nat_eq i j
expression_same (argument i k) (argument j l) = nat_eq i j && nat_eq k l
expression_same (time_of i) (time_of j) = nat_eq i j
expression_same occurrence_count occurrence_count = true
expression_same (value_named x) (value_named y) = bytes_eq x y
expression_same time_now time_now = true
expression_same a b = false

-- ---- true exactly where the two are equal

arithmetic_decides : (o p : Arithmetic) → Decides (arithmetic_same o p) (o ≡ p)
arithmetic_decides plus plus = (λ e. refl, λ e. refl)
arithmetic_decides minus minus = (λ e. refl, λ e. refl)
arithmetic_decides times times = (λ e. refl, λ e. refl)
arithmetic_decides quotient quotient = (λ e. refl, λ e. refl)
arithmetic_decides remainder remainder = (λ e. refl, λ e. refl)
arithmetic_decides o p = (λ e. cc, λ e. cc)

comparison_decides : (o p : Comparison) → Decides (comparison_same o p) (o ≡ p)
comparison_decides equal equal = (λ e. refl, λ e. refl)
comparison_decides unequal unequal = (λ e. refl, λ e. refl)
comparison_decides less less = (λ e. refl, λ e. refl)
comparison_decides at_most at_most = (λ e. refl, λ e. refl)
comparison_decides greater greater = (λ e. refl, λ e. refl)
comparison_decides at_least at_least = (λ e. refl, λ e. refl)
comparison_decides o p = (λ e. cc, λ e. cc)

-- both of two tests
pub pair_decide : {P Q : Type 0} (a b : Bool) → Decides a P → Decides b Q → Decides (a && b) (P × Q)
pair_decide a b p q = both_decide a b p q (λ e f. (e, f)) (λ r. r)

pub expression_decides : (a b : Expression) → Decides (expression_same a b) (a ≡ b)
expression_decides (constant v) (constant w) = (λ e. ap constant ((value_decides v w).0 e), λ e. (value_decides v w).1 (cc))
expression_decides (arithmetic o a b) (arithmetic p c d) =
    both_decide _ _ (arithmetic_decides o p) (pair_decide _ _ (expression_decides a c) (expression_decides b d))
    (λ e f i. arithmetic (e i) (f.0 i) (f.1 i)) (λ e. (cc, (cc, cc)))
expression_decides (negated a) (negated b) = (λ e. ap negated ((expression_decides a b).0 e), λ e. (expression_decides a b).1 (cc))
expression_decides (inverted a) (inverted b) = (λ e. ap inverted ((expression_decides a b).0 e), λ e. (expression_decides a b).1 (cc))
expression_decides (both a b) (both c d) =
    both_decide _ _ (expression_decides a c) (expression_decides b d) (λ e f i. both (e i) (f i)) (λ e. (cc, cc))
expression_decides (either a b) (either c d) =
    both_decide _ _ (expression_decides a c) (expression_decides b d) (λ e f i. either (e i) (f i)) (λ e. (cc, cc))
expression_decides (compared o a b) (compared p c d) =
    both_decide _ _ (comparison_decides o p) (pair_decide _ _ (expression_decides a c) (expression_decides b d))
    (λ e f i. compared (e i) (f.0 i) (f.1 i)) (λ e. (cc, (cc, cc)))
expression_decides (field_of x f) (field_of y g) =
    both_decide _ _ (bytes_decides x y) (bytes_decides f g) (λ d e i. field_of (d i) (e i)) (λ e. (cc, cc))
expression_decides (key_of x) (key_of y) = (λ e. ap key_of ((bytes_decides x y).0 e), λ e. (bytes_decides x y).1 (cc))
expression_decides (new_field m f) (new_field n g) =
    both_decide _ _ (unsigned_Decides m n) (bytes_decides f g) (λ d e i. new_field (d i) (e i)) (λ e. (cc, cc))
expression_decides (old_field m f) (old_field n g) =
    both_decide _ _ (unsigned_Decides m n) (bytes_decides f g) (λ d e i. old_field (d i) (e i)) (λ e. (cc, cc))
expression_decides (key_in m) (key_in n) = (λ e. ap key_in ((unsigned_Decides m n).0 e), λ e. (unsigned_Decides m n).1 (cc))
expression_decides (argument m k) (argument n l) =
    both_decide _ _ (unsigned_Decides m n) (unsigned_Decides k l) (λ d e i. argument (d i) (e i)) (λ e. (cc, cc))
expression_decides (time_of m) (time_of n) = (λ e. ap time_of ((unsigned_Decides m n).0 e), λ e. (unsigned_Decides m n).1 (cc))
expression_decides occurrence_count occurrence_count = (λ e. refl, λ e. refl)
expression_decides (value_named x) (value_named y) = (λ e. ap value_named ((bytes_decides x y).0 e), λ e. (bytes_decides x y).1 (cc))
expression_decides time_now time_now = (λ e. refl, λ e. refl)
expression_decides a b = (λ e. cc, λ e. cc)

pub expression_equiv : IsEquivalence expression_same
expression_equiv = decided expression_same expression_decides
