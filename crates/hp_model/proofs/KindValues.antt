-- Kinded expressions give values of their sorts, or end with a cause of arithmetic.
use Rattle.std.proofs.Common.{◌≡◌, refl, subst, sym, ap, ◌∙◌, ℕ, zero, suc, ℤ, pos, negsuc, List, [], ◌∷◌, Option, None, Some, Bool, true, false, ◌&&◌, cond, IsTrue, nat_lt, length}
use Rattle.std.proofs.lemmas.Bool.{and_parts}
use Rattle.std.proofs.lemmas.Bool.Decides.{Decides-eqb}
use Rattle.std.specs.Prelude.{⊤, Ok, Err, bytes_eq, slice_get, int_div, int_rem, neg_ℤ, if◌then◌else◌, ◌+ℤ◌, ◌-ℤ◌, ◌*ℤ◌, not, ◌==◌, ◌||◌, is_some, option_map}
use Rattle.std.specs.Bool.{then_some}
use Rattle.std.specs.List.{AllByRecursion, list_any}
use Rattle.std.specs.Map.{lookup}
use lib.Pointwise.{bytes_decides}
use Rattle.hp_model.specs.Values.{Name, NamedValues, Kind, integer_kind, boolean_kind, text_kind, Field, kind_of, is_kind, row_fits, Value, integer, boolean, text, Row, KeyedRow}
use Rattle.hp_model.specs.Values.{Cause, exists, missing, wrong_kind, overflow, divide_by_zero, no_parameter, depth_exceeded, requested, vetoed, Outcome, ◌>>=◌, or_cause, fits_64}
use Rattle.hp_model.specs.Values.{value_fits}
use Rattle.hp_model.specs.Occurrences.{Primitive, created, updated, deleted, signalled, commit_reached, moment_reached, Occurrence}
use Rattle.hp_model.specs.Events.{Pattern, on_create, on_update, on_delete, on_signal, on_commit, at_moment, every_moment, matches}
use Rattle.hp_model.specs.Expressions.{Arithmetic, plus, minus, times, quotient, remainder, Comparison, equal, unequal, less, at_most, greater, at_least, Expression, constant}
use Rattle.hp_model.specs.Expressions.{arithmetic, negated, inverted, both, either, compared, field_of, key_of, new_field, old_field, key_in, argument, time_of, occurrence_count}
use Rattle.hp_model.specs.Expressions.{value_named, time_now, Environment, as_integer, as_boolean, in_range, calculate, is_below, is_equal, compare, part_of, row_named, value_at}
use Rattle.hp_model.specs.Expressions.{field_in, new_row, old_row, operation_key, argument_of, moment_of, count_in, value_of}
use Rattle.hp_model.specs.Rules.{Library, class_at}
use Rattle.hp_model.specs.State.{object_fits, primitive_fits}
use Rattle.hp_model.specs.Firing.{kind_in}
use Rattle.hp_model.specs.Kinds.{Sort, only, any, only_if, has_sort, Declared, signature_of, covers, is_declared, Columns, Scope, is_only, meets, meet, common, common_at}
use Rattle.hp_model.specs.Kinds.{part_sort, field_sort, new_sort, old_sort, key_sort, argument_sort, moment_sort, named_sort, are_alike, are_ordered, are_comparable, sort_of}
use Rattle.hp_model.specs.Kinds.{magnitude, is_small, is_result_calm, is_calm, NotOfKinds}
use Rattle.hp_model.proofs.FitValues as Fact
use Rattle.hp_model.proofs.FitValues.{KeyedFits, PrimitiveFits, OptionFits, values_fit}
use Rattle.hp_model.proofs.Magnitudes.{Near, near_value, known_value, GivesInteger, calm_gives, calm_negation}

-- ---- outcomes

-- the cause of an arithmetic operation
abbrev pub IsArithmetic : Cause → Type 0
IsArithmetic exists = ⊥
IsArithmetic missing = ⊥
IsArithmetic wrong_kind = ⊥
IsArithmetic overflow = ⊤
IsArithmetic divide_by_zero = ⊤
IsArithmetic no_parameter = ⊥
IsArithmetic depth_exceeded = ⊥
IsArithmetic requested = ⊥
IsArithmetic (vetoed rule) = ⊥

-- the cause of an expression's arithmetic, if it has any
abbrev pub ArithmeticOf : Expression → Cause → Type 0
ArithmeticOf e c = IsArithmetic c × (is_calm e ≡ false)

-- the value of an outcome has a property, or its cause has one
pub record Safe {A : Type 0} (C : Cause → Type 0) (P : A → Type 0) (o : Outcome A) : Type 0 where
  pub value : (x : A) → o ≡ Ok x → P x
  pub cause : (c : Cause) → o ≡ Err c → C c

pub Safe-value : {A : Type 0} {C : Cause → Type 0} {P : A → Type 0} (x : A) → P x → Safe C P (Ok x)
Safe-value {P = P} x h = record { value = λ y e. let same : x ≡ y = cc in subst P same h; cause = λ c e. cc }

pub Safe-cause : {A : Type 0} {C : Cause → Type 0} {P : A → Type 0} (c : Cause) → C c → Safe C P (Err c)
Safe-cause {C = C} c h = record { value = λ y e. cc; cause = λ d e. let same : c ≡ d = cc in subst C same h }

pub Safe-then : {A B : Type 0} {C : Cause → Type 0} {P : A → Type 0} {Q : B → Type 0} {o : Outcome A} {f : A → Outcome B}
    → Safe C P o → ((x : A) → P x → Safe C Q (f x)) → Safe C Q (o >>= f)
Safe-then {o = Ok x} safe next = record { value = λ y e. (next x (safe.value x refl)).value y e; cause = λ c e. (next x (safe.value x refl)).cause c e }
Safe-then {C = C} {o = Err c} safe next = record { value = λ y e. cc; cause = λ d e. let same : c ≡ d = cc in subst C same (safe.cause c refl) }

pub Safe-if : {A : Type 0} {C : Cause → Type 0} {P : A → Type 0} (b : Bool) (x : A) (c : Cause) → P x → C c → Safe C P (if b then Ok x else Err c)
Safe-if true x c h k = Safe-value x h
Safe-if false x c h k = Safe-cause c k

pub Safe-some : {A : Type 0} {C : Cause → Type 0} {P : A → Type 0} (o : Option A) (x : A) (c : Cause) → o ≡ Some x → P x → Safe C P (or_cause o c)
Safe-some None x c e h = cc
Safe-some {P = P} (Some y) x c e h = let same : x ≡ y = cc in Safe-value y (subst P same h)

pub Safe-weaker : {A : Type 0} {C D : Cause → Type 0} {P Q : A → Type 0} {o : Outcome A} → ((c : Cause) → C c → D c) → ((x : A) → P x → Q x) → Safe C P o → Safe D Q o
Safe-weaker causes values safe = record { value = λ x e. values x (safe.value x e); cause = λ c e. causes c (safe.cause c e) }

pub not_of_kinds : (c : Cause) → IsArithmetic c → NotOfKinds c
not_of_kinds exists h = tt
not_of_kinds missing h = tt
not_of_kinds wrong_kind h = h
not_of_kinds overflow h = tt
not_of_kinds divide_by_zero h = tt
not_of_kinds no_parameter h = h
not_of_kinds depth_exceeded h = tt
not_of_kinds requested h = tt
not_of_kinds (vetoed rule) h = tt

-- ---- tests

pub some_if : {A : Type 0} (b : Bool) (x y : A) → then_some b x ≡ Some y → (b ≡ true) × (x ≡ y)
some_if true x y e = (refl, cc)
some_if false x y e = cc

pub same_kind : (k l : Kind) → is_kind k l ≡ true → k ≡ l
same_kind integer_kind integer_kind e = refl
same_kind integer_kind boolean_kind e = cc
same_kind integer_kind text_kind e = cc
same_kind boolean_kind integer_kind e = cc
same_kind boolean_kind boolean_kind e = refl
same_kind boolean_kind text_kind e = cc
same_kind text_kind integer_kind e = cc
same_kind text_kind boolean_kind e = cc
same_kind text_kind text_kind e = refl

pub kind_itself : (k : Kind) → is_kind k k ≡ true
kind_itself integer_kind = refl
kind_itself boolean_kind = refl
kind_itself text_kind = refl

pub only_is : (k : Kind) (o : Option Sort) → is_only k o ≡ true → o ≡ Some (only k)
only_is k None e = cc
only_is k (Some any) e = cc
only_is k (Some (only l)) e = ap (λ j. Some (only j)) (sym (same_kind k l e))

alike_is : (a b : Option Sort) → are_alike a b ≡ true → (k : Kind) × (a ≡ Some (only k)) × (b ≡ Some (only k))
alike_is None b e = cc
alike_is (Some any) b e = cc
alike_is (Some (only k)) b e = (k, refl, only_is k b e)

pub either_is : (a b : Bool) → (a || b) ≡ true → (P : Type 0) → (a ≡ true → P) → (b ≡ true → P) → P
either_is true b e P f g = f refl
either_is false b e P f g = g e

-- ---- computations

abbrev pub IsOf : Kind → Value → Type 0
IsOf k v = IsTrue (is_kind k (kind_of v))

abbrev pub Gives : (Cause → Type 0) → Kind → Outcome Value → Type 0
Gives C k o = Safe C (IsOf k) o

pub range_safe : (z : ℤ) → Gives IsArithmetic integer_kind (in_range z)
range_safe z = Safe-if (fits_64 z) (integer z) overflow refl tt

pub calculate_safe : (op : Arithmetic) (x y : ℤ) → Gives IsArithmetic integer_kind (calculate op x y)
calculate_safe plus x y = range_safe (x +ℤ y)
calculate_safe minus x y = range_safe (x -ℤ y)
calculate_safe times x y = range_safe (x *ℤ y)
calculate_safe quotient x (pos zero) = Safe-cause divide_by_zero tt
calculate_safe quotient x (pos (suc n)) = range_safe (int_div x (pos (suc n)))
calculate_safe quotient x (negsuc n) = range_safe (int_div x (negsuc n))
calculate_safe remainder x (pos zero) = Safe-cause divide_by_zero tt
calculate_safe remainder x (pos (suc n)) = Safe-then (range_safe (int_div x (pos (suc n)))) λ v _. Safe-value (integer (int_rem x (pos (suc n)))) refl
calculate_safe remainder x (negsuc n) = Safe-then (range_safe (int_div x (negsuc n))) λ v _. Safe-value (integer (int_rem x (negsuc n))) refl

pub integer_safe : {C : Cause → Type 0} (v : Value) → IsOf integer_kind v → Safe C (λ _. ⊤) (as_integer v)
integer_safe (integer z) h = Safe-value z tt
integer_safe (boolean b) h = cc
integer_safe (text s) h = cc

-- the integer that a value is
pub integer_known : {C : Cause → Type 0} (v : Value) → IsOf integer_kind v → Safe C (λ z. v ≡ integer z) (as_integer v)
integer_known (integer z) h = Safe-value z refl
integer_known (boolean b) h = cc
integer_known (text s) h = cc

-- a value of which more is known
pub with_fact : {A : Type 0} {C : Cause → Type 0} {P Q : A → Type 0} {o : Outcome A} → Safe C P o → Fact.Gives Q o → Safe C (λ x. P x × Q x) o
with_fact safe fact = record { value = λ x e. (safe.value x e, fact.fact x e); cause = safe.cause }

pub boolean_safe : {C : Cause → Type 0} (v : Value) → IsOf boolean_kind v → Safe C (λ _. ⊤) (as_boolean v)
boolean_safe (integer z) h = cc
boolean_safe (boolean b) h = Safe-value b tt
boolean_safe (text s) h = cc

equal_safe : {C : Cause → Type 0} (k : Kind) (v w : Value) → IsOf k v → IsOf k w → Safe C (λ _. ⊤) (is_equal v w)
equal_safe k (integer x) (integer y) h l = Safe-value _ tt
equal_safe integer_kind (integer x) (boolean c) h l = cc
equal_safe boolean_kind (integer x) (boolean c) h l = cc
equal_safe text_kind (integer x) (boolean c) h l = cc
equal_safe integer_kind (integer x) (text t) h l = cc
equal_safe boolean_kind (integer x) (text t) h l = cc
equal_safe text_kind (integer x) (text t) h l = cc
equal_safe integer_kind (boolean b) w h l = cc
equal_safe text_kind (boolean b) w h l = cc
equal_safe boolean_kind (boolean b) (integer y) h l = cc
equal_safe boolean_kind (boolean b) (boolean c) h l = Safe-value _ tt
equal_safe boolean_kind (boolean b) (text t) h l = cc
equal_safe integer_kind (text s) w h l = cc
equal_safe boolean_kind (text s) w h l = cc
equal_safe text_kind (text s) (integer y) h l = cc
equal_safe text_kind (text s) (boolean c) h l = cc
equal_safe text_kind (text s) (text t) h l = Safe-value _ tt

pub below_integers : {C : Cause → Type 0} (v w : Value) → IsOf integer_kind v → IsOf integer_kind w → Safe C (λ _. ⊤) (is_below v w)
below_integers (integer x) (integer y) h l = Safe-value _ tt
below_integers (integer x) (boolean c) h l = cc
below_integers (integer x) (text t) h l = cc
below_integers (boolean b) w h l = cc
below_integers (text s) w h l = cc

pub below_texts : {C : Cause → Type 0} (v w : Value) → IsOf text_kind v → IsOf text_kind w → Safe C (λ _. ⊤) (is_below v w)
below_texts (integer x) w h l = cc
below_texts (boolean b) w h l = cc
below_texts (text s) (integer y) h l = cc
below_texts (text s) (boolean c) h l = cc
below_texts (text s) (text t) h l = Safe-value _ tt

negated_safe : {C : Cause → Type 0} {o : Outcome Bool} → Safe C (λ _. ⊤) o → Safe C (λ _. ⊤) (o >>= λ b. Ok (not b))
negated_safe safe = Safe-then safe λ b _. Safe-value (not b) tt

-- ---- names

pub same_name : (x : Name) → bytes_eq x x ≡ true
same_name x = (bytes_decides x x).1 refl

pub one_name : (x y : Name) → bytes_eq x y ≡ true → x ≡ y
one_name x y h = (bytes_decides x y).0 h

one_number : (x y : ℕ) → (x == y) ≡ true → x ≡ y
one_number x y h = (Decides-eqb x y).0 h

-- ---- comparisons

-- the outcome is as its sort says
abbrev pub Typed : (Cause → Type 0) → Option Sort → Outcome Value → Type 0
Typed C o out = (s : Sort) → o ≡ Some s → Safe C (λ v. IsTrue (has_sort s v)) out

pub Typed-weaker : {C D : Cause → Type 0} {o : Option Sort} {out : Outcome Value} → ((c : Cause) → C c → D c) → Typed C o out → Typed D o out
Typed-weaker causes typed s e = Safe-weaker causes (λ v h. h) (typed s e)

pub only_gives : {C : Cause → Type 0} (k : Kind) (o : Option Sort) (out : Outcome Value) → Typed C o out → is_only k o ≡ true → Gives C k out
only_gives k o out typed e = typed (only k) (only_is k o e)

pub untyped : {C : Cause → Type 0} (out : Outcome Value) → Typed C None out
untyped out s e = cc

-- a test decides, and then the outcome is of the kind
pub if_typed : {C : Cause → Type 0} (b : Bool) (k : Kind) (out : Outcome Value) → (b ≡ true → Gives C k out) → Typed C (then_some b (only k)) out
if_typed {C = C} b k out next s e =
    let is = some_if b (only k) s e in
    subst (λ t. Safe C (λ v. IsTrue (has_sort t v)) out) is.1 (next is.0)

below_safe : {C : Cause → Type 0} (o p : Option Sort) → are_ordered o p ≡ true → (a b : Outcome Value) → Typed C o a → Typed C p b
    → (Q : Value → Value → Outcome Bool) → ((v w : Value) → IsOf integer_kind v → IsOf integer_kind w → Safe C (λ _. ⊤) (Q v w))
    → ((v w : Value) → IsOf text_kind v → IsOf text_kind w → Safe C (λ _. ⊤) (Q v w))
    → Safe C (λ v. IsOf boolean_kind v) (a >>= λ v. b >>= λ w. Q v w >>= λ c. Ok (boolean c))
below_safe o p e a b typed typed' Q numbers texts =
    either_is (is_only integer_kind o && is_only integer_kind p) (is_only text_kind o && is_only text_kind p) e _
    (λ h. let parts = and_parts (is_only integer_kind o) (is_only integer_kind p) h in
    Safe-then (only_gives integer_kind o a typed parts.0) λ v hv.
    Safe-then (only_gives integer_kind p b typed' parts.1) λ w hw.
    Safe-then (numbers v w hv hw) λ c _. Safe-value (boolean c) refl)
    (λ h. let parts = and_parts (is_only text_kind o) (is_only text_kind p) h in
    Safe-then (only_gives text_kind o a typed parts.0) λ v hv.
    Safe-then (only_gives text_kind p b typed' parts.1) λ w hw.
    Safe-then (texts v w hv hw) λ c _. Safe-value (boolean c) refl)

alike_safe : {C : Cause → Type 0} (o p : Option Sort) → are_alike o p ≡ true → (a b : Outcome Value) → Typed C o a → Typed C p b
    → (Q : Value → Value → Outcome Bool) → ((k : Kind) (v w : Value) → IsOf k v → IsOf k w → Safe C (λ _. ⊤) (Q v w))
    → Safe C (λ v. IsOf boolean_kind v) (a >>= λ v. b >>= λ w. Q v w >>= λ c. Ok (boolean c))
alike_safe o p e a b typed typed' Q same =
    let is = alike_is o p e in
    Safe-then (typed (only is.0) is.1) λ v hv.
    Safe-then (typed' (only is.0) is.2) λ w hw.
    Safe-then (same is.0 v w hv hw) λ c _. Safe-value (boolean c) refl

compared_safe : {C : Cause → Type 0} (op : Comparison) (o p : Option Sort) → are_comparable op o p ≡ true → (a b : Outcome Value) → Typed C o a → Typed C p b
    → Safe C (λ v. IsOf boolean_kind v) (a >>= λ v. b >>= λ w. compare op v w >>= λ c. Ok (boolean c))
compared_safe equal o p e a b h k = alike_safe o p e a b h k (compare equal) equal_safe
compared_safe unequal o p e a b h k = alike_safe o p e a b h k (compare unequal) (λ j v w l m. negated_safe (equal_safe j v w l m))
compared_safe less o p e a b h k = below_safe o p e a b h k (compare less) below_integers below_texts
compared_safe at_most o p e a b h k = below_safe o p e a b h k (compare at_most) (λ v w l m. negated_safe (below_integers w v m l)) (λ v w l m. negated_safe (below_texts w v m l))
compared_safe greater o p e a b h k = below_safe o p e a b h k (compare greater) (λ v w l m. below_integers w v m l) (λ v w l m. below_texts w v m l)
compared_safe at_least o p e a b h k = below_safe o p e a b h k (compare at_least) (λ v w l m. negated_safe (below_integers v w l m)) (λ v w l m. negated_safe (below_texts v w l m))

-- ---- rows

field_choice : (b c : Bool) (gk k : Kind) (rest : Option Kind) (v : Value) (found : Option Value) → (b ≡ true → c ≡ true) → (c ≡ true → b ≡ true) → (if b then Some gk else rest) ≡ Some k → IsOf gk v
    → (rest ≡ Some k → (w : Value) × (found ≡ Some w) × IsOf k w) → (w : Value) × (cond c (Some v) found ≡ Some w) × IsOf k w
field_choice true true gk k rest v found f g e h next = let same : gk ≡ k = cc in (v, refl, subst (λ j. IsOf j v) same h)
field_choice true false gk k rest v found f g e h next = let no = f refl in cc
field_choice false true gk k rest v found f g e h next = let no = g refl in cc
field_choice false false gk k rest v found f g e h next = next e

-- a row of the class has each field
field_found : (fields : List Field) (f : Name) (k : Kind) (row : Row) → kind_in fields f ≡ Some k → IsTrue (row_fits fields row) → (v : Value) × (lookup (bytes_eq f) row ≡ Some v) × IsOf k v
field_found [] f k row e h = cc
field_found (g ∷ gs) f k [] e h = cc
field_found (g ∷ gs) f k (v ∷ vs) e h =
    let named = and_parts (bytes_eq g.name v.0) (is_kind g.kind (kind_of v.1) && (value_fits v.1 && row_fits gs vs)) h in
    let typed = and_parts (is_kind g.kind (kind_of v.1)) (value_fits v.1 && row_fits gs vs) named.1 in
    let more = and_parts (value_fits v.1) (row_fits gs vs) typed.1 in
    let same = one_name g.name v.0 named.0 in
    field_choice (bytes_eq g.name f) (bytes_eq f v.0) g.kind k (kind_in gs f) v.1 (lookup (bytes_eq f) vs)
    (λ t. subst (λ x. bytes_eq f x ≡ true) (sym (one_name g.name f t) ∙ same) (same_name f))
    (λ t. subst (λ x. bytes_eq g.name x ≡ true) (same ∙ sym (one_name f v.0 t)) (same_name g.name))
    e typed.0 (λ rest. field_found gs f k vs rest more.1)

mapped_only : (o : Option Kind) (t : Sort) → option_map only o ≡ Some t → (k : Kind) × (o ≡ Some k) × (only k ≡ t)
mapped_only None t e = cc
mapped_only (Some k) t e = (k, refl, cc)

abbrev pub RowOf : Library → ℕ → Row → Type 0
RowOf library class row = IsTrue (row_fits (class_at library class).fields row)

-- the same of a row under its key, which has 64 bits
abbrev pub KeyedOf : Library → ℕ → KeyedRow → Type 0
KeyedOf library class r = IsTrue (fits_64 r.key) × RowOf library class r.row

pub field_typed : {C : Cause → Type 0} (library : Library) (class : ℕ) (f : Name) (row : Row) → RowOf library class row → Typed C (field_sort library class f) (field_in row f)
field_typed library class f row h t e =
    let is = mapped_only (kind_in (class_at library class).fields f) t e in
    let found = field_found (class_at library class).fields f is.0 row is.1 h in
    Safe-some (lookup (bytes_eq f) row) found.0 wrong_kind found.1 (subst (λ s. IsTrue (has_sort s found.0)) is.2 found.2)

-- the names of a scope are those of the rows
abbrev pub RowsTyped : Library → List (Name × ℕ) → List (Name × KeyedRow) → Type 0
RowsTyped library [] [] = ⊤
RowsTyped library [] (y ∷ ys) = ⊥
RowsTyped library (x ∷ xs) [] = ⊥
RowsTyped library (x ∷ xs) (y ∷ ys) = ((x.0 ≡ y.0) × KeyedOf library x.1 y.1) × RowsTyped library xs ys

row_choice : (library : Library) (b c : Bool) (class : ℕ) (r : KeyedRow) (known : Option ℕ) (found : Option KeyedRow) (n : ℕ) → b ≡ c → cond b (Some class) known ≡ Some n → KeyedOf library class r
    → (known ≡ Some n → (s : KeyedRow) × (found ≡ Some s) × KeyedOf library n s) → (s : KeyedRow) × (cond c (Some r) found ≡ Some s) × KeyedOf library n s
row_choice library true true class r known found n same e h next = let is : class ≡ n = cc in (r, refl, subst (λ m. KeyedOf library m r) is h)
row_choice library true false class r known found n same e h next = cc
row_choice library false true class r known found n same e h next = cc
row_choice library false false class r known found n same e h next = next e

pub row_found : (library : Library) (x : Name) (xs : List (Name × ℕ)) (ys : List (Name × KeyedRow)) (n : ℕ) → RowsTyped library xs ys → lookup (bytes_eq x) xs ≡ Some n
    → (r : KeyedRow) × (lookup (bytes_eq x) ys ≡ Some r) × KeyedOf library n r
row_found library x [] ys n h e = cc
row_found library x (a ∷ xs) [] n h e = absurd h
row_found library x (a ∷ xs) (b ∷ ys) n h e =
    row_choice library (bytes_eq x a.0) (bytes_eq x b.0) a.1 b.1 (lookup (bytes_eq x) xs) (lookup (bytes_eq x) ys) n (ap (bytes_eq x) h.0.0) e h.0.1 (λ more. row_found library x xs ys n h.1 more)

-- ---- values

-- the names of a scope are those of the values
abbrev pub ValuesTyped : List (Name × Sort) → NamedValues → Type 0
ValuesTyped [] [] = ⊤
ValuesTyped [] (y ∷ ys) = ⊥
ValuesTyped (x ∷ xs) [] = ⊥
ValuesTyped (x ∷ xs) (y ∷ ys) = ((x.0 ≡ y.0) × IsTrue (has_sort x.1 y.1)) × ValuesTyped xs ys

value_choice : (b c : Bool) (s : Sort) (v : Value) (known : Option Sort) (found : Option Value) (t : Sort) → b ≡ c → cond b (Some s) known ≡ Some t → IsTrue (has_sort s v)
    → (known ≡ Some t → (w : Value) × (found ≡ Some w) × IsTrue (has_sort t w)) → (w : Value) × (cond c (Some v) found ≡ Some w) × IsTrue (has_sort t w)
value_choice true true s v known found t same e h next = let is : s ≡ t = cc in (v, refl, subst (λ x. IsTrue (has_sort x v)) is h)
value_choice true false s v known found t same e h next = cc
value_choice false true s v known found t same e h next = cc
value_choice false false s v known found t same e h next = next e

value_found : (x : Name) (xs : List (Name × Sort)) (ys : NamedValues) (t : Sort) → ValuesTyped xs ys → lookup (bytes_eq x) xs ≡ Some t
    → (v : Value) × (lookup (bytes_eq x) ys ≡ Some v) × IsTrue (has_sort t v)
value_found x [] ys t h e = cc
value_found x (a ∷ xs) [] t h e = absurd h
value_found x (a ∷ xs) (b ∷ ys) t h e =
    value_choice (bytes_eq x a.0) (bytes_eq x b.0) a.1 b.1 (lookup (bytes_eq x) xs) (lookup (bytes_eq x) ys) t (ap (bytes_eq x) h.0.0) e h.0.1 (λ more. value_found x xs ys t h.1 more)

-- ---- parts

-- the parts are as the columns say
abbrev pub PartsMatch : List (List Pattern) → Bool → List Primitive → Type 0
PartsMatch [] exact [] = ⊤
PartsMatch [] exact (p ∷ ps) = exact ≡ false
PartsMatch (c ∷ cs) exact [] = ⊥
PartsMatch (c ∷ cs) exact (p ∷ ps) = IsTrue (list_any (λ q. matches q p) c) × PartsMatch cs exact ps

-- a part fits, and is as declared
abbrev pub PartTyped : Library → Declared → Primitive → Type 0
PartTyped library d p = IsTrue (primitive_fits library p) × IsTrue (is_declared d p)

abbrev pub PartsTyped : Library → Declared → List Primitive → Type 0
PartsTyped library d ps = AllByRecursion (PartTyped library d) ps

abbrev pub ColumnsTyped : Option Columns → Option Occurrence → Type 0
ColumnsTyped None o = ⊤
ColumnsTyped (Some c) None = ⊥
ColumnsTyped (Some c) (Some o) = PartsMatch c.places c.exact o.parts

abbrev pub OccurrenceTyped : Library → Declared → Option Occurrence → Type 0
OccurrenceTyped library d None = ⊤
OccurrenceTyped library d (Some o) = PartsTyped library d o.parts

pub record EnvironmentTyped (library : Library) (d : Declared) (scope : Scope) (env : Environment) : Type 0 where
  pub columns : ColumnsTyped scope.columns env.occurrence
  pub parts : OccurrenceTyped library d env.occurrence
  pub rows : RowsTyped library scope.rows env.rows
  pub values : ValuesTyped scope.values env.values
  pub now : IsTrue (fits_64 (pos env.now))

part_at : (library : Library) (d : Declared) (cs : List (List Pattern)) (exact : Bool) (ps : List Primitive) (i : ℕ) (c : List Pattern) → PartsMatch cs exact ps
    → PartsTyped library d ps → slice_get cs i ≡ Some c
    → (p : Primitive) × (slice_get ps i ≡ Some p) × (PartTyped library d p × IsTrue (list_any (λ q. matches q p) c))
part_at library d [] exact ps i c h typed e = cc
part_at library d (a ∷ cs) exact [] i c h typed e = absurd h
part_at library d (a ∷ cs) exact (p ∷ ps) zero c h typed e = let same : a ≡ c = cc in (p, refl, (typed.0, subst (λ x. IsTrue (list_any (λ q. matches q p) x)) same h.0))
part_at library d (a ∷ cs) exact (p ∷ ps) (suc i) c h typed e = part_at library d cs exact ps i c h.1 typed.1 e

-- ---- what is common to the patterns of a place

meet_parts : (a b : Option Sort) (s : Sort) → meet a b ≡ Some s → (t : Sort) × (u : Sort) × (a ≡ Some t) × (b ≡ Some u) × (meets t u ≡ s)
meet_parts None b s e = cc
meet_parts (Some t) None s e = cc
meet_parts (Some t) (Some u) s e = (t, u, refl, refl, cc)

left_if : (b : Bool) (k : Kind) (v : Value) → IsOf k v → IsTrue (has_sort (only_if b k) v)
left_if true k v h = h
left_if false k v h = refl

right_if : (b : Bool) (k l : Kind) (v : Value) → (b ≡ true → k ≡ l) → IsOf l v → IsTrue (has_sort (only_if b k) v)
right_if true k l v same h = subst (λ j. IsOf j v) (sym (same refl)) h
right_if false k l v same h = refl

meets_left : (t u : Sort) (v : Value) → IsTrue (has_sort t v) → IsTrue (has_sort (meets t u) v)
meets_left (only k) (only l) v h = left_if (is_kind k l) k v h
meets_left (only k) any v h = refl
meets_left any u v h = refl

meets_right : (t u : Sort) (v : Value) → IsTrue (has_sort u v) → IsTrue (has_sort (meets t u) v)
meets_right (only k) (only l) v h = right_if (is_kind k l) k l v (same_kind k l) h
meets_right (only k) any v h = refl
meets_right any u v h = refl

-- the pattern that a part matches, its sort, and that this is no more than what is common
abbrev Chosen : (Pattern → Option Sort) → Primitive → Sort → Type 0
Chosen test p s = (q : Pattern) × (t : Sort) × (matches q p ≡ true) × (test q ≡ Some t) × ((v : Value) → IsTrue (has_sort t v) → IsTrue (has_sort s v))

common_chosen : (test : Pattern → Option Sort) (qs : List Pattern) (s : Sort) (p : Primitive) → common test qs ≡ Some s → IsTrue (list_any (λ q. matches q p) qs) → Chosen test p s
common_chosen test [] s p e h = cc
common_chosen test (q ∷ []) s p e h = either_is (matches q p) false h (Chosen test p s) (λ is. (q, s, is, e, λ v k. k)) (λ no. cc)
common_chosen test (q ∷ r ∷ rs) s p e h =
    let parts = meet_parts (test q) (common test (r ∷ rs)) s e in
    either_is (matches q p) (list_any (λ x. matches x p) (r ∷ rs)) h (Chosen test p s)
    (λ is. (q, parts.0, is, parts.2, λ v k. subst (λ x. IsTrue (has_sort x v)) parts.4 (meets_left parts.0 parts.1 v k)))
    (λ more. let rest = common_chosen test (r ∷ rs) parts.1 p parts.3 more in
    (rest.0, rest.1, rest.2, rest.3, λ v k. subst (λ x. IsTrue (has_sort x v)) parts.4 (meets_right parts.0 parts.1 v (rest.4 v k))))

common_found : (test : Pattern → Option Sort) (o : Option (List Pattern)) (s : Sort) → common_at test o ≡ Some s → (qs : List Pattern) × (o ≡ Some qs) × (common test qs ≡ Some s)
common_found test None s e = cc
common_found test (Some qs) s e = (qs, refl, e)

module _ (library : Library) (d : Declared) where
  -- what a part gives, if each pattern of its place gives it
  parts_typed : {C : Cause → Type 0} (c : Columns) (o : Option Occurrence) (env : Environment) → ColumnsTyped (Some c) o → OccurrenceTyped library d o
      → (i : ℕ) (test : Pattern → Option Sort) (read : Primitive → Outcome Value)
      → ((q : Pattern) (p : Primitive) → matches q p ≡ true → PartTyped library d p → Typed C (test q) (read p))
      → Typed C (part_sort (Some c) i test) (part_of (record { occurrence = o; rows = env.rows; values = env.values; now = env.now }) i >>= read)
  parts_typed {C = C} c None env h typed i test read each s e = absurd h
  parts_typed {C = C} c (Some o) env h typed i test read each s e =
      let place = common_found test (slice_get c.places i) s e in
      let found = part_at library d c.places c.exact o.parts i place.0 h typed place.1 in
      let chosen = common_chosen test place.0 s found.0 place.2 found.2.1 in
      Safe-then {P = λ p. p ≡ found.0} (Safe-some (slice_get o.parts i) found.0 no_parameter found.1 refl) λ p same.
      subst (λ x. Safe C (λ v. IsTrue (has_sort s v)) (read x)) (sym same)
      (Safe-weaker (λ c k. k) (λ v k. chosen.4 v k) (each chosen.0 found.0 chosen.2 found.2.0 chosen.1 chosen.3))

  part_typed : {C : Cause → Type 0} (columns : Option Columns) (env : Environment) → ColumnsTyped columns env.occurrence → OccurrenceTyped library d env.occurrence
      → (i : ℕ) (test : Pattern → Option Sort) (read : Primitive → Outcome Value)
      → ((q : Pattern) (p : Primitive) → matches q p ≡ true → PartTyped library d p → Typed C (test q) (read p))
      → Typed C (part_sort columns i test) (part_of env i >>= read)
  part_typed None env h typed i test read each s e = cc
  part_typed (Some c) env h typed i test read each s e = parts_typed c env.occurrence env h typed i test read each s e

  -- an object's row under its key is one of its class
  pub object_row : (class : ℕ) (key : ℤ) (row : Row) → IsTrue (object_fits library class key row) → KeyedOf library class (record { key = key; row = row })
  object_row class key row h =
      let within = and_parts (nat_lt class (length library.classes)) (fits_64 key && row_fits (class_at library class).fields row) h in
      and_parts (fits_64 key) (row_fits (class_at library class).fields row) within.1

  class_field : {C : Cause → Type 0} (c k : ℕ) (f : Name) (key : ℤ) (row : Row) → (c == k) ≡ true → IsTrue (object_fits library k key row) → Typed C (field_sort library c f) (field_in row f)
  class_field c k f key row is h =
      field_typed library c f row (subst (λ n. RowOf library n row) (sym (one_number c k is)) (object_row k key row h).1)

  new_typed : {C : Cause → Type 0} (f : Name) (q : Pattern) (p : Primitive) → matches q p ≡ true → PartTyped library d p → Typed C (new_sort library f q) (new_row p >>= λ row. field_in row f)
  new_typed f (on_create c) (created k key new) is h = class_field c k f key new is h.0
  new_typed f (on_create c) (updated k key old new) is h = cc
  new_typed f (on_create c) (deleted k key old) is h = cc
  new_typed f (on_create c) (signalled name arguments) is h = cc
  new_typed f (on_create c) commit_reached is h = cc
  new_typed f (on_create c) (moment_reached t) is h = cc
  new_typed f (on_update c) (created k key new) is h = cc
  new_typed f (on_update c) (updated k key old new) is h = class_field c k f key new is (and_parts (object_fits library k key old) (object_fits library k key new) h.0).1
  new_typed f (on_update c) (deleted k key old) is h = cc
  new_typed f (on_update c) (signalled name arguments) is h = cc
  new_typed f (on_update c) commit_reached is h = cc
  new_typed f (on_update c) (moment_reached t) is h = cc
  new_typed f (on_delete c) p is h = untyped _
  new_typed f (on_signal n) p is h = untyped _
  new_typed f on_commit p is h = untyped _
  new_typed f (at_moment t) p is h = untyped _
  new_typed f (every_moment first period) p is h = untyped _

  old_typed : {C : Cause → Type 0} (f : Name) (q : Pattern) (p : Primitive) → matches q p ≡ true → PartTyped library d p → Typed C (old_sort library f q) (old_row p >>= λ row. field_in row f)
  old_typed f (on_delete c) (created k key new) is h = cc
  old_typed f (on_delete c) (updated k key old new) is h = cc
  old_typed f (on_delete c) (deleted k key old) is h = class_field c k f key old is h.0
  old_typed f (on_delete c) (signalled name arguments) is h = cc
  old_typed f (on_delete c) commit_reached is h = cc
  old_typed f (on_delete c) (moment_reached t) is h = cc
  old_typed f (on_update c) (created k key new) is h = cc
  old_typed f (on_update c) (updated k key old new) is h = class_field c k f key old is (and_parts (object_fits library k key old) (object_fits library k key new) h.0).0
  old_typed f (on_update c) (deleted k key old) is h = cc
  old_typed f (on_update c) (signalled name arguments) is h = cc
  old_typed f (on_update c) commit_reached is h = cc
  old_typed f (on_update c) (moment_reached t) is h = cc
  old_typed f (on_create c) p is h = untyped _
  old_typed f (on_signal n) p is h = untyped _
  old_typed f on_commit p is h = untyped _
  old_typed f (at_moment t) p is h = untyped _
  old_typed f (every_moment first period) p is h = untyped _

  constant_typed : {C : Cause → Type 0} (v : Value) → Typed C (Some (only (kind_of v))) (Ok v)
  constant_typed {C = C} v s e = let same : only (kind_of v) ≡ s = cc in subst (λ t. Safe C (λ w. IsTrue (has_sort t w)) (Ok v)) same (Safe-value v (kind_itself (kind_of v)))

  integer_typed : {C : Cause → Type 0} (z : ℤ) → Typed C (Some (only integer_kind)) (Ok (integer z))
  integer_typed {C = C} z s e = let same : only integer_kind ≡ s = cc in subst (λ t. Safe C (λ v. IsTrue (has_sort t v)) (Ok (integer z))) same (Safe-value (integer z) refl)

  range_typed : (z : ℤ) → Typed IsArithmetic (Some (only integer_kind)) (in_range z)
  range_typed z s e = let same : only integer_kind ≡ s = cc in subst (λ t. Safe IsArithmetic (λ v. IsTrue (has_sort t v)) (in_range z)) same (range_safe z)

  -- a number of 64 bits is in range
  fit_typed : {C : Cause → Type 0} (z : ℤ) → IsTrue (fits_64 z) → Typed C (Some (only integer_kind)) (in_range z)
  fit_typed {C = C} z h s e = let same : only integer_kind ≡ s = cc in subst (λ t. Safe C (λ v. IsTrue (has_sort t v)) (in_range z)) same (by_test (fits_64 z) h)
    where
      by_test : (b : Bool) → b ≡ true → Safe C (IsOf integer_kind) (if b then Ok (integer z) else Err overflow)
      by_test true is = Safe-value (integer z) refl
      by_test false is = cc

  key_any : {C : Cause → Type 0} (q : Pattern) (z : ℤ) → Typed C (key_sort q) (Ok (integer z))
  key_any (on_create c) z = integer_typed z
  key_any (on_update c) z = integer_typed z
  key_any (on_delete c) z = integer_typed z
  key_any (on_signal n) z = untyped _
  key_any on_commit z = untyped _
  key_any (at_moment t) z = untyped _
  key_any (every_moment first period) z = untyped _

  key_typed : {C : Cause → Type 0} (q : Pattern) (p : Primitive) → matches q p ≡ true → PartTyped library d p → Typed C (key_sort q) (operation_key p)
  key_typed q (created k key new) is h = key_any q key
  key_typed q (updated k key old new) is h = key_any q key
  key_typed q (deleted k key old) is h = key_any q key
  key_typed (on_create c) (signalled name arguments) is h = cc
  key_typed (on_update c) (signalled name arguments) is h = cc
  key_typed (on_delete c) (signalled name arguments) is h = cc
  key_typed (on_signal n) (signalled name arguments) is h = untyped _
  key_typed on_commit (signalled name arguments) is h = cc
  key_typed (at_moment t) (signalled name arguments) is h = cc
  key_typed (every_moment first period) (signalled name arguments) is h = cc
  key_typed (on_create c) commit_reached is h = cc
  key_typed (on_update c) commit_reached is h = cc
  key_typed (on_delete c) commit_reached is h = cc
  key_typed (on_signal n) commit_reached is h = cc
  key_typed on_commit commit_reached is h = untyped _
  key_typed (at_moment t) commit_reached is h = cc
  key_typed (every_moment first period) commit_reached is h = cc
  key_typed (on_create c) (moment_reached u) is h = cc
  key_typed (on_update c) (moment_reached u) is h = cc
  key_typed (on_delete c) (moment_reached u) is h = cc
  key_typed (on_signal n) (moment_reached u) is h = cc
  key_typed on_commit (moment_reached u) is h = cc
  key_typed (at_moment t) (moment_reached u) is h = untyped _
  key_typed (every_moment first period) (moment_reached u) is h = untyped _

  moment_any : {C : Cause → Type 0} (q : Pattern) (t : ℕ) → IsTrue (fits_64 (pos t)) → Typed C (moment_sort q) (in_range (pos t))
  moment_any (on_create c) t h = untyped _
  moment_any (on_update c) t h = untyped _
  moment_any (on_delete c) t h = untyped _
  moment_any (on_signal n) t h = untyped _
  moment_any on_commit t h = untyped _
  moment_any (at_moment u) t h = fit_typed (pos t) h
  moment_any (every_moment first period) t h = fit_typed (pos t) h

  moment_typed : {C : Cause → Type 0} (q : Pattern) (p : Primitive) → matches q p ≡ true → PartTyped library d p → Typed C (moment_sort q) (moment_of p)
  moment_typed q (moment_reached t) is h = moment_any q t h.0
  moment_typed (on_create c) p is h = untyped _
  moment_typed (on_update c) p is h = untyped _
  moment_typed (on_delete c) p is h = untyped _
  moment_typed (on_signal n) p is h = untyped _
  moment_typed on_commit p is h = untyped _
  moment_typed (at_moment u) (created k key new) is h = cc
  moment_typed (at_moment u) (updated k key old new) is h = cc
  moment_typed (at_moment u) (deleted k key old) is h = cc
  moment_typed (at_moment u) (signalled name arguments) is h = cc
  moment_typed (at_moment u) commit_reached is h = cc
  moment_typed (every_moment first period) (created k key new) is h = cc
  moment_typed (every_moment first period) (updated k key old new) is h = cc
  moment_typed (every_moment first period) (deleted k key old) is h = cc
  moment_typed (every_moment first period) (signalled name arguments) is h = cc
  moment_typed (every_moment first period) commit_reached is h = cc

  covered : (ss : List Sort) (vs : List Value) (j : ℕ) (t : Sort) → IsTrue (covers ss vs) → slice_get ss j ≡ Some t → (v : Value) × (slice_get vs j ≡ Some v) × IsTrue (has_sort t v)
  covered [] vs j t h e = cc
  covered (s ∷ ss) [] j t h e = cc
  covered (s ∷ ss) (v ∷ vs) zero t h e = let same : s ≡ t = cc in (v, refl, subst (λ x. IsTrue (has_sort x v)) same (and_parts (has_sort s v) (covers ss vs) h).0)
  covered (s ∷ ss) (v ∷ vs) (suc j) t h e = covered ss vs j t (and_parts (has_sort s v) (covers ss vs) h).1 e

  argument_found : {C : Cause → Type 0} (s name : Name) (arguments : List Value) (j : ℕ) → s ≡ name → IsTrue (covers (signature_of d name) arguments)
      → Typed C (slice_get (signature_of d s) j) (or_cause (slice_get arguments j) no_parameter)
  argument_found s name arguments j same h t e =
      let found = covered (signature_of d s) arguments j t (subst (λ n. IsTrue (covers (signature_of d n) arguments)) (sym same) h) e in
      Safe-some (slice_get arguments j) found.0 no_parameter found.1 found.2

  argument_typed : {C : Cause → Type 0} (j : ℕ) (q : Pattern) (p : Primitive) → matches q p ≡ true → PartTyped library d p → Typed C (argument_sort d j q) (argument_of p j)
  argument_typed j (on_signal s) (created k key new) is h = cc
  argument_typed j (on_signal s) (updated k key old new) is h = cc
  argument_typed j (on_signal s) (deleted k key old) is h = cc
  argument_typed j (on_signal s) (signalled name arguments) is h = argument_found s name arguments j (one_name s name is) h.1
  argument_typed j (on_signal s) commit_reached is h = cc
  argument_typed j (on_signal s) (moment_reached t) is h = cc
  argument_typed j (on_create c) p is h = untyped _
  argument_typed j (on_update c) p is h = untyped _
  argument_typed j (on_delete c) p is h = untyped _
  argument_typed j on_commit p is h = untyped _
  argument_typed j (at_moment t) p is h = untyped _
  argument_typed j (every_moment first period) p is h = untyped _

  count_typed : (columns : Option Columns) (o : Option Occurrence) → ColumnsTyped columns o → Typed IsArithmetic (then_some (is_some columns) (only integer_kind)) (count_in o)
  count_typed None o h = untyped _
  count_typed (Some c) None h = absurd h
  count_typed (Some c) (Some o) h = range_typed (pos o.count)

  -- ---- expressions

  module _ (scope : Scope) (env : Environment) (typed : EnvironmentTyped library d scope env) where
    named_typed : {C : Cause → Type 0} (x f : Name) (known : Option ℕ) → lookup (bytes_eq x) scope.rows ≡ known → Typed C (named_sort library known f) (row_named env x >>= λ r. field_in r.row f)
    named_typed x f None e s g = cc
    named_typed x f (Some class) e s g =
        let found = row_found library x scope.rows env.rows class typed.rows e in
        Safe-then {P = λ r. r ≡ found.0} (Safe-some (lookup (bytes_eq x) env.rows) found.0 wrong_kind found.1 refl) λ r same.
        field_typed library class f r.row (subst (λ y. KeyedOf library class y) (sym same) found.2).1 s g

    keyed_typed : {C : Cause → Type 0} (x : Name) (known : Option ℕ) → lookup (bytes_eq x) scope.rows ≡ known
        → Typed C (then_some (is_some known) (only integer_kind)) (row_named env x >>= λ r. Ok (integer r.key))
    keyed_typed x None e = untyped _
    keyed_typed x (Some class) e =
        if_typed true integer_kind _ λ _.
        let found = row_found library x scope.rows env.rows class typed.rows e in
        Safe-then {P = λ r. r ≡ found.0} (Safe-some (lookup (bytes_eq x) env.rows) found.0 wrong_kind found.1 refl) λ r same. Safe-value (integer r.key) refl

    let_typed : {C : Cause → Type 0} (x : Name) → Typed C (lookup (bytes_eq x) scope.values) (value_at env x)
    let_typed x s e =
        let found = value_found x scope.values env.values s typed.values e in
        Safe-some (lookup (bytes_eq x) env.values) found.0 wrong_kind found.1 found.2

    chosen_safe : {C : Cause → Type 0} (b c : Bool) (o : Outcome Value) → Gives C boolean_kind o → Gives C boolean_kind (if b then o else Ok (boolean c))
    chosen_safe true c o h = h
    chosen_safe false c o h = Safe-value (boolean c) refl

    otherwise_safe : {C : Cause → Type 0} (b c : Bool) (o : Outcome Value) → Gives C boolean_kind o → Gives C boolean_kind (if b then Ok (boolean c) else o)
    otherwise_safe true c o h = Safe-value (boolean c) refl
    otherwise_safe false c o h = h

    not_first : (a b : Bool) → a ≡ false → (a && b) ≡ false
    not_first true b e = cc
    not_first false b e = refl

    not_second : (a b : Bool) → b ≡ false → (a && b) ≡ false
    not_second true b e = e
    not_second false b e = refl

    parts_fit : (o : Option Occurrence) → OccurrenceTyped library d o → OptionFits library o
    parts_fit None h = tt
    parts_fit (Some o) h = each o.parts h
      where
        each : (ps : List Primitive) → PartsTyped library d ps → AllByRecursion (PrimitiveFits library) ps
        each [] k = tt
        each (p ∷ ps) k = (k.0.0, each ps k.1)

    rows_fit : (xs : List (Name × ℕ)) (ys : List (Name × KeyedRow)) → RowsTyped library xs ys → AllByRecursion (λ (b : Name × KeyedRow). KeyedFits b.1) ys
    rows_fit [] [] h = tt
    rows_fit [] (y ∷ ys) h = absurd h
    rows_fit (x ∷ xs) [] h = absurd h
    rows_fit (x ∷ xs) (y ∷ ys) h = ((h.0.1.0, values_fit (class_at library x.1).fields y.1.row h.0.1.1), rows_fit xs ys h.1)

    near : (e : Expression) → Fact.Gives (Near (magnitude e)) (value_of env e)
    near e = near_value library env (parts_fit env.occurrence typed.parts) (rows_fit scope.rows env.rows typed.rows) e

    -- what an operation gives, which faults only if it isn't calm
    tested : (inner r : Bool) {r' : Bool} → r ≡ r' → (o : Outcome Value) → Gives IsArithmetic integer_kind o → (r' ≡ true → GivesInteger o)
        → Gives (λ c. IsArithmetic c × ((inner && r') ≡ false)) integer_kind o
    tested inner true same o safe calm = let got = calm (sym same) in subst (Gives _ integer_kind) (sym got.1) (Safe-value (integer got.0) refl)
    tested inner false same o safe calm = Safe-weaker (λ c k. (k, subst (λ b. (inner && b) ≡ false) same (not_second inner false refl))) (λ v k. k) safe

    calculated : (op : Arithmetic) (a b : Expression) (inner : Bool) (x y : ℤ) (r : Bool) → is_result_calm op a b ≡ r → (is_result_calm op a b ≡ true → GivesInteger (calculate op x y))
        → Gives (λ c. IsArithmetic c × ((inner && is_result_calm op a b) ≡ false)) integer_kind (calculate op x y)
    calculated op a b inner x y r same calm = tested inner r (sym same) (calculate op x y) (calculate_safe op x y) calm

    -- a kinded expression gives a value of its sort, or a cause of arithmetic; never the latter if it is calm
    pub value_typed : (e : Expression) → Typed (ArithmeticOf e) (sort_of library d scope e) (value_of env e)
    value_typed (constant v) = constant_typed v
    value_typed (arithmetic op a b) =
        if_typed (is_only integer_kind (sort_of library d scope a) && is_only integer_kind (sort_of library d scope b)) integer_kind _ λ h.
        let parts = and_parts (is_only integer_kind (sort_of library d scope a)) (is_only integer_kind (sort_of library d scope b)) h in
        let r = is_result_calm op a b in
        Safe-then (with_fact (only_gives integer_kind (sort_of library d scope a) (value_of env a)
        (Typed-weaker (λ c k. (k.0, not_first (is_calm a && is_calm b) r (not_first (is_calm a) (is_calm b) k.1))) (value_typed a)) parts.0) (near a)) λ v hv.
        Safe-then (with_fact (with_fact (only_gives integer_kind (sort_of library d scope b) (value_of env b)
        (Typed-weaker (λ c k. (k.0, not_first (is_calm a && is_calm b) r (not_second (is_calm a) (is_calm b) k.1))) (value_typed b)) parts.1) (near b)) (known_value env b)) λ w hw.
        Safe-then (integer_known v hv.0) λ x is_x.
        Safe-then (integer_known w hw.0.0) λ y is_y.
        calculated op a b (is_calm a && is_calm b) x y r refl (λ e. calm_gives op a b v w x y e hv.1 hw.0.1 hw.1 is_x is_y)
    value_typed (negated a) =
        if_typed (is_only integer_kind (sort_of library d scope a)) integer_kind _ λ h.
        Safe-then (with_fact (only_gives integer_kind (sort_of library d scope a) (value_of env a)
        (Typed-weaker (λ c k. (k.0, not_first (is_calm a) (is_small (magnitude a)) k.1)) (value_typed a)) h) (near a)) λ v hv.
        Safe-then (integer_known v hv.0) λ x is_x.
        tested (is_calm a) (is_small (magnitude a)) refl (in_range (neg_ℤ x)) (range_safe (neg_ℤ x)) (λ e. calm_negation a v x e hv.1 is_x)
    value_typed (inverted a) =
        if_typed (is_only boolean_kind (sort_of library d scope a)) boolean_kind _ λ h.
        Safe-then (only_gives boolean_kind (sort_of library d scope a) (value_of env a) (value_typed a) h) λ v hv.
        Safe-then (boolean_safe v hv) λ b _. Safe-value (boolean (not b)) refl
    value_typed (both a b) =
        if_typed (is_only boolean_kind (sort_of library d scope a) && is_only boolean_kind (sort_of library d scope b)) boolean_kind _ λ h.
        let parts = and_parts (is_only boolean_kind (sort_of library d scope a)) (is_only boolean_kind (sort_of library d scope b)) h in
        Safe-then (only_gives boolean_kind (sort_of library d scope a) (value_of env a) (Typed-weaker (λ c k. (k.0, not_first (is_calm a) (is_calm b) k.1)) (value_typed a)) parts.0) λ v hv.
        Safe-then (boolean_safe v hv) λ x _.
        Safe-then (chosen_safe x false (value_of env b) (only_gives boolean_kind (sort_of library d scope b) (value_of env b)
        (Typed-weaker (λ c k. (k.0, not_second (is_calm a) (is_calm b) k.1)) (value_typed b)) parts.1)) λ w hw.
        Safe-then (boolean_safe w hw) λ y _. Safe-value (boolean y) refl
    value_typed (either a b) =
        if_typed (is_only boolean_kind (sort_of library d scope a) && is_only boolean_kind (sort_of library d scope b)) boolean_kind _ λ h.
        let parts = and_parts (is_only boolean_kind (sort_of library d scope a)) (is_only boolean_kind (sort_of library d scope b)) h in
        Safe-then (only_gives boolean_kind (sort_of library d scope a) (value_of env a) (Typed-weaker (λ c k. (k.0, not_first (is_calm a) (is_calm b) k.1)) (value_typed a)) parts.0) λ v hv.
        Safe-then (boolean_safe v hv) λ x _.
        Safe-then (otherwise_safe x true (value_of env b) (only_gives boolean_kind (sort_of library d scope b) (value_of env b)
        (Typed-weaker (λ c k. (k.0, not_second (is_calm a) (is_calm b) k.1)) (value_typed b)) parts.1)) λ w hw.
        Safe-then (boolean_safe w hw) λ y _. Safe-value (boolean y) refl
    value_typed (compared op a b) =
        if_typed (are_comparable op (sort_of library d scope a) (sort_of library d scope b)) boolean_kind _ λ h.
        compared_safe op (sort_of library d scope a) (sort_of library d scope b) h (value_of env a) (value_of env b)
        (Typed-weaker (λ c k. (k.0, not_first (is_calm a) (is_calm b) k.1)) (value_typed a)) (Typed-weaker (λ c k. (k.0, not_second (is_calm a) (is_calm b) k.1)) (value_typed b))
    value_typed (field_of x f) = named_typed x f (lookup (bytes_eq x) scope.rows) refl
    value_typed (key_of x) = keyed_typed x (lookup (bytes_eq x) scope.rows) refl
    value_typed (new_field i f) = part_typed scope.columns env typed.columns typed.parts i (new_sort library f) (λ p. new_row p >>= λ row. field_in row f) (new_typed f)
    value_typed (old_field i f) = part_typed scope.columns env typed.columns typed.parts i (old_sort library f) (λ p. old_row p >>= λ row. field_in row f) (old_typed f)
    value_typed (key_in i) = part_typed scope.columns env typed.columns typed.parts i key_sort operation_key key_typed
    value_typed (argument i j) = part_typed scope.columns env typed.columns typed.parts i (argument_sort d j) (λ p. argument_of p j) (argument_typed j)
    value_typed (time_of i) = part_typed scope.columns env typed.columns typed.parts i moment_sort moment_of moment_typed
    value_typed occurrence_count = Typed-weaker (λ c k. (k, refl)) (count_typed scope.columns env.occurrence typed.columns)
    value_typed (value_named x) = let_typed x
    value_typed time_now = fit_typed (pos env.now) typed.now
