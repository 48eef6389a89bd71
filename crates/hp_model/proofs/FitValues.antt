-- Values of expressions, rows and answers of queries fit if the environment does.
use Rattle.std.proofs.Common.{arith, ◌≡◌, refl, subst, ℕ, zero, suc, ◌-◌, ◌^◌, ◌<◌, ◌≤◌, ℤ, pos, negsuc, List, [], ◌∷◌, ◌++◌, length, map, filter, Option, None, Some, Bool, true}
use Rattle.std.proofs.Common.{false, ◌&&◌, cond, IsTrue, nat_lt}
use Rattle.std.proofs.lemmas.Bool.{and_parts, and_from, ltb-true, lt-ltb}
use Rattle.std.proofs.lemmas.Int.{rem_below}
use Rattle.std.specs.Prelude.{⊤, Ok, Err, bytes_eq, slice_get, int_div, int_rem, neg_ℤ, unsigned_abs, if◌then◌else◌, min, unwrap_or, ◌+ℤ◌, ◌-ℤ◌, ◌*ℤ◌, not, ◌==◌}
use Rattle.std.specs.List.{last_or, AllByRecursion, list_all}
use Rattle.std.specs.Map.{lookup}
use Rattle.hp_model.specs.Values.{Name, Field, kind_of, is_kind, row_fits, Value, integer, boolean, text, Row, KeyedRow, Cause, wrong_kind, overflow, divide_by_zero, no_parameter}
use Rattle.hp_model.specs.Values.{missing, Outcome, ◌>>=◌, or_cause, fits_64, value_fits}
use Rattle.hp_model.specs.Occurrences.{Primitive, created, updated, deleted, signalled, commit_reached, moment_reached, Occurrence}
use Rattle.hp_model.specs.Expressions.{Arithmetic, plus, minus, times, quotient, remainder, Expression, constant, arithmetic, negated, inverted, both, either, compared, field_of}
use Rattle.hp_model.specs.Expressions.{key_of, new_field, old_field, key_in, argument, time_of, occurrence_count, value_named, time_now, Comparison, less, greater, Environment}
use Rattle.hp_model.specs.Expressions.{bound, holding, as_integer, as_boolean, in_range, calculate, compare, part_of, row_named, field_in, new_row, old_row, operation_key}
use Rattle.hp_model.specs.Expressions.{argument_of, moment_of, count_in, value_of}
use Rattle.hp_model.specs.Conditions.{selected, answer, Merge, merged, added, preferred, row_count, key_after, present, aggregated, let_of}
use Rattle.hp_model.specs.Rules.{Library, Assignment, Aggregate, count_over, sum_over, least_over, greatest_over, next_key, single, class_at}
use Rattle.hp_model.specs.State.{Objects, ObjectName, rows_of, class_keys, object_fits}
use Rattle.hp_model.specs.Firing.{values_of, assigned}
use Rattle.hp_model.specs.Ranges.{expression_fits, assignments_fit, aggregate_fits}
pub use Rattle.hp_model.specs.Fitting.{ValueFits, RowFits, KeyedFits, RowsFit, PrimitiveFits, OccurrenceFits, OptionFits, EnvironmentFits, ValuesFit, AnswersFit, FindingsFit, ObjectsFit}

-- ---- outcomes

-- the value of an outcome, if there is one, has a property
pub record Gives {A : Type 0} (P : A → Type 0) (o : Outcome A) : Type 0 where
  pub fact : (x : A) → o ≡ Ok x → P x

pub Gives-value : {A : Type 0} {P : A → Type 0} (x : A) → P x → Gives P (Ok x)
Gives-value {P = P} x h = record { fact = λ y e. let same : x ≡ y = cc in subst P same h }

pub Gives-none : {A : Type 0} {P : A → Type 0} (c : Cause) → Gives P (Err c)
Gives-none c = record { fact = λ y e. cc }

pub Gives-any : {A : Type 0} (o : Outcome A) → Gives (λ _. ⊤) o
Gives-any o = record { fact = λ y e. tt }

-- one outcome after another
pub Gives-then : {A B : Type 0} {P : A → Type 0} {Q : B → Type 0} {o : Outcome A} {f : A → Outcome B}
    → Gives P o → ((x : A) → P x → Gives Q (f x)) → Gives Q (o >>= f)
Gives-then {o = Ok x} gives next = record { fact = λ y e. (next x (gives.fact x refl)).fact y e }
Gives-then {o = Err c} gives next = record { fact = λ y e. cc }

pub Gives-if : {A : Type 0} {P : A → Type 0} (b : Bool) (x : A) (c : Cause) → (b ≡ true → P x) → Gives P (if b then Ok x else Err c)
Gives-if true x c h = Gives-value x (h refl)
Gives-if false x c h = Gives-none c

pub Gives-or : {A : Type 0} {P : A → Type 0} (o : Option A) (c : Cause) → ((x : A) → o ≡ Some x → P x) → Gives P (or_cause o c)
Gives-or (Some x) c h = Gives-value x (h x refl)
Gives-or None c h = Gives-none c

-- ---- lists

pub each_from : {A : Type 0} (p : A → Bool) (xs : List A) → IsTrue (list_all p xs) → AllByRecursion (λ x. IsTrue (p x)) xs
each_from p [] h = tt
each_from p (x ∷ xs) h = let parts = and_parts (p x) (list_all p xs) h in (parts.0, each_from p xs parts.1)

pub each_to : {A : Type 0} (p : A → Bool) (xs : List A) → AllByRecursion (λ x. IsTrue (p x)) xs → IsTrue (list_all p xs)
each_to p [] h = refl
each_to p (x ∷ xs) h = and_from (p x) (list_all p xs) h.0 (each_to p xs h.1)

pub each_append : {A : Type 0} (P : A → Type 0) (xs ys : List A) → AllByRecursion P xs → AllByRecursion P ys → AllByRecursion P (xs ++ ys)
each_append P [] ys h k = k
each_append P (x ∷ xs) ys h k = (h.0, each_append P xs ys h.1 k)

each_cond : {A : Type 0} (P : A → Type 0) (b : Bool) (x : A) (xs : List A) → P x → AllByRecursion P xs → AllByRecursion P (cond b (x ∷ xs) xs)
each_cond P true x xs h k = (h, k)
each_cond P false x xs h k = k

pub each_filter : {A : Type 0} (P : A → Type 0) (test : A → Bool) (xs : List A) → AllByRecursion P xs → AllByRecursion P (filter test xs)
each_filter P test [] h = tt
each_filter P test (x ∷ xs) h = each_cond P (test x) x (filter test xs) h.0 (each_filter P test xs h.1)

pub each_map : {A B : Type 0} (P : A → Type 0) (Q : B → Type 0) (f : A → B) (xs : List A) → ((x : A) → P x → Q (f x)) → AllByRecursion P xs → AllByRecursion Q (map f xs)
each_map P Q f [] next h = tt
each_map P Q f (x ∷ xs) next h = (next x h.0, each_map P Q f xs next h.1)

pub each_at : {A : Type 0} (P : A → Type 0) (xs : List A) (i : ℕ) (x : A) → AllByRecursion P xs → slice_get xs i ≡ Some x → P x
each_at P [] i x h e = cc
each_at P (y ∷ ys) zero x h e = let same : y ≡ x = cc in subst P same h.0
each_at P (y ∷ ys) (suc i) x h e = each_at P ys i x h.1 e

found_choice : {A : Type 0} (P : A → Type 0) (b : Bool) (v : A) (o : Option A) (x : A) → P v → (o ≡ Some x → P x) → cond b (Some v) o ≡ Some x → P x
found_choice P true v o x h k e = let same : v ≡ x = cc in subst P same h
found_choice P false v o x h k e = k e

pub each_found : {K A : Type 0} (P : A → Type 0) (test : K → Bool) (es : List (K × A)) (x : A) → AllByRecursion (λ (e : K × A). P e.1) es → lookup test es ≡ Some x → P x
each_found P test [] x h e = cc
each_found P test (y ∷ ys) x h e = found_choice P (test y.0) y.1 (lookup test ys) x h.0 (λ k. each_found P test ys x h.1 k) e

-- ---- objects and occurrences

pub values_fit : (fields : List Field) (row : Row) → IsTrue (row_fits fields row) → RowFits row
values_fit [] [] h = tt
values_fit [] (v ∷ vs) h = cc
values_fit (f ∷ fs) [] h = cc
values_fit (f ∷ fs) (v ∷ vs) h =
    let typed = and_parts (bytes_eq f.name v.0) (is_kind f.kind (kind_of v.1) && (value_fits v.1 && row_fits fs vs)) h in
    let here = and_parts (is_kind f.kind (kind_of v.1)) (value_fits v.1 && row_fits fs vs) typed.1 in
    let more = and_parts (value_fits v.1) (row_fits fs vs) here.1 in
    (more.0, values_fit fs vs more.1)

-- an object's row under its key
pub object_keyed : (library : Library) (class : ℕ) (key : ℤ) (row : Row) → IsTrue (object_fits library class key row) → IsTrue (fits_64 key) × RowFits row
object_keyed library class key row h =
    let within = and_parts (nat_lt class (length library.classes)) (fits_64 key && row_fits (class_at library class).fields row) h in
    let keyed = and_parts (fits_64 key) (row_fits (class_at library class).fields row) within.1 in
    (keyed.0, values_fit (class_at library class).fields row keyed.1)

-- ---- expressions

pub unsigned_fits : (z : ℤ) → unsigned_abs z < 2 ^ 63 → IsTrue (fits_64 z)
unsigned_fits (pos n) h = lt-ltb n (2 ^ 63) h
unsigned_fits (negsuc n) h = lt-ltb n (2 ^ 63) (omega (arith, h))

pub fits_unsigned : (z : ℤ) → IsTrue (fits_64 z) → unsigned_abs z ≤ 2 ^ 63
fits_unsigned (pos n) h = let low = ltb-true n (2 ^ 63) h in omega (arith, low)
fits_unsigned (negsuc n) h = let low = ltb-true n (2 ^ 63) h in omega (arith, low)

-- a remainder is below its divisor
remainder_fits : (x y : ℤ) → 0 < unsigned_abs y → IsTrue (fits_64 y) → IsTrue (fits_64 (int_rem x y))
remainder_fits x y h fit =
    let below = rem_below x y h in
    let bound = fits_unsigned y fit in
    unsigned_fits (int_rem x y) (omega (arith, below, bound))

in_range_gives : (z : ℤ) → Gives ValueFits (in_range z)
in_range_gives z = Gives-if (fits_64 z) (integer z) overflow (λ h. h)

calculate_gives : (op : Arithmetic) (x y : ℤ) → IsTrue (fits_64 y) → Gives ValueFits (calculate op x y)
calculate_gives plus x y h = in_range_gives (x +ℤ y)
calculate_gives minus x y h = in_range_gives (x -ℤ y)
calculate_gives times x y h = in_range_gives (x *ℤ y)
calculate_gives quotient x (pos zero) h = Gives-none divide_by_zero
calculate_gives quotient x (pos (suc n)) h = in_range_gives (int_div x (pos (suc n)))
calculate_gives quotient x (negsuc n) h = in_range_gives (int_div x (negsuc n))
calculate_gives remainder x (pos zero) h = Gives-none divide_by_zero
calculate_gives remainder x (pos (suc n)) h =
    Gives-then (Gives-any (in_range (int_div x (pos (suc n))))) λ v _. Gives-value (integer (int_rem x (pos (suc n)))) (remainder_fits x (pos (suc n)) (omega arith) h)
calculate_gives remainder x (negsuc n) h =
    Gives-then (Gives-any (in_range (int_div x (negsuc n)))) λ v _. Gives-value (integer (int_rem x (negsuc n))) (remainder_fits x (negsuc n) (omega arith) h)

pub integer_gives : (v : Value) → ValueFits v → Gives (λ z. IsTrue (fits_64 z)) (as_integer v)
integer_gives (integer z) h = Gives-value z h
integer_gives (boolean b) h = Gives-none wrong_kind
integer_gives (text s) h = Gives-none wrong_kind

-- what is read of a fit environment
module _ (library : Library) (env : Environment) (fit : EnvironmentFits library env) where
  parts_give : (o : Option Occurrence) → OptionFits library o → (i : ℕ) (p : Primitive) → part_of (record { occurrence = o; rows = env.rows; values = env.values; now = env.now }) i ≡ Ok p
      → PrimitiveFits library p
  parts_give None h i p e = cc
  parts_give (Some o) h i p e = (Gives-or {P = PrimitiveFits library} (slice_get o.parts i) no_parameter (λ x is. each_at (PrimitiveFits library) o.parts i x h is)).fact p e

  part_gives : (i : ℕ) → Gives (PrimitiveFits library) (part_of env i)
  part_gives i = record { fact = λ p e. parts_give env.occurrence fit.0 i p e }

  row_gives : (x : Name) → Gives KeyedFits (row_named env x)
  row_gives x = Gives-or (lookup (bytes_eq x) env.rows) wrong_kind (λ r is. each_found KeyedFits (bytes_eq x) env.rows r fit.1 is)

pub field_gives : (row : Row) (f : Name) → RowFits row → Gives ValueFits (field_in row f)
field_gives row f h = Gives-or (lookup (bytes_eq f) row) wrong_kind (λ v is. each_found ValueFits (bytes_eq f) row v h is)

new_gives : (library : Library) (p : Primitive) → PrimitiveFits library p → Gives RowFits (new_row p)
new_gives library (created c k new) h = Gives-value new (object_keyed library c k new h).1
new_gives library (updated c k old new) h =
    let both_fit = and_parts (object_fits library c k old) (object_fits library c k new) h in
    Gives-value new (object_keyed library c k new both_fit.1).1
new_gives library (deleted c k old) h = Gives-none no_parameter
new_gives library (signalled name arguments) h = Gives-none no_parameter
new_gives library commit_reached h = Gives-none no_parameter
new_gives library (moment_reached t) h = Gives-none no_parameter

old_gives : (library : Library) (p : Primitive) → PrimitiveFits library p → Gives RowFits (old_row p)
old_gives library (created c k new) h = Gives-none no_parameter
old_gives library (updated c k old new) h =
    let both_fit = and_parts (object_fits library c k old) (object_fits library c k new) h in
    Gives-value old (object_keyed library c k old both_fit.0).1
old_gives library (deleted c k old) h = Gives-value old (object_keyed library c k old h).1
old_gives library (signalled name arguments) h = Gives-none no_parameter
old_gives library commit_reached h = Gives-none no_parameter
old_gives library (moment_reached t) h = Gives-none no_parameter

key_gives : (library : Library) (p : Primitive) → PrimitiveFits library p → Gives ValueFits (operation_key p)
key_gives library (created c k new) h = Gives-value (integer k) (object_keyed library c k new h).0
key_gives library (updated c k old new) h =
    let both_fit = and_parts (object_fits library c k old) (object_fits library c k new) h in
    Gives-value (integer k) (object_keyed library c k old both_fit.0).0
key_gives library (deleted c k old) h = Gives-value (integer k) (object_keyed library c k old h).0
key_gives library (signalled name arguments) h = Gives-none no_parameter
key_gives library commit_reached h = Gives-none no_parameter
key_gives library (moment_reached t) h = Gives-none no_parameter

argument_gives : (library : Library) (p : Primitive) (j : ℕ) → PrimitiveFits library p → Gives ValueFits (argument_of p j)
argument_gives library (created c k new) j h = Gives-none no_parameter
argument_gives library (updated c k old new) j h = Gives-none no_parameter
argument_gives library (deleted c k old) j h = Gives-none no_parameter
argument_gives library (signalled name arguments) j h =
    Gives-or (slice_get arguments j) no_parameter (λ v is. each_at ValueFits arguments j v (each_from value_fits arguments h) is)
argument_gives library commit_reached j h = Gives-none no_parameter
argument_gives library (moment_reached t) j h = Gives-none no_parameter

moment_gives : (p : Primitive) → Gives ValueFits (moment_of p)
moment_gives (created c k new) = Gives-none no_parameter
moment_gives (updated c k old new) = Gives-none no_parameter
moment_gives (deleted c k old) = Gives-none no_parameter
moment_gives (signalled name arguments) = Gives-none no_parameter
moment_gives commit_reached = Gives-none no_parameter
moment_gives (moment_reached t) = in_range_gives (pos t)

count_gives : (o : Option Occurrence) → Gives ValueFits (count_in o)
count_gives None = Gives-none no_parameter
count_gives (Some o) = in_range_gives (pos o.count)

chosen_gives : (b c : Bool) (o : Outcome Value) → Gives ValueFits o → Gives ValueFits (if b then o else Ok (boolean c))
chosen_gives true c o h = h
chosen_gives false c o h = Gives-value (boolean c) refl

otherwise_gives : (b c : Bool) (o : Outcome Value) → Gives ValueFits o → Gives ValueFits (if b then Ok (boolean c) else o)
otherwise_gives true c o h = Gives-value (boolean c) refl
otherwise_gives false c o h = h

-- the value of an expression in a fit environment
module _ (library : Library) (env : Environment) (fit : EnvironmentFits library env) where
  pub value_gives : (e : Expression) → IsTrue (expression_fits e) → Gives ValueFits (value_of env e)
  value_gives (constant v) h = Gives-value v h
  value_gives (arithmetic op a b) h =
      let parts = and_parts (expression_fits a) (expression_fits b) h in
      Gives-then (value_gives a parts.0) λ v hv.
      Gives-then (value_gives b parts.1) λ w hw.
      Gives-then (integer_gives v hv) λ x hx.
      Gives-then (integer_gives w hw) λ y hy. calculate_gives op x y hy
  value_gives (negated a) h =
      Gives-then (value_gives a h) λ v hv.
      Gives-then (integer_gives v hv) λ x hx. in_range_gives (neg_ℤ x)
  value_gives (inverted a) h =
      Gives-then (value_gives a h) λ v hv.
      Gives-then (Gives-any (as_boolean v)) λ b _. Gives-value (boolean (not b)) refl
  value_gives (both a b) h =
      let parts = and_parts (expression_fits a) (expression_fits b) h in
      Gives-then (value_gives a parts.0) λ v hv.
      Gives-then (Gives-any (as_boolean v)) λ x _.
      Gives-then (chosen_gives x false (value_of env b) (value_gives b parts.1)) λ w hw.
      Gives-then (Gives-any (as_boolean w)) λ y _. Gives-value (boolean y) refl
  value_gives (either a b) h =
      let parts = and_parts (expression_fits a) (expression_fits b) h in
      Gives-then (value_gives a parts.0) λ v hv.
      Gives-then (Gives-any (as_boolean v)) λ x _.
      Gives-then (otherwise_gives x true (value_of env b) (value_gives b parts.1)) λ w hw.
      Gives-then (Gives-any (as_boolean w)) λ y _. Gives-value (boolean y) refl
  value_gives (compared op a b) h =
      let parts = and_parts (expression_fits a) (expression_fits b) h in
      Gives-then (value_gives a parts.0) λ v hv.
      Gives-then (value_gives b parts.1) λ w hw.
      Gives-then (Gives-any (compare op v w)) λ c _. Gives-value (boolean c) refl
  value_gives (field_of x f) h = Gives-then (row_gives library env fit x) λ r hr. field_gives r.row f hr.1
  value_gives (key_of x) h = Gives-then (row_gives library env fit x) λ r hr. Gives-value (integer r.key) hr.0
  value_gives (new_field i f) h = Gives-then (part_gives library env fit i) λ p hp. Gives-then (new_gives library p hp) λ row hr. field_gives row f hr
  value_gives (old_field i f) h = Gives-then (part_gives library env fit i) λ p hp. Gives-then (old_gives library p hp) λ row hr. field_gives row f hr
  value_gives (key_in i) h = Gives-then (part_gives library env fit i) λ p hp. key_gives library p hp
  value_gives (argument i j) h = Gives-then (part_gives library env fit i) λ p hp. argument_gives library p j hp
  value_gives (time_of i) h = Gives-then (part_gives library env fit i) λ p hp. moment_gives p
  value_gives occurrence_count h = count_gives env.occurrence
  value_gives (value_named x) h = Gives-or (lookup (bytes_eq x) env.values) wrong_kind (λ v is. each_found ValueFits (bytes_eq x) env.values v fit.2 is)
  value_gives time_now h = in_range_gives (pos env.now)

  pub values_give : (es : List Expression) → IsTrue (list_all expression_fits es) → Gives (AllByRecursion ValueFits) (values_of env es)
  values_give [] h = Gives-value [] tt
  values_give (e ∷ es) h =
      let parts = and_parts (expression_fits e) (list_all expression_fits es) h in
      Gives-then (value_gives e parts.0) λ v hv.
      Gives-then (values_give es parts.1) λ vs hvs. Gives-value (v ∷ vs) (hv, hvs)

  pub assigned_give : (pairs : List Assignment) → IsTrue (assignments_fit pairs) → Gives RowFits (assigned env pairs)
  assigned_give [] h = Gives-value [] tt
  assigned_give (a ∷ more) h =
      let parts = and_parts (expression_fits a.value) (assignments_fit more) h in
      Gives-then (value_gives a.value parts.0) λ v hv.
      Gives-then (assigned_give more parts.1) λ vs hvs. Gives-value ((a.field, v) ∷ vs) (hv, hvs)

-- ---- queries

kept_rows : (keep : Bool) (r : KeyedRow) (rest : List KeyedRow) → KeyedFits r → RowsFit rest → RowsFit (if keep then r ∷ rest else rest)
kept_rows true r rest h k = (h, k)
kept_rows false r rest h k = k

pub selected_gives : (env : Environment) (x : Name) (predicate : Expression) (rows : List KeyedRow) → RowsFit rows → Gives RowsFit (selected env x predicate rows)
selected_gives env x predicate [] h = Gives-value [] tt
selected_gives env x predicate (r ∷ rs) h =
    Gives-then (Gives-any (value_of (bound x r env) predicate)) λ v _.
    Gives-then (Gives-any (as_boolean v)) λ keep _.
    Gives-then (selected_gives env x predicate rs h.1) λ rest hrest. Gives-value (if keep then r ∷ rest else rest) (kept_rows keep r rest h.0 hrest)

pub rows_fit : (library : Library) (class : ℕ) (objects : Objects) → ObjectsFit library objects → RowsFit (rows_of class objects)
rows_fit library class objects h =
    each_map (λ (o : ObjectName × Row). IsTrue (object_fits library o.0.class o.0.key o.1)) KeyedFits (λ (o : ObjectName × Row). record { key = o.0.key; row = o.1 })
    (filter (λ (o : ObjectName × Row). o.0.class == class) objects) (λ o fit. object_keyed library o.0.class o.0.key o.1 fit)
    (each_filter (λ (o : ObjectName × Row). IsTrue (object_fits library o.0.class o.0.key o.1)) (λ (o : ObjectName × Row). o.0.class == class) objects h)

pub answer_gives : (library : Library) (env : Environment) (x : Name) (class : ℕ) (predicate : Expression) (objects : Objects) → ObjectsFit library objects
    → Gives RowsFit (answer env x class predicate objects)
answer_gives library env x class predicate objects h = selected_gives env x predicate (rows_of class objects) (rows_fit library class objects h)

-- ---- aggregates

-- a value, if there is one
abbrev pub HeldFits : Option Value → Type 0
HeldFits None = ⊤
HeldFits (Some v) = ValueFits v

pub bound_fits : (library : Library) (x : Name) (r : KeyedRow) (env : Environment) → KeyedFits r → EnvironmentFits library env → EnvironmentFits library (bound x r env)
bound_fits library x r env h fit = (fit.0, (h, fit.1), fit.2)

pub holding_fits : (library : Library) (x : Name) (v : Value) (env : Environment) → ValueFits v → EnvironmentFits library env → EnvironmentFits library (holding x v env)
holding_fits library x v env h fit = (fit.0, fit.1, (h, fit.2))

abbrev MergeFits : Merge → Type 0
MergeFits merge = (o : Option Value) (v : Value) → HeldFits o → ValueFits v → Gives ValueFits (merge o v)

module _ (library : Library) (env : Environment) (fit : EnvironmentFits library env) (merge : Merge) (merges : MergeFits merge) (x : Name) (predicate term : Expression)
    (term_fits : IsTrue (expression_fits term)) where
  merged_step : (keep : Bool) (r : KeyedRow) (so_far : Option Value) → KeyedFits r → HeldFits so_far
      → Gives HeldFits (if keep then (value_of (bound x r env) term >>= λ w. merge so_far w >>= λ m. Ok (Some m)) else Ok so_far)
  merged_step true r so_far h k =
      Gives-then (value_gives library (bound x r env) (bound_fits library x r env h fit) term term_fits) λ w hw.
      Gives-then (merges so_far w k hw) λ m hm. Gives-value (Some m) hm
  merged_step false r so_far h k = Gives-value so_far k

  merged_gives : (so_far : Option Value) (rows : List KeyedRow) → HeldFits so_far → RowsFit rows → Gives HeldFits (merged merge env x predicate term so_far rows)
  merged_gives so_far [] k h = Gives-value so_far k
  merged_gives so_far (r ∷ rs) k h =
      Gives-then (Gives-any (value_of (bound x r env) predicate)) λ v _.
      Gives-then (Gives-any (as_boolean v)) λ keep _.
      Gives-then (merged_step keep r so_far h.0 k) λ next hnext. merged_gives next rs hnext h.1

added_fits : MergeFits added
added_fits o v h k = Gives-then (Gives-any (as_integer _)) λ x _. Gives-then (Gives-any (as_integer v)) λ y _. in_range_gives (x +ℤ y)

either_fits : (b : Bool) (v w : Value) → ValueFits v → ValueFits w → ValueFits (if b then v else w)
either_fits true v w h k = h
either_fits false v w h k = k

preferred_fits : (op : Comparison) → MergeFits (preferred op)
preferred_fits op None v h k = Gives-then (Gives-any (compare op v v)) λ _ _. Gives-value v k
preferred_fits op (Some w) v h k = Gives-then (Gives-any (compare op v w)) λ b _. Gives-value (if b then v else w) (either_fits b v w k h)

count_fits : (rows : List KeyedRow) → ValueFits (row_count rows)
count_fits rows = lt-ltb (min (length rows) (2 ^ 63 - 1)) (2 ^ 63) (omega arith)

key_after_gives : (o : Option ℤ) → Gives ValueFits (key_after o)
key_after_gives None = Gives-value (integer (pos 1)) refl
key_after_gives (Some k) = in_range_gives (k +ℤ pos 1)

present_gives : {o : Outcome Value} → Gives ValueFits o → Gives HeldFits (present o)
present_gives gives = Gives-then gives λ v h. Gives-value (Some v) h

sum_fits : (o : Option Value) → HeldFits o → ValueFits (unwrap_or o (integer (pos 0)))
sum_fits None h = refl
sum_fits (Some v) h = h

pub aggregated_gives : (library : Library) (env : Environment) (objects : Objects) → EnvironmentFits library env → ObjectsFit library objects → (a : Aggregate)
    → IsTrue (aggregate_fits a) → Gives HeldFits (aggregated objects env a)
aggregated_gives library env objects fit h (count_over x class predicate) k =
    Gives-then (answer_gives library env x class predicate objects h) λ rows _. Gives-value (Some (row_count rows)) (count_fits rows)
aggregated_gives library env objects fit h (sum_over x class predicate term) k =
    let parts = and_parts (expression_fits predicate) (expression_fits term) k in
    Gives-then (merged_gives library env fit added added_fits x predicate term parts.1 None (rows_of class objects) tt (rows_fit library class objects h)) λ sum hsum.
    Gives-value (Some (unwrap_or sum (integer (pos 0)))) (sum_fits sum hsum)
aggregated_gives library env objects fit h (least_over x class predicate term) k =
    let parts = and_parts (expression_fits predicate) (expression_fits term) k in
    merged_gives library env fit (preferred less) (preferred_fits less) x predicate term parts.1 None (rows_of class objects) tt (rows_fit library class objects h)
aggregated_gives library env objects fit h (greatest_over x class predicate term) k =
    let parts = and_parts (expression_fits predicate) (expression_fits term) k in
    merged_gives library env fit (preferred greater) (preferred_fits greater) x predicate term parts.1 None (rows_of class objects) tt (rows_fit library class objects h)
aggregated_gives library env objects fit h (next_key class) k = present_gives (key_after_gives (last_or None (class_keys class objects)))
aggregated_gives library env objects fit h (single e) k = present_gives (value_gives library env fit e k)

held_gives : (o : Option Value) → HeldFits o → Gives ValueFits (or_cause o missing)
held_gives None h = Gives-none missing
held_gives (Some v) h = Gives-value v h

pub let_gives : (library : Library) (env : Environment) (objects : Objects) → EnvironmentFits library env → ObjectsFit library objects → (a : Aggregate)
    → IsTrue (aggregate_fits a) → Gives ValueFits (let_of objects env a)
let_gives library env objects fit h a k = Gives-then (aggregated_gives library env objects fit h a k) λ o ho. held_gives o ho
