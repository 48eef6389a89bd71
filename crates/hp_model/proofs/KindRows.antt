-- What kinded statements and queries compute: values, rows and answers of the right kinds, or no cause of a kind.
use Rattle.std.proofs.Common.{◌≡◌, refl, subst, sym, ap, ◌∙◌, ℕ, ℤ, pos, List, [], ◌∷◌, map, filter, Option, None, Some, Bool, true, false, ◌&&◌, cond, IsTrue}
use Rattle.std.proofs.lemmas.Bool.{and_parts, and_from}
use Rattle.std.proofs.lemmas.Bool.Decides.{Decides-eqb}
use Rattle.std.specs.Prelude.{⊤, Ok, Err, bytes_eq, if◌then◌else◌, ◌==◌, ◌||◌, ◌+ℤ◌, is_some, unwrap_or}
use Rattle.std.specs.List.{last_or, AllByRecursion, list_all, list_any}
use Rattle.std.specs.Map.{lookup}
use Rattle.hp_model.specs.Values.{Name, NamedValues, Kind, integer_kind, boolean_kind, text_kind, integer, Field, kind_of, is_kind, Value, Row, KeyedRow, Cause, missing}
use Rattle.hp_model.specs.Values.{wrong_kind, Outcome, ◌>>=◌, or_cause}
use Rattle.hp_model.specs.Expressions as E
use Rattle.hp_model.specs.Expressions.{plus, Comparison, compare, Expression, Environment, bound, holding, value_of}
use Rattle.hp_model.specs.Conditions.{selected, answer, Merge, merged, added, preferred, row_count, key_after, present, aggregated, let_of, Answers, Findings, Verdict, satisfied}
use Rattle.hp_model.specs.Conditions.{unsatisfied, faulty, keeping, keeping_value, if_answered, if_unanswered, if_valued, verdict, with_answers, with_values, with_findings}
use Rattle.hp_model.specs.Rules.{Aggregate, count_over, sum_over, least_over, greatest_over, next_key, single, Entry, query_entry, no_entry, let_entry, Assignment, RuleOperation}
use Rattle.hp_model.specs.Rules.{install, enable, disable, remove, Library}
use Rattle.hp_model.specs.State.{Objects, ObjectName, rows_of, class_keys, object_fits, find_object, RuleState, Status, absent, enabled, disabled}
use Rattle.hp_model.specs.Firing.{values_of, assigned, of_kind, made_row, kind_in, checked_kinds, keyed_row, integer_value, boolean_value, named_object, operated_rule}
use Rattle.hp_model.specs.Kinds.{Sort, only, any, has_sort, Declared, covers, Scope, with_name, with_sort, is_test, ordered, are_ordered, aggregate_sort, is_aggregate_calm}
use Rattle.hp_model.specs.Kinds.{if_sorted, is_only, gives_sort, is_given, sort_of, is_calm, is_condition_calm, arguments_kinded, assignments_kinded, all_assigned, entries_kinded}
use Rattle.hp_model.specs.Kinds.{with_entries, query_classes, NotOfKinds, CauseOf}
use Rattle.hp_model.proofs.FitValues.{ObjectsFit}
use Rattle.hp_model.proofs.FitRows.{KindsAre}
use Rattle.hp_model.proofs.FitStates.{found_fit}
use Rattle.hp_model.proofs.KindValues.{Safe, Safe-value, Safe-cause, Safe-then, Safe-some, Safe-weaker, not_of_kinds, IsOf, ArithmeticOf, Typed, only_gives, only_is, some_if}
use Rattle.hp_model.proofs.KindValues.{either_is, range_safe, calculate_safe, below_integers, below_texts, ValuesTyped, integer_safe, boolean_safe, one_name, KeyedOf, object_row}
use Rattle.hp_model.proofs.KindValues.{EnvironmentTyped, value_typed}

-- no cause of a kind, none of arithmetic if it is calm, and the value has the property
abbrev pub Sound : {A : Type 0} (calm : Bool) (P : A → Type 0) → Outcome A → Type 0
Sound calm P o = Safe (CauseOf calm) P o

arithmetic_cause : (calm : Bool) (e : Expression) → (is_calm e ≡ false → calm ≡ false) → (c : Cause) → ArithmeticOf e c → CauseOf calm c
arithmetic_cause calm e less c h = (not_of_kinds c h.0, λ _. less h.1)

sound : {A : Type 0} {P : A → Type 0} {o : Outcome A} (calm : Bool) (e : Expression) → (is_calm e ≡ false → calm ≡ false) → Safe (ArithmeticOf e) P o → Sound calm P o
sound calm e less safe = Safe-weaker (arithmetic_cause calm e less) (λ x h. h) safe

-- no cause of a kind, and none at all if it is calm
abbrev pub FaultOf : (calm : Bool) → Cause → Type 0
FaultOf calm c = NotOfKinds c × (calm ≡ false)

pub not_first : (a b : Bool) → a ≡ false → (a && b) ≡ false
not_first true b e = cc
not_first false b e = refl

pub not_second : (a b : Bool) → b ≡ false → (a && b) ≡ false
not_second true b e = e
not_second false b e = refl

module _ (library : Library) (d : Declared) (scope : Scope) (env : Environment) (typed : EnvironmentTyped library d scope env) (calm : Bool) where
  pub kind_sound : (k : Kind) (e : Expression) → (is_calm e ≡ false → calm ≡ false) → is_only k (sort_of library d scope e) ≡ true → Sound calm (IsOf k) (value_of env e)
  kind_sound k e less h = sound calm e less (only_gives k (sort_of library d scope e) (value_of env e) (value_typed library d scope env typed e) h)

  any_by : (x : Expression) → (is_calm x ≡ false → calm ≡ false) → (o : Option Sort) (out : Outcome Value) → Typed (ArithmeticOf x) o out → is_some o ≡ true → Sound calm (λ _. ⊤) out
  any_by x less None out h e = cc
  any_by x less (Some s) out h e = Safe-weaker (arithmetic_cause calm x less) (λ v k. tt) (h s refl)

  pub any_sound : (e : Expression) → (is_calm e ≡ false → calm ≡ false) → is_some (sort_of library d scope e) ≡ true → Sound calm (λ _. ⊤) (value_of env e)
  any_sound e less h = any_by e less (sort_of library d scope e) (value_of env e) (value_typed library d scope env typed e) h

  pub integer_sound : (e : Expression) → (is_calm e ≡ false → calm ≡ false) → is_only integer_kind (sort_of library d scope e) ≡ true → Sound calm (λ _. ⊤) (integer_value env e)
  integer_sound e less h = Safe-then (kind_sound integer_kind e less h) λ v hv. integer_safe v hv

  pub boolean_sound : (e : Expression) → (is_calm e ≡ false → calm ≡ false) → is_only boolean_kind (sort_of library d scope e) ≡ true → Sound calm (λ _. ⊤) (boolean_value env e)
  boolean_sound e less h = Safe-then (kind_sound boolean_kind e less h) λ v hv. boolean_safe v hv

  sort_by : (x : Expression) → (is_calm x ≡ false → calm ≡ false) → (s : Sort) (o : Option Sort) (out : Outcome Value) → Typed (ArithmeticOf x) o out
      → gives_sort s o ≡ true → Sound calm (λ v. IsTrue (has_sort s v)) out
  sort_by x less any o out h e = Safe-weaker (λ c k. k) (λ v k. refl) (any_by x less o out h e)
  sort_by x less (only k) o out h e = sound calm x less (only_gives k o out h e)

  rest_sound : (es : List Expression) → (list_all is_calm es ≡ false → calm ≡ false) → IsTrue (list_all (λ e. is_some (sort_of library d scope e)) es) → Sound calm (λ _. ⊤) (values_of env es)
  rest_sound [] less h = Safe-value [] tt
  rest_sound (e ∷ es) less h =
      let parts = and_parts (is_some (sort_of library d scope e)) (list_all (λ x. is_some (sort_of library d scope x)) es) h in
      Safe-then (any_sound e (λ k. less (not_first (is_calm e) (list_all is_calm es) k)) parts.0) λ v _. Safe-then
      (rest_sound es (λ k. less (not_second (is_calm e) (list_all is_calm es) k)) parts.1) λ vs _. Safe-value (v ∷ vs) tt

  pub arguments_sound : (ss : List Sort) (es : List Expression) → (list_all is_calm es ≡ false → calm ≡ false) → IsTrue (arguments_kinded library d scope ss es)
      → Sound calm (λ vs. IsTrue (covers ss vs)) (values_of env es)
  arguments_sound [] es less h = Safe-weaker (λ c k. k) (λ x k. refl) (rest_sound es less h)
  arguments_sound (s ∷ ss) [] less h = cc
  arguments_sound (s ∷ ss) (e ∷ es) less h =
      let parts = and_parts (gives_sort s (sort_of library d scope e)) (arguments_kinded library d scope ss es) h in
      Safe-then (sort_by e (λ k. less (not_first (is_calm e) (list_all is_calm es) k)) s (sort_of library d scope e) (value_of env e) (value_typed library d scope env typed e) parts.0) λ v hv.
      Safe-then (arguments_sound ss es (λ k. less (not_second (is_calm e) (list_all is_calm es) k)) parts.1) λ vs hvs. Safe-value (v ∷ vs) (and_from (has_sort s v) (covers ss vs) hv hvs)

-- ---- assignments

-- the field's kind is known, and the value is of it
abbrev pub IsAssigned : List Field → Name → Value → Type 0
IsAssigned fields x v = (kind : Kind) × (kind_in fields x ≡ Some kind) × IsOf kind v

-- the given values are those of the assignments
abbrev pub AreAssigned : List Field → List Assignment → Row → Type 0
AreAssigned fields [] [] = ⊤
AreAssigned fields [] (g ∷ gs) = ⊥
AreAssigned fields (a ∷ as') [] = ⊥
AreAssigned fields (a ∷ as') (g ∷ gs) = ((a.field ≡ g.0) × IsAssigned fields g.0 g.1) × AreAssigned fields as' gs

module _ (library : Library) (d : Declared) (scope : Scope) (env : Environment) (typed : EnvironmentTyped library d scope env) (calm : Bool) where
  given_sound : (fields : List Field) (x : Name) (known : Option Kind) (e : Expression) → (is_calm e ≡ false → calm ≡ false) → kind_in fields x ≡ known
      → is_given known (sort_of library d scope e) ≡ true → Sound calm (IsAssigned fields x) (value_of env e)
  given_sound fields x None e less is h = cc
  given_sound fields x (Some k) e less is h = Safe-weaker (λ c k. k) (λ v hv. (k, is, hv)) (kind_sound library d scope env typed calm k e less h)

  pub assigned_sound : (fields : List Field) (pairs : List Assignment) → (list_all (λ (a : Assignment). is_calm a.value) pairs ≡ false → calm ≡ false)
      → IsTrue (assignments_kinded library d scope fields pairs) → Sound calm (AreAssigned fields pairs) (assigned env pairs)
  assigned_sound fields [] less h = Safe-value [] tt
  assigned_sound fields (a ∷ more) less h =
      let parts = and_parts (is_given (kind_in fields a.field) (sort_of library d scope a.value)) (assignments_kinded library d scope fields more) h in
      Safe-then (given_sound fields a.field (kind_in fields a.field) a.value (λ k. less (not_first (is_calm a.value) (list_all (λ (b : Assignment). is_calm b.value) more) k)) refl parts.0) λ v hv.
      Safe-then (assigned_sound fields more (λ k. less (not_second (is_calm a.value) (list_all (λ (b : Assignment). is_calm b.value) more) k)) parts.1)
      λ vs hvs. Safe-value ((a.field, v) ∷ vs) ((refl, hv), hvs)

  pub row_sound : (P : Row → Type 0) (key : Expression) (pairs : List Assignment) (fields : List Field) (check : Row → Outcome Row)
      → ((is_calm key && list_all (λ (a : Assignment). is_calm a.value) pairs) ≡ false → calm ≡ false) → is_only integer_kind (sort_of library d scope key) ≡ true
      → IsTrue (assignments_kinded library d scope fields pairs) → ((given : Row) → AreAssigned fields pairs given → Sound calm (λ _. ⊤) (check given))
      → Sound calm (λ _. ⊤) (keyed_row env key pairs check)
  row_sound P key pairs fields check less h k checks =
      Safe-then (kind_sound library d scope env typed calm integer_kind key (λ k. less (not_first (is_calm key) (list_all (λ (a : Assignment). is_calm a.value) pairs) k)) h) λ v hv.
      Safe-then (assigned_sound fields pairs (λ z. less (not_second (is_calm key) (list_all (λ (a : Assignment). is_calm a.value) pairs) z)) k) λ given hgiven.
      Safe-then (integer_safe v hv) λ z _.
      Safe-then (checks given hgiven) λ row _. Safe-value (record { key = z; row = row }) tt

kind_sound' : (calm : Bool) (k : Kind) (v : Value) → IsOf k v → Sound calm (λ _. ⊤) (of_kind k v)
kind_sound' calm k v h = by_test (is_kind k (kind_of v)) h
  where
    by_test : (b : Bool) → b ≡ true → Sound calm (λ _. ⊤) (if b then Ok v else Err wrong_kind)
    by_test true e = Safe-value v tt
    by_test false e = cc

found_choice : (fields : List Field) (f : Name) (b c : Bool) (g : Name × Value) (rest : Bool) (found : Option Value) → b ≡ c → (c ≡ true → f ≡ g.0) → IsAssigned fields g.0 g.1 → (b || rest) ≡ true
    → (rest ≡ true → (v : Value) × (found ≡ Some v) × IsAssigned fields f v) → (v : Value) × (cond c (Some g.1) found ≡ Some v) × IsAssigned fields f v
found_choice fields f true true g rest found same named h e next = (g.1, refl, subst (λ x. IsAssigned fields x g.1) (sym (named refl)) h)
found_choice fields f true false g rest found same named h e next = cc
found_choice fields f false true g rest found same named h e next = cc
found_choice fields f false false g rest found same named h e next = next e

-- an assigned field is found
field_given : (fields : List Field) (f : Name) (pairs : List Assignment) (given : Row) → IsTrue (list_any (λ (a : Assignment). bytes_eq f a.field) pairs) → AreAssigned fields pairs given
    → (v : Value) × (lookup (bytes_eq f) given ≡ Some v) × IsAssigned fields f v
field_given fields f [] given e h = cc
field_given fields f (a ∷ more) [] e h = absurd h
field_given fields f (a ∷ more) (g ∷ gs) e h =
    found_choice fields f (bytes_eq f a.field) (bytes_eq f g.0) g (list_any (λ (b : Assignment). bytes_eq f b.field) more) (lookup (bytes_eq f) gs) (ap (bytes_eq f) h.0.0) (one_name f g.0) h.0.1 e
    (λ rest. field_given fields f more gs rest h.1)

pub made_sound : (calm : Bool) (fields fs : List Field) (pairs : List Assignment) (given : Row) → KindsAre fields fs → IsTrue (all_assigned fs pairs)
    → AreAssigned fields pairs given → Sound calm (λ _. ⊤) (made_row fs given)
made_sound calm fields [] pairs given kinds all h = Safe-value [] tt
made_sound calm fields (f ∷ fs) pairs given kinds all h =
    let parts = and_parts (list_any (λ (a : Assignment). bytes_eq f.name a.field) pairs) (all_assigned fs pairs) all in
    let found = field_given fields f.name pairs given parts.0 h in
    let same : found.2.0 ≡ f.kind = same_some (sym found.2.1 ∙ kinds.0) in
    Safe-then {P = λ v. v ≡ found.0} (Safe-some (lookup (bytes_eq f.name) given) found.0 wrong_kind found.1 refl) λ v is.
    Safe-then (kind_sound' calm f.kind v (subst (λ w. IsOf f.kind w) (sym is) (subst (λ k. IsOf k found.0) same found.2.2))) λ w _.
    Safe-then (made_sound calm fields fs pairs given kinds.1 parts.1 h) λ rest _. Safe-value ((f.name, w) ∷ rest) tt
  where
    same_some : {k l : Kind} → Some k ≡ Some l → k ≡ l
    same_some e = cc

pub checked_sound : (calm : Bool) (fields : List Field) (pairs : List Assignment) (given : Row) → AreAssigned fields pairs given → Sound calm (λ _. ⊤) (checked_kinds fields given)
checked_sound calm fields [] [] h = Safe-value [] tt
checked_sound calm fields [] (g ∷ gs) h = absurd h
checked_sound calm fields (a ∷ more) [] h = absurd h
checked_sound calm fields (a ∷ more) (g ∷ gs) h =
    let is = h.0.1 in
    Safe-then {P = λ k. k ≡ is.0} (Safe-some (kind_in fields g.0) is.0 wrong_kind is.1 refl) λ k same.
    Safe-then (kind_sound' calm k g.1 (subst (λ l. IsOf l g.1) (sym same) is.2)) λ v _.
    Safe-then (checked_sound calm fields more gs h.1) λ rest _. Safe-value ((g.0, v) ∷ rest) tt

-- ---- queries

-- rows of a class
abbrev pub RowsOf : Library → ℕ → List KeyedRow → Type 0
RowsOf library class rows = AllByRecursion (λ (r : KeyedRow). KeyedOf library class r) rows

kept_of : (library : Library) (class : ℕ) (keep : Bool) (r : KeyedRow) (rest : List KeyedRow) → KeyedOf library class r → RowsOf library class rest
    → RowsOf library class (if keep then r ∷ rest else rest)
kept_of library class true r rest h k = (h, k)
kept_of library class false r rest h k = k

chosen_of : (library : Library) (class : ℕ) (b : Bool) (o : ObjectName × Row) (os : Objects) → (b ≡ true → o.0.class ≡ class) → IsTrue (object_fits library o.0.class o.0.key o.1)
    → RowsOf library class (map (λ (x : ObjectName × Row). record { key = x.0.key; row = x.1 }) os)
    → RowsOf library class (map (λ (x : ObjectName × Row). record { key = x.0.key; row = x.1 }) (cond b (o ∷ os) os))
chosen_of library class true o os same h k =
    (subst (λ n. KeyedOf library n (record { key = o.0.key; row = o.1 })) (same refl) (object_row library (record { signatures = []; fired = [] }) o.0.class o.0.key o.1 h), k)
chosen_of library class false o os same h k = k

-- the rows of a class have its fields
pub rows_of_class : (library : Library) (class : ℕ) (objects : Objects) → ObjectsFit library objects → RowsOf library class (rows_of class objects)
rows_of_class library class [] h = tt
rows_of_class library class (o ∷ os) h =
    chosen_of library class (o.0.class == class) o (filter (λ (x : ObjectName × Row). x.0.class == class) os) (λ e. (Decides-eqb o.0.class class).0 e) h.0 (rows_of_class library class os h.1)

-- one more row
pub bound_typed : (library : Library) (d : Declared) (x : Name) (class : ℕ) (r : KeyedRow) (scope : Scope) (env : Environment) → KeyedOf library class r → EnvironmentTyped library d scope env
    → EnvironmentTyped library d (with_name x class scope) (bound x r env)
bound_typed library d x class r scope env h typed = record { columns = typed.columns; parts = typed.parts; rows = ((refl, h), typed.rows); values = typed.values; now = typed.now }

pub selected_sound : (library : Library) (d : Declared) (x : Name) (class : ℕ) (predicate : Expression) (scope : Scope) (env : Environment) → EnvironmentTyped library d scope env
    → is_only boolean_kind (sort_of library d (with_name x class scope) predicate) ≡ true → (rows : List KeyedRow) → RowsOf library class rows
    → Safe (FaultOf (is_calm predicate)) (RowsOf library class) (selected env x predicate rows)
selected_sound library d x class predicate scope env typed e [] h = Safe-value [] tt
selected_sound library d x class predicate scope env typed e (r ∷ rs) h =
    Safe-then (Safe-weaker (λ c k. (not_of_kinds c k.0, k.1)) (λ v k. k) (only_gives boolean_kind (sort_of library d (with_name x class scope) predicate) (value_of (bound x r env) predicate)
    (value_typed library d (with_name x class scope) (bound x r env) (bound_typed library d x class r scope env h.0 typed) predicate) e)) λ v hv.
    Safe-then (boolean_safe v hv) λ keep _.
    Safe-then (selected_sound library d x class predicate scope env typed e rs h.1) λ rest hrest. Safe-value (if keep then r ∷ rest else rest) (kept_of library class keep r rest h.0 hrest)

pub answer_sound : (library : Library) (d : Declared) (x : Name) (class : ℕ) (predicate : Expression) (scope : Scope) (env : Environment) → EnvironmentTyped library d scope env
    → is_only boolean_kind (sort_of library d (with_name x class scope) predicate) ≡ true → (objects : Objects) → ObjectsFit library objects
    → Safe (FaultOf (is_calm predicate)) (RowsOf library class) (answer env x class predicate objects)
answer_sound library d x class predicate scope env typed e objects h = selected_sound library d x class predicate scope env typed e (rows_of class objects) (rows_of_class library class objects h)

-- one more value
pub holding_typed : (library : Library) (d : Declared) (x : Name) (s : Sort) (v : Value) (scope : Scope) (env : Environment) → IsTrue (has_sort s v)
    → EnvironmentTyped library d scope env → EnvironmentTyped library d (with_sort x s scope) (holding x v env)
holding_typed library d x s v scope env h typed = record { columns = typed.columns; parts = typed.parts; rows = typed.rows; values = ((refl, h), typed.values); now = typed.now }

-- ---- aggregates

-- a value, if there is one, has the property
abbrev pub Held : (Value → Type 0) → Option Value → Type 0
Held P None = ⊤
Held P (Some v) = P v

merged_sound : (library : Library) (class : ℕ) (C : Cause → Type 0) (P : Value → Type 0) (merge : Merge) (env : Environment) (x : Name) (predicate term : Expression)
    → ((o : Option Value) (v : Value) → Held P o → P v → Safe C P (merge o v))
    → ((r : KeyedRow) → KeyedOf library class r → Safe C (IsOf boolean_kind) (value_of (bound x r env) predicate))
    → ((r : KeyedRow) → KeyedOf library class r → Safe C P (value_of (bound x r env) term))
    → (so_far : Option Value) (rows : List KeyedRow) → Held P so_far → RowsOf library class rows → Safe C (Held P) (merged merge env x predicate term so_far rows)
merged_sound library class C P merge env x predicate term merges test give so_far [] h of = Safe-value so_far h
merged_sound library class C P merge env x predicate term merges test give so_far (r ∷ rs) h of =
    Safe-then (test r of.0) λ v hv.
    Safe-then (boolean_safe v hv) λ keep _.
    Safe-then (step keep) λ next hnext. merged_sound library class C P merge env x predicate term merges test give next rs hnext of.1
  where
    step : (keep : Bool) → Safe C (Held P) (if keep then (value_of (bound x r env) term >>= λ w. merge so_far w >>= λ m. Ok (Some m)) else Ok so_far)
    step true = Safe-then (give r of.0) λ w hw. Safe-then (merges so_far w h hw) λ m hm. Safe-value (Some m) hm
    step false = Safe-value so_far h

-- the predicate of an aggregate or of a query
test_sound : (library : Library) (d : Declared) (x : Name) (class : ℕ) (predicate : Expression) (scope : Scope) (env : Environment) → EnvironmentTyped library d scope env
    → is_test library d scope x class predicate ≡ true
    → (r : KeyedRow) → KeyedOf library class r → Safe (FaultOf (is_calm predicate)) (IsOf boolean_kind) (value_of (bound x r env) predicate)
test_sound library d x class predicate scope env typed e r h =
    Safe-weaker (λ c k. (not_of_kinds c k.0, k.1)) (λ v k. k) (only_gives boolean_kind (sort_of library d (with_name x class scope) predicate) (value_of (bound x r env) predicate)
    (value_typed library d (with_name x class scope) (bound x r env) (bound_typed library d x class r scope env h typed) predicate) e)

term_sound : (library : Library) (d : Declared) (x : Name) (class : ℕ) (term : Expression) (k : Kind) (scope : Scope) (env : Environment)
    → EnvironmentTyped library d scope env → sort_of library d (with_name x class scope) term ≡ Some (only k)
    → (r : KeyedRow) → KeyedOf library class r → Safe (FaultOf (is_calm term)) (IsOf k) (value_of (bound x r env) term)
term_sound library d x class term k scope env typed e r h =
    Safe-weaker (λ c z. (not_of_kinds c z.0, z.1)) (λ v z. z) (value_typed library d (with_name x class scope) (bound x r env) (bound_typed library d x class r scope env h typed) term (only k) e)

partial_integer : (o : Option Value) → Held (IsOf integer_kind) o → IsOf integer_kind (unwrap_or o (integer (pos 0)))
partial_integer None h = refl
partial_integer (Some v) h = h

added_sound : (o : Option Value) (v : Value) → Held (IsOf integer_kind) o → IsOf integer_kind v → Safe (FaultOf false) (IsOf integer_kind) (added o v)
added_sound o v h k =
    Safe-then (integer_safe (unwrap_or o (integer (pos 0))) (partial_integer o h)) λ x _.
    Safe-then (integer_safe v k) λ y _. Safe-weaker (λ c z. (not_of_kinds c z, refl)) (λ w z. z) (calculate_safe plus x y)

-- two values of the kind compare
abbrev Compares : (Cause → Type 0) → Comparison → Kind → Type 0
Compares C op k = (v w : Value) → IsOf k v → IsOf k w → Safe C (λ _. ⊤) (compare op v w)

either_of : (k : Kind) (b : Bool) (v w : Value) → IsOf k v → IsOf k w → IsOf k (if b then v else w)
either_of k true v w h l = h
either_of k false v w h l = l

preferred_sound : (C : Cause → Type 0) (op : Comparison) (k : Kind) → Compares C op k → (o : Option Value) (v : Value) → Held (IsOf k) o → IsOf k v → Safe C (IsOf k) (preferred op o v)
preferred_sound C op k compares None v h l = Safe-then (compares v v l l) λ _ _. Safe-value v l
preferred_sound C op k compares (Some w) v h l = Safe-then (compares v w l h) λ b _. Safe-value (if b then v else w) (either_of k b v w l h)

-- what a sort of integers or texts is
ordered_is : (C : Cause → Type 0) (o : Option Sort) (s : Sort) → ordered o ≡ Some s → (P : Type 0)
    → ((k : Kind) → o ≡ Some (only k) → s ≡ only k → Compares C E.less k → Compares C E.greater k → P) → P
ordered_is C o s e P next =
    let is = some_if (are_ordered o o) (unwrap_or o any) s e in
    either_is (is_only integer_kind o && is_only integer_kind o) (is_only text_kind o && is_only text_kind o) is.0 P
    (λ h. let one = only_is integer_kind o (and_parts (is_only integer_kind o) (is_only integer_kind o) h).0 in
    next integer_kind one (sym is.1 ∙ ap (λ p. unwrap_or p any) one) (λ v w l m. below_integers v w l m) (λ v w l m. below_integers w v m l))
    (λ h. let one = only_is text_kind o (and_parts (is_only text_kind o) (is_only text_kind o) h).0 in
    next text_kind one (sym is.1 ∙ ap (λ p. unwrap_or p any) one) (λ v w l m. below_texts v w l m) (λ v w l m. below_texts w v m l))

if_some : {A : Type 0} (b : Bool) (o : Option A) (x : A) → (if b then o else None) ≡ Some x → (b ≡ true) × (o ≡ Some x)
if_some true o x e = (refl, e)
if_some false o x e = cc

-- the value is of the sort
abbrev pub HasSort : Sort → Value → Type 0
HasSort s v = IsTrue (has_sort s v)

sum_of : (o : Option Value) → Held (IsOf integer_kind) o → HasSort (only integer_kind) (unwrap_or o (integer (pos 0)))
sum_of None h = refl
sum_of (Some v) h = h

key_after_sound : (o : Option ℤ) → Safe (FaultOf false) (IsOf integer_kind) (key_after o)
key_after_sound None = Safe-value (integer (pos 1)) refl
key_after_sound (Some k) = Safe-weaker (λ c z. (not_of_kinds c z, refl)) (λ w z. z) (range_safe (k +ℤ pos 1))

present_sound : {C : Cause → Type 0} {P : Value → Type 0} {o : Outcome Value} → Safe C P o → Safe C (Held P) (present o)
present_sound safe = Safe-then safe λ v h. Safe-value (Some v) h

module _ (library : Library) (d : Declared) (scope : Scope) (env : Environment) (typed : EnvironmentTyped library d scope env) (objects : Objects) (fit : ObjectsFit library objects) where
  -- the least or the greatest
  extreme_sound : (op : Comparison) (k : Kind) (x : Name) (class : ℕ) (predicate term : Expression) → Compares (FaultOf (is_calm predicate && is_calm term)) op k
      → is_test library d scope x class predicate ≡ true → sort_of library d (with_name x class scope) term ≡ Some (only k)
      → Safe (FaultOf (is_calm predicate && is_calm term)) (Held (IsOf k)) (merged (preferred op) env x predicate term None (rows_of class objects))
  extreme_sound op k x class predicate term compares e f =
      merged_sound library class (FaultOf (is_calm predicate && is_calm term)) (IsOf k) (preferred op) env x predicate term
      (preferred_sound (FaultOf (is_calm predicate && is_calm term)) op k compares)
      (λ r h. Safe-weaker (λ c z. (z.0, not_first (is_calm predicate) (is_calm term) z.1)) (λ v z. z) (test_sound library d x class predicate scope env typed e r h))
      (λ r h. Safe-weaker (λ c z. (z.0, not_second (is_calm predicate) (is_calm term) z.1)) (λ v z. z) (term_sound library d x class term k scope env typed f r h))
      None (rows_of class objects) tt (rows_of_class library class objects fit)

  -- an aggregate of the right kinds has a value of its sort, if it has one; it never faults if it is calm
  pub aggregated_sound : (a : Aggregate) (s : Sort) → aggregate_sort library d scope a ≡ Some s → Safe (FaultOf (is_aggregate_calm a)) (Held (HasSort s)) (aggregated objects env a)
  aggregated_sound (count_over x class predicate) s e =
      let is = some_if (is_test library d scope x class predicate) (only integer_kind) s e in
      subst (λ t. Safe (FaultOf (is_calm predicate)) (Held (HasSort t)) (aggregated objects env (count_over x class predicate))) is.1
      (Safe-then (answer_sound library d x class predicate scope env typed is.0 objects fit) λ rows _. Safe-value (Some (row_count rows)) refl)
  aggregated_sound (sum_over x class predicate term) s e =
      let is = some_if (is_test library d scope x class predicate && is_only integer_kind (sort_of library d (with_name x class scope) term)) (only integer_kind) s e in
      let parts = and_parts (is_test library d scope x class predicate) (is_only integer_kind (sort_of library d (with_name x class scope) term)) is.0 in
      subst (λ t. Safe (FaultOf false) (Held (HasSort t)) (aggregated objects env (sum_over x class predicate term))) is.1
      (Safe-then
      (merged_sound library class (FaultOf false) (IsOf integer_kind) added env x predicate term added_sound
      (λ r h. Safe-weaker (λ c z. (z.0, refl)) (λ v z. z) (test_sound library d x class predicate scope env typed parts.0 r h))
      (λ r h. Safe-weaker (λ c z. (z.0, refl)) (λ v z. z) (term_sound library d x class term integer_kind scope env typed
      (only_is integer_kind (sort_of library d (with_name x class scope) term) parts.1) r h))
      None (rows_of class objects) tt (rows_of_class library class objects fit))
      λ sum hsum. Safe-value (Some (unwrap_or sum (integer (pos 0)))) (sum_of sum hsum))
  aggregated_sound (least_over x class predicate term) s e =
      let is = if_some (is_test library d scope x class predicate) (ordered (sort_of library d (with_name x class scope) term)) s e in
      ordered_is (FaultOf (is_calm predicate && is_calm term)) (sort_of library d (with_name x class scope) term) s is.1 _
      λ k one same lesser greater. subst (λ t. Safe (FaultOf (is_calm predicate && is_calm term)) (Held (HasSort t)) (aggregated objects env (least_over x class predicate term))) (sym same)
      (extreme_sound E.less k x class predicate term lesser is.0 one)
  aggregated_sound (greatest_over x class predicate term) s e =
      let is = if_some (is_test library d scope x class predicate) (ordered (sort_of library d (with_name x class scope) term)) s e in
      ordered_is (FaultOf (is_calm predicate && is_calm term)) (sort_of library d (with_name x class scope) term) s is.1 _
      λ k one same lesser greatest. subst (λ t. Safe (FaultOf (is_calm predicate && is_calm term)) (Held (HasSort t)) (aggregated objects env (greatest_over x class predicate term))) (sym same)
      (extreme_sound E.greater k x class predicate term greatest is.0 one)
  aggregated_sound (next_key class) s e =
      let same : only integer_kind ≡ s = cc in
      subst (λ t. Safe (FaultOf false) (Held (HasSort t)) (aggregated objects env (next_key class))) same (present_sound (key_after_sound (last_or None (class_keys class objects))))
  aggregated_sound (single e) s is = present_sound (Safe-weaker (λ c z. (not_of_kinds c z.0, z.1)) (λ v z. z) (value_typed library d scope env typed e s is))

  -- the value of a statement `let`
  pub let_sound : (calm : Bool) (a : Aggregate) (s : Sort) → (is_aggregate_calm a ≡ false → calm ≡ false) → aggregate_sort library d scope a ≡ Some s → Sound calm (HasSort s) (let_of objects env a)
  let_sound calm a s less e = Safe-then (Safe-weaker (λ c z. (z.0, λ _. less z.1)) (λ o z. z) (aggregated_sound a s e)) λ o ho. held o ho
    where
      held : (o : Option Value) → Held (HasSort s) o → Sound calm (HasSort s) (or_cause o missing)
      held None h = Safe-cause missing (tt, λ e. cc)
      held (Some v) h = Safe-value v h

-- ---- conditions

-- the sort of a `let`, if its aggregate is of the right kinds
pub sorted_is : (o : Option Sort) (test : Sort → Bool) → if_sorted o test ≡ true → (o ≡ Some (unwrap_or o any)) × (test (unwrap_or o any) ≡ true)
sorted_is None test e = cc
sorted_is (Some s) test e = (refl, e)

-- the sorts of a condition's values
abbrev pub let_sorts : Library → Declared → Scope → List Entry → List (Name × Sort)
let_sorts library d scope [] = []
let_sorts library d scope (query_entry q ∷ es) = let_sorts library d (with_name q.name q.class scope) es
let_sorts library d scope (no_entry q ∷ es) = let_sorts library d scope es
let_sorts library d scope (let_entry x a ∷ es) =
    (x, unwrap_or (aggregate_sort library d scope a) any) ∷ let_sorts library d (with_sort x (unwrap_or (aggregate_sort library d scope a) any) scope) es

-- an answer with a row
abbrev pub IsAnswer : Library → ℕ → List KeyedRow → Type 0
IsAnswer library class [] = ⊥
IsAnswer library class (r ∷ rs) = KeyedOf library class r × RowsOf library class rs

-- the answers of queries of these names and classes
abbrev pub AnswersTyped : Library → List (Name × ℕ) → Answers → Type 0
AnswersTyped library [] [] = ⊤
AnswersTyped library [] (a ∷ as') = ⊥
AnswersTyped library (q ∷ qs) [] = ⊥
AnswersTyped library (q ∷ qs) (a ∷ as') = ((q.0 ≡ a.0) × IsAnswer library q.1 a.1) × AnswersTyped library qs as'

-- the findings of a condition with these queries and these sorts of values
abbrev pub FindingsTyped : Library → List (Name × ℕ) → List (Name × Sort) → Findings → Type 0
FindingsTyped library qs ss found = AnswersTyped library qs found.answers × ValuesTyped ss found.values

abbrev pub VerdictTyped : Library → List (Name × ℕ) → List (Name × Sort) → (calm : Bool) → Verdict → Type 0
VerdictTyped library qs ss calm (satisfied found) = FindingsTyped library qs ss found
VerdictTyped library qs ss calm unsatisfied = ⊤
VerdictTyped library qs ss calm (faulty c) = FaultOf calm c

keeping_typed : (library : Library) (q : Name × ℕ) (qs : List (Name × ℕ)) (ss : List (Name × Sort)) (first rest : Bool) (rows : List KeyedRow) (v : Verdict)
    → IsAnswer library q.1 rows → VerdictTyped library qs ss rest v
    → VerdictTyped library (q ∷ qs) ss (first && rest) (keeping q.0 rows v)
keeping_typed library q qs ss first rest rows (satisfied found) h k = (((refl, h), k.0), k.1)
keeping_typed library q qs ss first rest rows unsatisfied h k = tt
keeping_typed library q qs ss first rest rows (faulty c) h k = (k.0, not_second first rest k.1)

keeping_value_typed : (library : Library) (qs : List (Name × ℕ)) (x : Name) (s : Sort) (ss : List (Name × Sort)) (first rest : Bool) (v : Value) (w : Verdict)
    → HasSort s v → VerdictTyped library qs ss rest w
    → VerdictTyped library qs ((x, s) ∷ ss) (first && rest) (keeping_value x v w)
keeping_value_typed library qs x s ss first rest v (satisfied found) h k = (k.0, ((refl, h), k.1))
keeping_value_typed library qs x s ss first rest v unsatisfied h k = tt
keeping_value_typed library qs x s ss first rest v (faulty c) h k = (k.0, not_second first rest k.1)

later_typed : (library : Library) (qs : List (Name × ℕ)) (ss : List (Name × Sort)) (first rest : Bool) (v : Verdict) → VerdictTyped library qs ss rest v → VerdictTyped library qs ss (first && rest) v
later_typed library qs ss first rest (satisfied found) k = k
later_typed library qs ss first rest unsatisfied k = tt
later_typed library qs ss first rest (faulty c) k = (k.0, not_second first rest k.1)

answered_typed : (library : Library) (q : Name × ℕ) (qs : List (Name × ℕ)) (ss : List (Name × Sort)) (first rest : Bool) (o : Outcome (List KeyedRow)) (next : KeyedRow → Verdict)
    → Safe (FaultOf first) (RowsOf library q.1) o
    → ((r : KeyedRow) → KeyedOf library q.1 r → VerdictTyped library qs ss rest (next r)) → VerdictTyped library (q ∷ qs) ss (first && rest) (if_answered q.0 o next)
answered_typed library q qs ss first rest (Err c) next safe k = let is = safe.cause c refl in (is.0, not_first first rest is.1)
answered_typed library q qs ss first rest (Ok []) next safe k = tt
answered_typed library q qs ss first rest (Ok (r ∷ rs)) next safe k = let rows = safe.value (r ∷ rs) refl in keeping_typed library q qs ss first rest (r ∷ rs) (next r) rows (k r rows.0)

unanswered_typed : (library : Library) (class : ℕ) (qs : List (Name × ℕ)) (ss : List (Name × Sort)) (first rest : Bool) (o : Outcome (List KeyedRow)) (next : Verdict)
    → Safe (FaultOf first) (RowsOf library class) o
    → VerdictTyped library qs ss rest next → VerdictTyped library qs ss (first && rest) (if_unanswered o next)
unanswered_typed library class qs ss first rest (Err c) next safe k = let is = safe.cause c refl in (is.0, not_first first rest is.1)
unanswered_typed library class qs ss first rest (Ok []) next safe k = later_typed library qs ss first rest next k
unanswered_typed library class qs ss first rest (Ok (r ∷ rs)) next safe k = tt

valued_typed : (library : Library) (qs : List (Name × ℕ)) (x : Name) (s : Sort) (ss : List (Name × Sort)) (first rest : Bool) (o : Outcome (Option Value)) (next : Value → Verdict)
    → Safe (FaultOf first) (Held (HasSort s)) o
    → ((v : Value) → HasSort s v → VerdictTyped library qs ss rest (next v)) → VerdictTyped library qs ((x, s) ∷ ss) (first && rest) (if_valued x o next)
valued_typed library qs x s ss first rest (Err c) next safe k = let is = safe.cause c refl in (is.0, not_first first rest is.1)
valued_typed library qs x s ss first rest (Ok None) next safe k = tt
valued_typed library qs x s ss first rest (Ok (Some v)) next safe k = let h = safe.value (Some v) refl in keeping_value_typed library qs x s ss first rest v (next v) h (k v h)

pub verdict_typed : (library : Library) (d : Declared) (objects : Objects) (scope : Scope) (env : Environment) (es : List Entry) → ObjectsFit library objects → EnvironmentTyped library d scope env
    → IsTrue (entries_kinded library d scope es) → VerdictTyped library (query_classes es) (let_sorts library d scope es) (is_condition_calm es) (verdict objects env es)
verdict_typed library d objects scope env [] fit typed h = (tt, tt)
verdict_typed library d objects scope env (query_entry q ∷ es) fit typed h =
    let parts = and_parts (is_test library d scope q.name q.class q.predicate) (entries_kinded library d (with_name q.name q.class scope) es) h in
    answered_typed library (q.name, q.class) (query_classes es) (let_sorts library d (with_name q.name q.class scope) es) (is_calm q.predicate)
    (is_condition_calm es) (answer env q.name q.class q.predicate objects) (λ first. verdict objects (bound q.name first env) es)
    (answer_sound library d q.name q.class q.predicate scope env typed parts.0 objects fit)
    (λ first row. verdict_typed library d objects (with_name q.name q.class scope) (bound q.name first env) es fit (bound_typed library d q.name q.class first scope env row typed) parts.1)
verdict_typed library d objects scope env (no_entry q ∷ es) fit typed h =
    let parts = and_parts (is_test library d scope q.name q.class q.predicate) (entries_kinded library d scope es) h in
    unanswered_typed library q.class (query_classes es) (let_sorts library d scope es) (is_calm q.predicate) (is_condition_calm es) (answer env q.name q.class q.predicate objects)
    (verdict objects env es)
    (answer_sound library d q.name q.class q.predicate scope env typed parts.0 objects fit) (verdict_typed library d objects scope env es fit typed parts.1)
verdict_typed library d objects scope env (let_entry x a ∷ es) fit typed h =
    let s = unwrap_or (aggregate_sort library d scope a) any in
    let is = sorted_is (aggregate_sort library d scope a) (λ t. entries_kinded library d (with_sort x t scope) es) h in
    valued_typed library (query_classes es) x s (let_sorts library d (with_sort x s scope) es) (is_aggregate_calm a) (is_condition_calm es) (aggregated objects env a)
    (λ v. verdict objects (holding x v env) es)
    (aggregated_sound library d scope env typed objects fit a s is.0)
    (λ v hv. verdict_typed library d objects (with_sort x s scope) (holding x v env) es fit (holding_typed library d x s v scope env hv typed) is.1)

-- ---- the environment of an action

-- a scope with all rows of the queries, and one with all values
abbrev with_rows : List (Name × ℕ) → Scope → Scope
with_rows [] scope = scope
with_rows (q ∷ qs) scope = with_rows qs (with_name q.0 q.1 scope)

abbrev with_sorts : List (Name × Sort) → Scope → Scope
with_sorts [] scope = scope
with_sorts (s ∷ ss) scope = with_sorts ss (with_sort s.0 s.1 scope)

sort_first : (qs : List (Name × ℕ)) (x : Name) (s : Sort) (scope : Scope) → with_rows qs (with_sort x s scope) ≡ with_sort x s (with_rows qs scope)
sort_first [] x s scope = refl
sort_first (q ∷ qs) x s scope = sort_first qs x s (with_name q.0 q.1 scope)

-- rows and values don't mind their order
rows_first : (library : Library) (d : Declared) (es : List Entry) (scope : Scope) → with_entries library d scope es ≡ with_sorts (let_sorts library d scope es) (with_rows (query_classes es) scope)
rows_first library d [] scope = refl
rows_first library d (query_entry q ∷ es) scope = rows_first library d es (with_name q.name q.class scope)
rows_first library d (no_entry q ∷ es) scope = rows_first library d es scope
rows_first library d (let_entry x a ∷ es) scope =
    let s = unwrap_or (aggregate_sort library d scope a) any in
    rows_first library d es (with_sort x s scope) ∙ ap (with_sorts (let_sorts library d (with_sort x s scope) es)) (sort_first (query_classes es) x s scope)

one_bound : (library : Library) (d : Declared) (q : Name × ℕ) (qs : List (Name × ℕ)) (x : Name) (rows : List KeyedRow) (more : Answers) (scope : Scope) (env : Environment)
    → q.0 ≡ x → IsAnswer library q.1 rows
    → EnvironmentTyped library d scope env
    → ((inner : Environment) → EnvironmentTyped library d (with_name q.0 q.1 scope) inner → EnvironmentTyped library d (with_rows qs (with_name q.0 q.1 scope)) (with_answers inner more))
    → EnvironmentTyped library d (with_rows qs (with_name q.0 q.1 scope)) (with_answers env ((x, rows) ∷ more))
one_bound library d q qs x [] more scope env same h typed next = absurd h
one_bound library d q qs x (r ∷ rs) more scope env same h typed next =
    next (bound x r env) (record { columns = typed.columns; parts = typed.parts; rows = ((same, h.0), typed.rows); values = typed.values; now = typed.now })

answers_typed : (library : Library) (d : Declared) (qs : List (Name × ℕ)) (answers : Answers) (scope : Scope) (env : Environment) → AnswersTyped library qs answers
    → EnvironmentTyped library d scope env
    → EnvironmentTyped library d (with_rows qs scope) (with_answers env answers)
answers_typed library d [] [] scope env h typed = typed
answers_typed library d [] (a ∷ more) scope env h typed = absurd h
answers_typed library d (q ∷ qs) [] scope env h typed = absurd h
answers_typed library d (q ∷ qs) (a ∷ more) scope env h typed =
    one_bound library d q qs a.0 a.1 more scope env h.0.0 h.0.1 typed (λ inner k. answers_typed library d qs more (with_name q.0 q.1 scope) inner h.1 k)

values_typed : (library : Library) (d : Declared) (ss : List (Name × Sort)) (values : NamedValues) (scope : Scope) (env : Environment) → ValuesTyped ss values → EnvironmentTyped library d scope env
    → EnvironmentTyped library d (with_sorts ss scope) (with_values env values)
values_typed library d [] [] scope env h typed = typed
values_typed library d [] (v ∷ vs) scope env h typed = absurd h
values_typed library d (s ∷ ss) [] scope env h typed = absurd h
values_typed library d (s ∷ ss) (v ∷ vs) scope env h typed =
    values_typed library d ss vs (with_sort s.0 s.1 scope) (holding v.0 v.1 env) h.1
    (record { columns = typed.columns; parts = typed.parts; rows = typed.rows; values = (h.0, typed.values); now = typed.now })

-- with all that its condition found
pub findings_typed : (library : Library) (d : Declared) (es : List Entry) (found : Findings) (scope : Scope) (env : Environment)
    → FindingsTyped library (query_classes es) (let_sorts library d scope es) found
    → EnvironmentTyped library d scope env → EnvironmentTyped library d (with_entries library d scope es) (with_findings env found)
findings_typed library d es found scope env h typed =
    subst (λ (t : Scope). EnvironmentTyped library d t (with_findings env found)) (sym (rows_first library d es scope))
    (values_typed library d (let_sorts library d scope es) found.values (with_rows (query_classes es) scope) (with_answers env found.answers) h.1
    (answers_typed library d (query_classes es) found.answers scope env h.0 typed))

-- an answer that a `for` names
answer_rows : (library : Library) (class : ℕ) (rows : List KeyedRow) → IsAnswer library class rows → RowsOf library class rows
answer_rows library class [] h = tt
answer_rows library class (r ∷ rs) h = h

answer_choice : (library : Library) (b c : Bool) (class : ℕ) (rows : List KeyedRow) (known : Option ℕ) (found : Option (List KeyedRow)) → b ≡ c
    → RowsOf library class rows → RowsOf library (unwrap_or known 0) (unwrap_or found [])
    → RowsOf library (unwrap_or (cond b (Some class) known) 0) (unwrap_or (cond c (Some rows) found) [])
answer_choice library true true class rows known found same h k = h
answer_choice library true false class rows known found same h k = cc
answer_choice library false true class rows known found same h k = cc
answer_choice library false false class rows known found same h k = k

pub answer_named_typed : (library : Library) (x : Name) (qs : List (Name × ℕ)) (answers : Answers) → AnswersTyped library qs answers
    → RowsOf library (unwrap_or (lookup (bytes_eq x) qs) 0) (unwrap_or (lookup (bytes_eq x) answers) [])
answer_named_typed library x [] [] h = tt
answer_named_typed library x [] (a ∷ more) h = absurd h
answer_named_typed library x (q ∷ qs) [] h = absurd h
answer_named_typed library x (q ∷ qs) (a ∷ more) h =
    answer_choice library (bytes_eq x q.0) (bytes_eq x a.0) q.1 a.1 (lookup (bytes_eq x) qs) (lookup (bytes_eq x) more) (ap (bytes_eq x) h.0.0)
    (answer_rows library q.1 a.1 h.0.1) (answer_named_typed library x qs more h.1)

-- ---- objects and rules that statements name

pub object_sound : (library : Library) (d : Declared) (scope : Scope) (env : Environment) → EnvironmentTyped library d scope env
    → (calm : Bool) (objects : Objects) (class : ℕ) (key : Expression) → (is_calm key ≡ false → calm ≡ false) → ObjectsFit library objects
    → is_only integer_kind (sort_of library d scope key) ≡ true → Sound calm (λ (r : KeyedRow). KeyedOf library class r) (named_object objects env class key)
object_sound library d scope env typed calm objects class key less fit h =
    Safe-then (integer_sound library d scope env typed calm key less h) λ k _.
    Safe-then {P = λ row. KeyedOf library class (record { key = k; row = row })}
    (row_or k (find_object objects class k) (λ row e. object_row library d class k row (found_fit library class k objects row fit e))) λ row hrow.
    Safe-value (record { key = k; row = row }) hrow
  where
    row_or : (k : ℤ) (o : Option Row) → ((row : Row) → o ≡ Some row → KeyedOf library class (record { key = k; row = row }))
        → Sound calm (λ row. KeyedOf library class (record { key = k; row = row })) (or_cause o missing)
    row_or k None next = Safe-cause missing (tt, λ e. cc)
    row_or k (Some row) next = Safe-value row (next row refl)

operated_by : (calm : Bool) (op : RuleOperation) (r : RuleState) (status : Status) → r.status ≡ status → Sound calm (λ _. ⊤) (operated_rule op (record { status = status; past = r.past }))
operated_by calm install r absent e = Safe-value _ tt
operated_by calm install r enabled e = Safe-value _ tt
operated_by calm install r disabled e = Safe-value _ tt
operated_by calm enable r absent e = Safe-cause missing (tt, λ e. cc)
operated_by calm enable r enabled e = Safe-value _ tt
operated_by calm enable r disabled e = Safe-value _ tt
operated_by calm disable r absent e = Safe-cause missing (tt, λ e. cc)
operated_by calm disable r enabled e = Safe-value _ tt
operated_by calm disable r disabled e = Safe-value _ tt
operated_by calm remove r absent e = Safe-value _ tt
operated_by calm remove r enabled e = Safe-value _ tt
operated_by calm remove r disabled e = Safe-value _ tt

pub operated_sound : (calm : Bool) (op : RuleOperation) (r : RuleState) → Sound calm (λ _. ⊤) (operated_rule op r)
operated_sound calm op r = operated_by calm op r r.status refl
