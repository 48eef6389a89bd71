-- No computation of a value ends with the cause that firings would nest too deep.
use Rattle.std.proofs.Common.{◌≡◌, refl, subst, ℕ, zero, suc, ℤ, pos, negsuc, List, [], ◌∷◌, Option, None, Some, Bool, true, false}
use Rattle.std.specs.Prelude.{⊤, Ok, Err, bytes_eq, slice_get, int_div, int_rem, neg_ℤ, if◌then◌else◌, ◌+ℤ◌, ◌-ℤ◌, ◌*ℤ◌, not}
use Rattle.std.specs.List.{last_or}
use Rattle.std.specs.Map.{lookup}
use Rattle.hp_model.specs.Values.{Name, Kind, Field, kind_of, is_kind, Value, integer, boolean, text, Row, KeyedRow, Cause, wrong_kind, overflow, divide_by_zero, no_parameter}
use Rattle.hp_model.specs.Values.{missing, Outcome, ◌>>=◌, or_cause, fits_64}
use Rattle.hp_model.specs.Occurrences.{Primitive, created, updated, deleted, signalled, commit_reached, moment_reached, Occurrence}
use Rattle.hp_model.specs.Expressions.{Arithmetic, plus, minus, times, quotient, remainder, Comparison, equal, unequal, less, at_most, greater, at_least, Expression, constant}
use Rattle.hp_model.specs.Expressions.{arithmetic, negated, inverted, both, either, compared, field_of, key_of, new_field, old_field, key_in, argument, time_of, occurrence_count}
use Rattle.hp_model.specs.Expressions.{value_named, time_now, Environment, bound, holding, as_integer, as_boolean, in_range, calculate, is_below, is_equal, compare, part_of}
use Rattle.hp_model.specs.Expressions.{row_named, field_in, new_row, old_row, operation_key, argument_of, moment_of, count_in, value_of}
use Rattle.hp_model.specs.Conditions.{selected, answer, Merge, merged, added, preferred, row_count, key_after, present, aggregated, let_of, Verdict, satisfied, unsatisfied, faulty}
use Rattle.hp_model.specs.Conditions.{if_answered, if_unanswered, if_valued, keeping, keeping_value, verdict}
use Rattle.hp_model.specs.Rules.{Aggregate, count_over, sum_over, least_over, greatest_over, next_key, single, Entry, query_entry, no_entry, let_entry, Assignment, RuleOperation}
use Rattle.hp_model.specs.Rules.{install, enable, disable, remove}
use Rattle.hp_model.specs.State.{Objects, rows_of, class_keys, find_object, Status, absent, enabled, disabled, RuleState}
use Rattle.hp_model.specs.Firing.{values_of, assigned, of_kind, made_row, kind_in, checked_kinds, keyed_row, integer_value, boolean_value, named_object, operated_rule}
use Rattle.hp_model.specs.Chains.{NotTooDeep}

-- if the outcome is a cause, it isn't that one
pub record Plain {A : Type 0} (o : Outcome A) : Type 0 where
  pub fact : (c : Cause) → o ≡ Err c → NotTooDeep c

pub Plain-value : {A : Type 0} (x : A) → Plain (Ok x)
Plain-value x = record { fact = λ c e. cc }

pub Plain-cause : {A : Type 0} (c : Cause) → NotTooDeep c → Plain {A = A} (Err c)
Plain-cause c h = record { fact = λ d e. let same : c ≡ d = cc in subst NotTooDeep same h }

pub Plain-then : {A B : Type 0} {o : Outcome A} {f : A → Outcome B} → Plain o → ((x : A) → Plain (f x)) → Plain (o >>= f)
Plain-then {o = Ok x} plain next = record { fact = λ c e. (next x).fact c e }
Plain-then {o = Err c} plain next = record { fact = λ d e. let same : c ≡ d = cc in subst NotTooDeep same (plain.fact c refl) }

Plain-if : {A : Type 0} (b : Bool) (x : A) (c : Cause) → NotTooDeep c → Plain (if b then Ok x else Err c)
Plain-if true x c h = Plain-value x
Plain-if false x c h = Plain-cause c h

Plain-or : {A : Type 0} (o : Option A) (c : Cause) → NotTooDeep c → Plain (or_cause o c)
Plain-or (Some x) c h = Plain-value x
Plain-or None c h = Plain-cause c h

-- ---- expressions

range_plain : (z : ℤ) → Plain (in_range z)
range_plain z = Plain-if (fits_64 z) (integer z) overflow tt

calculate_plain : (op : Arithmetic) (x y : ℤ) → Plain (calculate op x y)
calculate_plain plus x y = range_plain (x +ℤ y)
calculate_plain minus x y = range_plain (x -ℤ y)
calculate_plain times x y = range_plain (x *ℤ y)
calculate_plain quotient x (pos zero) = Plain-cause divide_by_zero tt
calculate_plain quotient x (pos (suc n)) = range_plain (int_div x (pos (suc n)))
calculate_plain quotient x (negsuc n) = range_plain (int_div x (negsuc n))
calculate_plain remainder x (pos zero) = Plain-cause divide_by_zero tt
calculate_plain remainder x (pos (suc n)) = Plain-then (range_plain (int_div x (pos (suc n)))) λ v. Plain-value (integer (int_rem x (pos (suc n))))
calculate_plain remainder x (negsuc n) = Plain-then (range_plain (int_div x (negsuc n))) λ v. Plain-value (integer (int_rem x (negsuc n)))

pub integer_plain : (v : Value) → Plain (as_integer v)
integer_plain (integer z) = Plain-value z
integer_plain (boolean b) = Plain-cause wrong_kind tt
integer_plain (text s) = Plain-cause wrong_kind tt

pub boolean_plain : (v : Value) → Plain (as_boolean v)
boolean_plain (integer z) = Plain-cause wrong_kind tt
boolean_plain (boolean b) = Plain-value b
boolean_plain (text s) = Plain-cause wrong_kind tt

below_plain : (v w : Value) → Plain (is_below v w)
below_plain (integer x) (integer y) = Plain-value _
below_plain (integer x) (boolean c) = Plain-cause wrong_kind tt
below_plain (integer x) (text t) = Plain-cause wrong_kind tt
below_plain (boolean b) w = Plain-cause wrong_kind tt
below_plain (text s) (integer y) = Plain-cause wrong_kind tt
below_plain (text s) (boolean c) = Plain-cause wrong_kind tt
below_plain (text s) (text t) = Plain-value _

equal_plain : (v w : Value) → Plain (is_equal v w)
equal_plain (integer x) (integer y) = Plain-value _
equal_plain (integer x) (boolean c) = Plain-cause wrong_kind tt
equal_plain (integer x) (text t) = Plain-cause wrong_kind tt
equal_plain (boolean b) (integer y) = Plain-cause wrong_kind tt
equal_plain (boolean b) (boolean c) = Plain-value _
equal_plain (boolean b) (text t) = Plain-cause wrong_kind tt
equal_plain (text s) (integer y) = Plain-cause wrong_kind tt
equal_plain (text s) (boolean c) = Plain-cause wrong_kind tt
equal_plain (text s) (text t) = Plain-value _

compare_plain : (op : Comparison) (v w : Value) → Plain (compare op v w)
compare_plain equal v w = equal_plain v w
compare_plain unequal v w = Plain-then (equal_plain v w) λ b. Plain-value (not b)
compare_plain less v w = below_plain v w
compare_plain at_most v w = Plain-then (below_plain w v) λ b. Plain-value (not b)
compare_plain greater v w = below_plain w v
compare_plain at_least v w = Plain-then (below_plain v w) λ b. Plain-value (not b)

part_plain : (env : Environment) (i : ℕ) → Plain (part_of env i)
part_plain env i = Plain-or _ no_parameter tt

row_plain : (env : Environment) (x : Name) → Plain (row_named env x)
row_plain env x = Plain-or (lookup (bytes_eq x) env.rows) wrong_kind tt

field_plain : (row : Row) (f : Name) → Plain (field_in row f)
field_plain row f = Plain-or (lookup (bytes_eq f) row) wrong_kind tt

new_plain : (p : Primitive) → Plain (new_row p)
new_plain (created c k new) = Plain-value new
new_plain (updated c k old new) = Plain-value new
new_plain (deleted c k old) = Plain-cause no_parameter tt
new_plain (signalled name arguments) = Plain-cause no_parameter tt
new_plain commit_reached = Plain-cause no_parameter tt
new_plain (moment_reached t) = Plain-cause no_parameter tt

old_plain : (p : Primitive) → Plain (old_row p)
old_plain (created c k new) = Plain-cause no_parameter tt
old_plain (updated c k old new) = Plain-value old
old_plain (deleted c k old) = Plain-value old
old_plain (signalled name arguments) = Plain-cause no_parameter tt
old_plain commit_reached = Plain-cause no_parameter tt
old_plain (moment_reached t) = Plain-cause no_parameter tt

key_plain : (p : Primitive) → Plain (operation_key p)
key_plain (created c k new) = Plain-value (integer k)
key_plain (updated c k old new) = Plain-value (integer k)
key_plain (deleted c k old) = Plain-value (integer k)
key_plain (signalled name arguments) = Plain-cause no_parameter tt
key_plain commit_reached = Plain-cause no_parameter tt
key_plain (moment_reached t) = Plain-cause no_parameter tt

argument_plain : (p : Primitive) (j : ℕ) → Plain (argument_of p j)
argument_plain (created c k new) j = Plain-cause no_parameter tt
argument_plain (updated c k old new) j = Plain-cause no_parameter tt
argument_plain (deleted c k old) j = Plain-cause no_parameter tt
argument_plain (signalled name arguments) j = Plain-or (slice_get arguments j) no_parameter tt
argument_plain commit_reached j = Plain-cause no_parameter tt
argument_plain (moment_reached t) j = Plain-cause no_parameter tt

moment_plain : (p : Primitive) → Plain (moment_of p)
moment_plain (created c k new) = Plain-cause no_parameter tt
moment_plain (updated c k old new) = Plain-cause no_parameter tt
moment_plain (deleted c k old) = Plain-cause no_parameter tt
moment_plain (signalled name arguments) = Plain-cause no_parameter tt
moment_plain commit_reached = Plain-cause no_parameter tt
moment_plain (moment_reached t) = range_plain (pos t)

count_plain : (o : Option Occurrence) → Plain (count_in o)
count_plain None = Plain-cause no_parameter tt
count_plain (Some o) = range_plain (pos o.count)

chosen_plain : (b c : Bool) (o : Outcome Value) → Plain o → Plain (if b then o else Ok (boolean c))
chosen_plain true c o h = h
chosen_plain false c o h = Plain-value (boolean c)

otherwise_plain : (b c : Bool) (o : Outcome Value) → Plain o → Plain (if b then Ok (boolean c) else o)
otherwise_plain true c o h = Plain-value (boolean c)
otherwise_plain false c o h = h

pub value_plain : (env : Environment) (e : Expression) → Plain (value_of env e)
value_plain env (constant v) = Plain-value v
value_plain env (arithmetic op a b) =
    Plain-then (value_plain env a) λ v.
    Plain-then (value_plain env b) λ w.
    Plain-then (integer_plain v) λ x.
    Plain-then (integer_plain w) λ y. calculate_plain op x y
value_plain env (negated a) = Plain-then (value_plain env a) λ v. Plain-then (integer_plain v) λ x. range_plain (neg_ℤ x)
value_plain env (inverted a) = Plain-then (value_plain env a) λ v. Plain-then (boolean_plain v) λ b. Plain-value (boolean (not b))
value_plain env (both a b) =
    Plain-then (value_plain env a) λ v.
    Plain-then (boolean_plain v) λ x.
    Plain-then (chosen_plain x false (value_of env b) (value_plain env b)) λ w.
    Plain-then (boolean_plain w) λ y. Plain-value (boolean y)
value_plain env (either a b) =
    Plain-then (value_plain env a) λ v.
    Plain-then (boolean_plain v) λ x.
    Plain-then (otherwise_plain x true (value_of env b) (value_plain env b)) λ w.
    Plain-then (boolean_plain w) λ y. Plain-value (boolean y)
value_plain env (compared op a b) =
    Plain-then (value_plain env a) λ v.
    Plain-then (value_plain env b) λ w.
    Plain-then (compare_plain op v w) λ c. Plain-value (boolean c)
value_plain env (field_of x f) = Plain-then (row_plain env x) λ r. field_plain r.row f
value_plain env (key_of x) = Plain-then (row_plain env x) λ r. Plain-value (integer r.key)
value_plain env (new_field i f) = Plain-then (part_plain env i) λ p. Plain-then (new_plain p) λ row. field_plain row f
value_plain env (old_field i f) = Plain-then (part_plain env i) λ p. Plain-then (old_plain p) λ row. field_plain row f
value_plain env (key_in i) = Plain-then (part_plain env i) λ p. key_plain p
value_plain env (argument i j) = Plain-then (part_plain env i) λ p. argument_plain p j
value_plain env (time_of i) = Plain-then (part_plain env i) λ p. moment_plain p
value_plain env occurrence_count = count_plain env.occurrence
value_plain env (value_named x) = Plain-or (lookup (bytes_eq x) env.values) wrong_kind tt
value_plain env time_now = range_plain (pos env.now)

-- ---- what statements compute

pub values_plain : (env : Environment) (es : List Expression) → Plain (values_of env es)
values_plain env [] = Plain-value []
values_plain env (e ∷ es) = Plain-then (value_plain env e) λ v. Plain-then (values_plain env es) λ vs. Plain-value (v ∷ vs)

assigned_plain : (env : Environment) (pairs : List Assignment) → Plain (assigned env pairs)
assigned_plain env [] = Plain-value []
assigned_plain env (a ∷ more) = Plain-then (value_plain env a.value) λ v. Plain-then (assigned_plain env more) λ vs. Plain-value ((a.field, v) ∷ vs)

kind_plain : (kind : Kind) (v : Value) → Plain (of_kind kind v)
kind_plain kind v = Plain-if (is_kind kind (kind_of v)) v wrong_kind tt

pub made_plain : (fields : List Field) (given : Row) → Plain (made_row fields given)
made_plain [] given = Plain-value []
made_plain (f ∷ fs) given =
    Plain-then (Plain-or (lookup (bytes_eq f.name) given) wrong_kind tt) λ v.
    Plain-then (kind_plain f.kind v) λ w.
    Plain-then (made_plain fs given) λ rest. Plain-value ((f.name, w) ∷ rest)

pub checked_plain : (fields : List Field) (given : Row) → Plain (checked_kinds fields given)
checked_plain fields [] = Plain-value []
checked_plain fields (g ∷ gs) =
    Plain-then (Plain-or (kind_in fields g.0) wrong_kind tt) λ kind.
    Plain-then (kind_plain kind g.1) λ v.
    Plain-then (checked_plain fields gs) λ rest. Plain-value ((g.0, v) ∷ rest)

pub keyed_plain : (env : Environment) (key : Expression) (pairs : List Assignment) (check : Row → Outcome Row) → ((given : Row) → Plain (check given)) → Plain (keyed_row env key pairs check)
keyed_plain env key pairs check h =
    Plain-then (value_plain env key) λ k.
    Plain-then (assigned_plain env pairs) λ given.
    Plain-then (integer_plain k) λ z.
    Plain-then (h given) λ row. Plain-value (record { key = z; row = row })

pub integer_value_plain : (env : Environment) (e : Expression) → Plain (integer_value env e)
integer_value_plain env e = Plain-then (value_plain env e) λ v. integer_plain v

pub boolean_value_plain : (env : Environment) (e : Expression) → Plain (boolean_value env e)
boolean_value_plain env e = Plain-then (value_plain env e) λ v. boolean_plain v

pub object_plain : (objects : Objects) (env : Environment) (class : ℕ) (key : Expression) → Plain (named_object objects env class key)
object_plain objects env class key =
    Plain-then (integer_value_plain env key) λ k.
    Plain-then (Plain-or (find_object objects class k) missing tt) λ row. Plain-value (record { key = k; row = row })

pub operated_plain : (op : RuleOperation) (r : RuleState) → Plain (operated_rule op r)
operated_plain op r = by op r.status
  where
    by : (op : RuleOperation) (status : Status) → Plain (operated_rule op (record { status = status; past = r.past }))
    by install absent = Plain-value _
    by install enabled = Plain-value _
    by install disabled = Plain-value _
    by enable absent = Plain-cause missing tt
    by enable enabled = Plain-value _
    by enable disabled = Plain-value _
    by disable absent = Plain-cause missing tt
    by disable enabled = Plain-value _
    by disable disabled = Plain-value _
    by remove absent = Plain-value _
    by remove enabled = Plain-value _
    by remove disabled = Plain-value _

-- ---- queries

selected_plain : (env : Environment) (x : Name) (predicate : Expression) (rows : List KeyedRow) → Plain (selected env x predicate rows)
selected_plain env x predicate [] = Plain-value []
selected_plain env x predicate (r ∷ rs) =
    Plain-then (value_plain (bound x r env) predicate) λ v.
    Plain-then (boolean_plain v) λ keep.
    Plain-then (selected_plain env x predicate rs) λ rest. Plain-value (if keep then r ∷ rest else rest)

pub answer_plain : (env : Environment) (x : Name) (class : ℕ) (predicate : Expression) (objects : Objects) → Plain (answer env x class predicate objects)
answer_plain env x class predicate objects = selected_plain env x predicate (rows_of class objects)

-- ---- aggregates

merged_plain : (merge : Merge) → ((o : Option Value) (v : Value) → Plain (merge o v)) → (env : Environment) (x : Name) (predicate term : Expression) (so_far : Option Value) (rows : List KeyedRow)
    → Plain (merged merge env x predicate term so_far rows)
merged_plain merge plain env x predicate term so_far [] = Plain-value so_far
merged_plain merge plain env x predicate term so_far (r ∷ rs) =
    Plain-then (value_plain (bound x r env) predicate) λ v.
    Plain-then (boolean_plain v) λ keep.
    Plain-then (step keep) λ next. merged_plain merge plain env x predicate term next rs
  where
    step : (keep : Bool) → Plain (if keep then (value_of (bound x r env) term >>= λ w. merge so_far w >>= λ m. Ok (Some m)) else Ok so_far)
    step true = Plain-then (value_plain (bound x r env) term) λ w. Plain-then (plain so_far w) λ m. Plain-value (Some m)
    step false = Plain-value so_far

added_plain : (o : Option Value) (v : Value) → Plain (added o v)
added_plain o v = Plain-then (integer_plain _) λ x. Plain-then (integer_plain v) λ y. calculate_plain plus x y

preferred_plain : (op : Comparison) (o : Option Value) (v : Value) → Plain (preferred op o v)
preferred_plain op None v = Plain-then (compare_plain op v v) λ b. Plain-value v
preferred_plain op (Some w) v = Plain-then (compare_plain op v w) λ b. Plain-value (if b then v else w)

key_after_plain : (o : Option ℤ) → Plain (key_after o)
key_after_plain None = Plain-value (integer (pos 1))
key_after_plain (Some k) = range_plain (k +ℤ pos 1)

present_plain : {o : Outcome Value} → Plain o → Plain (present o)
present_plain plain = Plain-then plain λ v. Plain-value (Some v)

pub aggregated_plain : (objects : Objects) (env : Environment) (a : Aggregate) → Plain (aggregated objects env a)
aggregated_plain objects env (count_over x class predicate) = Plain-then (answer_plain env x class predicate objects) λ rows. Plain-value (Some (row_count rows))
aggregated_plain objects env (sum_over x class predicate term) = Plain-then (merged_plain added added_plain env x predicate term None (rows_of class objects)) λ sum. Plain-value _
aggregated_plain objects env (least_over x class predicate term) = merged_plain (preferred less) (preferred_plain less) env x predicate term None (rows_of class objects)
aggregated_plain objects env (greatest_over x class predicate term) = merged_plain (preferred greater) (preferred_plain greater) env x predicate term None (rows_of class objects)
aggregated_plain objects env (next_key class) = present_plain (key_after_plain (last_or None (class_keys class objects)))
aggregated_plain objects env (single e) = present_plain (value_plain env e)

pub let_plain : (objects : Objects) (env : Environment) (a : Aggregate) → Plain (let_of objects env a)
let_plain objects env a = Plain-then (aggregated_plain objects env a) λ o. Plain-or o missing tt

-- ---- conditions

abbrev pub IsPlainVerdict : Verdict → Type 0
IsPlainVerdict (satisfied answers) = ⊤
IsPlainVerdict unsatisfied = ⊤
IsPlainVerdict (faulty c) = NotTooDeep c

keeping_plain : (x : Name) (rows : List KeyedRow) (v : Verdict) → IsPlainVerdict v → IsPlainVerdict (keeping x rows v)
keeping_plain x rows (satisfied answers) h = tt
keeping_plain x rows unsatisfied h = tt
keeping_plain x rows (faulty c) h = h

keeping_value_plain : (x : Name) (v : Value) (w : Verdict) → IsPlainVerdict w → IsPlainVerdict (keeping_value x v w)
keeping_value_plain x v (satisfied found) h = tt
keeping_value_plain x v unsatisfied h = tt
keeping_value_plain x v (faulty c) h = h

answered_plain : (x : Name) (o : Outcome (List KeyedRow)) (next : KeyedRow → Verdict) → Plain o → ((r : KeyedRow) → IsPlainVerdict (next r)) → IsPlainVerdict (if_answered x o next)
answered_plain x (Err c) next plain k = plain.fact c refl
answered_plain x (Ok []) next plain k = tt
answered_plain x (Ok (r ∷ rs)) next plain k = keeping_plain x (r ∷ rs) (next r) (k r)

unanswered_plain : (o : Outcome (List KeyedRow)) (next : Verdict) → Plain o → IsPlainVerdict next → IsPlainVerdict (if_unanswered o next)
unanswered_plain (Err c) next plain k = plain.fact c refl
unanswered_plain (Ok []) next plain k = k
unanswered_plain (Ok (r ∷ rs)) next plain k = tt

valued_plain : (x : Name) (o : Outcome (Option Value)) (next : Value → Verdict) → Plain o → ((v : Value) → IsPlainVerdict (next v)) → IsPlainVerdict (if_valued x o next)
valued_plain x (Err c) next plain k = plain.fact c refl
valued_plain x (Ok None) next plain k = tt
valued_plain x (Ok (Some v)) next plain k = keeping_value_plain x v (next v) (k v)

pub verdict_plain : (objects : Objects) (env : Environment) (es : List Entry) → IsPlainVerdict (verdict objects env es)
verdict_plain objects env [] = tt
verdict_plain objects env (query_entry q ∷ es) =
    answered_plain q.name (answer env q.name q.class q.predicate objects) (λ first. verdict objects (bound q.name first env) es)
    (answer_plain env q.name q.class q.predicate objects) (λ first. verdict_plain objects (bound q.name first env) es)
verdict_plain objects env (no_entry q ∷ es) =
    unanswered_plain (answer env q.name q.class q.predicate objects) (verdict objects env es) (answer_plain env q.name q.class q.predicate objects) (verdict_plain objects env es)
verdict_plain objects env (let_entry x a ∷ es) =
    valued_plain x (aggregated objects env a) (λ v. verdict objects (holding x v env) es) (aggregated_plain objects env a) (λ v. verdict_plain objects (holding x v env) es)
