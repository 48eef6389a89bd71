-- Nothing is found exactly where the judgement holds.
use Rattle.std.proofs.Common.{◌≡◌, refl, sym, ap, ap₂, ◌∙◌, ℕ, suc, Bool, true, false, ◌&&◌, List, [], ◌∷◌, ◌++◌, map, Option, Some, None, Result, Ok, Err}
use Rattle.std.specs.Prelude.{⊤, ◌||◌, bytes_eq, slice_get, is_some, option_map, unwrap_or, if◌then◌else◌}
use Rattle.std.specs.Bool.{then_some}
use Rattle.std.specs.Map.{lookup}
use Rattle.hp_model.specs.Values.{Name, Kind, integer_kind, boolean_kind, text_kind, is_kind, Field, ◌>>=◌}
use Rattle.hp_model.specs.Events.{Pattern, on_create, on_update, on_delete, on_signal, at_moment, every_moment}
use Rattle.hp_model.specs.Expressions.{Comparison, equal, unequal, less, at_most, greater, at_least, Expression, constant, arithmetic, negated, inverted, both, either, compared}
use Rattle.hp_model.specs.Expressions.{field_of, key_of, new_field, old_field, key_in, argument, time_of, occurrence_count, value_named, time_now}
use Rattle.hp_model.specs.Rules.{Query, Aggregate, count_over, sum_over, least_over, greatest_over, next_key, single, Entry, query_entry, no_entry, let_entry}
use Rattle.hp_model.specs.Rules.{Assignment, Statement, create, update, delete, signal, emit, when, each, for_answer, with_object, subtransaction, let_value, abort, veto}
use Rattle.hp_model.specs.Rules.{veto_with, on_rule, fire, Body, empty, ◌then◌, Rule, Library, class_at}
use Rattle.hp_model.specs.Firing.{kind_in}
use Rattle.hp_model.specs.Cascade.{Unit, transaction, moment}
use Rattle.hp_model.specs.Refusals.{Path, under_root, item_at}
use Rattle.hp_model.specs.Kinds as K
use Rattle.hp_model.specs.Kinds.{Sort, only, any, Declared, signature_of, is_fired, Columns, columns_by, Scope, with_name, with_sort, no_scope, is_only, meets, meet, only_if}
use Rattle.hp_model.specs.Kinds.{common, all_assigned, assignments_kinded, arguments_kinded, statement_kinded, body_kinded, aggregate_sort, if_sorted, entries_kinded, with_entries}
use Rattle.hp_model.specs.Kinds.{query_classes, rules_kinded, library_kinded, unit_kinded, is_given, gives_sort, sort_of}
use Rattle.hp_analysis.specs.Findings as F
use Rattle.hp_analysis.specs.Findings.{Wanted, Reason, Reasoned, Judged, found, finds_nothing, refused, placed, reasoned, suits, demanded, operand_sort, operands_sort, alike_check}
use Rattle.hp_analysis.specs.Findings.{ordered_check, comparable_check, comparison_sort, Reading, read_new, read_old, read_key, read_argument, read_time, argument_sort, read_sort}
use Rattle.hp_analysis.specs.Findings.{sort_with, sort_among, sort_at, row_field_sort, row_key_sort, count_sort, expression_check, kind_check, assignment_check}
use Rattle.hp_analysis.specs.Findings.{assignments_findings, update_findings, all_set, create_findings, none_missing, next_demand, later_demands, argument_check}
use Rattle.hp_analysis.specs.Findings.{arguments_findings, emission_check, query_known, single_check, own_findings, inner_findings, statement_findings, body_findings, value_sort}
use Rattle.hp_analysis.specs.Findings.{count_check, sum_check, is_ordered, extreme_check, aggregate_check, value_check, first_scope, test_findings, query_findings, entries_findings}
use Rattle.hp_analysis.specs.Findings.{rule_findings, rules_findings, library_findings, unit_findings, unset_field, no_such_field, no_such_argument, unknown_name, not_fired}

-- ---- results

abbrev pub value_in : {A E : Type 0} → Result A E → Option A
value_in (Ok x) = Some x
value_in (Err e) = None

abbrev pub passes : {A E : Type 0} → Result A E → Bool
passes (Ok x) = true
passes (Err e) = false

-- nothing is found where a check passes
pub found_nothing : {A : Type 0} (r : Judged A) → finds_nothing (found r) ≡ passes r
found_nothing (Ok x) = refl
found_nothing (Err f) = refl

pub both_nothing : {A : Type 0} (xs ys : List A) → finds_nothing (xs ++ ys) ≡ (finds_nothing xs && finds_nothing ys)
both_nothing [] ys = refl
both_nothing (x ∷ xs) ys = refl

both_find : {A : Type 0} (xs ys : List A) (x y : Bool) → finds_nothing xs ≡ x → finds_nothing ys ≡ y → finds_nothing (xs ++ ys) ≡ (x && y)
both_find xs ys x y e f = both_nothing xs ys ∙ ap₂ (λ u v. u && v) e f

one_finds : {A : Type 0} (r : Judged A) (x : Bool) → passes r ≡ x → finds_nothing (found r) ≡ x
one_finds r x e = found_nothing r ∙ e

abbrev pub chosen : Bool → Path → Reason → Judged ⊤
chosen b path reason = if b then Ok tt else refused path reason

choice : (b : Bool) (path : Path) (reason : Reason) → passes (chosen b path reason) ≡ b
choice true path reason = refl
choice false path reason = refl

-- ---- sorts

each_kind : (P : Kind → Type 0) → P integer_kind → P boolean_kind → P text_kind → (k : Kind) → P k
each_kind P i b t integer_kind = i
each_kind P i b t boolean_kind = b
each_kind P i b t text_kind = t

meets_only : (k l m : Kind) → meets (meets (only k) (only l)) (only m) ≡ meets (only k) (meets (only l) (only m))
meets_only k l m =
    let P : Kind → Kind → Kind → Type 0 = λ k l m. meets (meets (only k) (only l)) (only m) ≡ meets (only k) (meets (only l) (only m)) in
    each_kind (λ k. P k l m)
    (each_kind (λ l. P integer_kind l m) (each_kind (P integer_kind integer_kind) refl refl refl m) (each_kind (P integer_kind boolean_kind) refl refl refl m)
    (each_kind (P integer_kind text_kind) refl refl refl m) l)
    (each_kind (λ l. P boolean_kind l m) (each_kind (P boolean_kind integer_kind) refl refl refl m) (each_kind (P boolean_kind boolean_kind) refl refl refl m)
    (each_kind (P boolean_kind text_kind) refl refl refl m) l)
    (each_kind (λ l. P text_kind l m) (each_kind (P text_kind integer_kind) refl refl refl m) (each_kind (P text_kind boolean_kind) refl refl refl m)
    (each_kind (P text_kind text_kind) refl refl refl m) l)
    k

only_if_any : (b : Bool) (k : Kind) → meets (only_if b k) any ≡ any
only_if_any true k = refl
only_if_any false k = refl

meets_assoc : (s t u : Sort) → meets (meets s t) u ≡ meets s (meets t u)
meets_assoc any t u = refl
meets_assoc (only k) any u = refl
meets_assoc (only k) (only l) any = only_if_any (is_kind k l) k
meets_assoc (only k) (only l) (only m) = meets_only k l m

meet_assoc : (s t : Sort) (o : Option Sort) → meet (Some (meets s t)) o ≡ meet (Some s) (meet (Some t) o)
meet_assoc s t None = refl
meet_assoc s t (Some u) = ap Some (meets_assoc s t u)

-- an operand, and an operator that gives the same kind
operand_given : (k : Kind) (path : Path) (r : Judged Sort) → value_in (operand_sort k path r) ≡ then_some (is_only k (value_in r)) (only k)
unfolding operand_sort
operand_given k path (Err e) = refl
operand_given k path (Ok s) = by (is_only k (Some s))
  where
    by : (b : Bool) → value_in (chosen b path (F.unsuited (F.of_kind k) s) >>= λ _. Ok (only k)) ≡ then_some b (only k)
    by true = refl
    by false = refl

is_given_only : (k : Kind) → is_only k (Some (only k)) ≡ true
is_given_only integer_kind = refl
is_given_only boolean_kind = refl
is_given_only text_kind = refl

after_given : (b : Bool) (k : Kind) (a c : Judged Sort) (x : Bool) → value_in a ≡ then_some b (only k) → value_in c ≡ then_some x (only k) → value_in (a >>= λ _. c) ≡ then_some (b && x) (only k)
after_given true k (Ok s) c x e f = f
after_given false k (Err r) c x e f = refl
after_given true k (Err r) c x e f = cc
after_given false k (Ok s) c x e f = cc

operands_given : (k : Kind) (path : Path) (a b : Judged Sort) → value_in (operands_sort k path a b) ≡ then_some (is_only k (value_in a) && is_only k (value_in b)) (only k)
unfolding operands_sort
operands_given k path a b =
    after_given (is_only k (value_in a)) k (operand_sort k (item_at path 1) a) (operand_sort k (item_at path 2) b) (is_only k (value_in b))
    (operand_given k (item_at path 1) a) (operand_given k (item_at path 2) b)

suits_given : (k l : Kind) (path : Path) (s : Sort) → value_in (suits k path s >>= λ _. Ok (only l)) ≡ then_some (is_only k (Some s)) (only l)
suits_given k l path s = by (is_only k (Some s))
  where
    by : (b : Bool) → value_in (chosen b path (F.unsuited (F.of_kind k) s) >>= λ _. Ok (only l)) ≡ then_some b (only l)
    by true = refl
    by false = refl

or_false : (b : Bool) → (b || false) ≡ b
or_false true = refl
or_false false = refl

alike_given : (path : Path) (s t : Sort) → value_in (alike_check path s t >>= λ _. Ok (only boolean_kind)) ≡ then_some (K.are_alike (Some s) (Some t)) (only boolean_kind)
alike_given path any t = refl
alike_given path (only k) t = suits_given k boolean_kind (item_at path 2) t

ordered_given : (path : Path) (s t : Sort) → value_in (ordered_check path s t >>= λ _. Ok (only boolean_kind)) ≡ then_some (K.are_ordered (Some s) (Some t)) (only boolean_kind)
ordered_given path any t = refl
ordered_given path (only integer_kind) t = suits_given integer_kind boolean_kind (item_at path 2) t ∙ ap (λ b. then_some b (only boolean_kind)) (sym (or_false (is_only integer_kind (Some t))))
ordered_given path (only boolean_kind) t = refl
ordered_given path (only text_kind) t = suits_given text_kind boolean_kind (item_at path 2) t

ordered_none : (o : Option Sort) → K.are_ordered o None ≡ false
ordered_none None = refl
ordered_none (Some any) = refl
ordered_none (Some (only integer_kind)) = refl
ordered_none (Some (only boolean_kind)) = refl
ordered_none (Some (only text_kind)) = refl

alike_none : (o : Option Sort) → K.are_alike o None ≡ false
alike_none None = refl
alike_none (Some any) = refl
alike_none (Some (only k)) = refl

comparison_given : (op : Comparison) (path : Path) (a b : Judged Sort) → value_in (comparison_sort op path a b) ≡ then_some (K.are_comparable op (value_in a) (value_in b)) (only boolean_kind)
unfolding comparison_sort
comparison_given equal path (Err e) b = refl
comparison_given unequal path (Err e) b = refl
comparison_given less path (Err e) b = refl
comparison_given at_most path (Err e) b = refl
comparison_given greater path (Err e) b = refl
comparison_given at_least path (Err e) b = refl
comparison_given equal path (Ok s) (Err e) = ap (λ b. then_some b (only boolean_kind)) (sym (alike_none (Some s)))
comparison_given unequal path (Ok s) (Err e) = ap (λ b. then_some b (only boolean_kind)) (sym (alike_none (Some s)))
comparison_given less path (Ok s) (Err e) = ap (λ b. then_some b (only boolean_kind)) (sym (ordered_none (Some s)))
comparison_given at_most path (Ok s) (Err e) = ap (λ b. then_some b (only boolean_kind)) (sym (ordered_none (Some s)))
comparison_given greater path (Ok s) (Err e) = ap (λ b. then_some b (only boolean_kind)) (sym (ordered_none (Some s)))
comparison_given at_least path (Ok s) (Err e) = ap (λ b. then_some b (only boolean_kind)) (sym (ordered_none (Some s)))
comparison_given equal path (Ok s) (Ok t) = alike_given path s t
comparison_given unequal path (Ok s) (Ok t) = alike_given path s t
comparison_given less path (Ok s) (Ok t) = ordered_given path s t
comparison_given at_most path (Ok s) (Ok t) = ordered_given path s t
comparison_given greater path (Ok s) (Ok t) = ordered_given path s t
comparison_given at_least path (Ok s) (Ok t) = ordered_given path s t

-- ---- parts

placed_given : {A : Type 0} (path : Path) (r : Reasoned A) → value_in (placed path r) ≡ value_in r
placed_given path (Ok x) = refl
placed_given path (Err e) = refl

reasoned_given : {A : Type 0} (why : Reason) (o : Option A) → value_in (reasoned why o) ≡ o
reasoned_given why None = refl
reasoned_given why (Some x) = refl

field_given : (library : Library) (class : ℕ) (f : Name) → value_in (F.field_sort library class f) ≡ K.field_sort library class f
field_given library class f = by (kind_in (class_at library class).fields f)
  where
    by : (o : Option Kind) → value_in (reasoned no_such_field o >>= λ k. Ok (only k)) ≡ option_map only o
    by None = refl
    by (Some k) = refl

-- the test of the judgement for a reading
abbrev pub test_of : Library → Declared → Reading → Pattern → Option Sort
test_of library d (read_new f) = K.new_sort library f
test_of library d (read_old f) = K.old_sort library f
test_of library d read_key = K.key_sort
test_of library d (read_argument j) = K.argument_sort d j
test_of library d read_time = K.moment_sort

read_given : (library : Library) (d : Declared) (reading : Reading) (p : Pattern) → value_in (read_sort library d reading p) ≡ test_of library d reading p
read_given library d (read_new f) (on_create c) = field_given library c f
read_given library d (read_new f) (on_update c) = field_given library c f
read_given library d (read_new f) p = refl
read_given library d (read_old f) (on_update c) = field_given library c f
read_given library d (read_old f) (on_delete c) = field_given library c f
read_given library d (read_old f) p = refl
read_given library d read_key (on_create c) = refl
read_given library d read_key (on_update c) = refl
read_given library d read_key (on_delete c) = refl
read_given library d read_key p = refl
read_given library d (read_argument j) (on_signal s) = reasoned_given no_such_argument (slice_get (signature_of d s) j)
read_given library d (read_argument j) p = refl
read_given library d read_time (at_moment t) = refl
read_given library d read_time (every_moment first period) = refl
read_given library d read_time p = refl

module _ (read : Pattern → Reasoned Sort) (test : Pattern → Option Sort) (same : (p : Pattern) → value_in (read p) ≡ test p) where
  among_with : (s : Sort) (p : Pattern) (ps : List Pattern) → value_in (sort_with read s (p ∷ ps)) ≡ meet (Some s) (common test (p ∷ ps))
  among_with s p [] = by (read p) (test p) (same p)
    where
      by : (r : Reasoned Sort) (o : Option Sort) → value_in r ≡ o → value_in (r >>= λ t. Ok (meets s t)) ≡ meet (Some s) o
      by (Ok t) o e = ap (meet (Some s)) e
      by (Err r) o e = ap (meet (Some s)) e
  among_with s p (q ∷ ps) = by (λ t. among_with (meets s t) q ps) (read p) (test p) (same p)
    where
      by : ((t : Sort) → value_in (sort_with read (meets s t) (q ∷ ps)) ≡ meet (Some (meets s t)) (common test (q ∷ ps))) → (r : Reasoned Sort) (o : Option Sort)
          → value_in r ≡ o → value_in (r >>= λ t. sort_with read (meets s t) (q ∷ ps)) ≡ meet (Some s) (meet o (common test (q ∷ ps)))
      by later (Ok t) o e = later t ∙ meet_assoc s t (common test (q ∷ ps)) ∙ ap (λ u. meet (Some s) (meet u (common test (q ∷ ps)))) e
      by later (Err r) o e = ap (λ u. meet (Some s) (meet u (common test (q ∷ ps)))) e

  among_given : (ps : List Pattern) → value_in (sort_among read ps) ≡ common test ps
  among_given [] = refl
  among_given (p ∷ []) = by (read p) (test p) (same p)
    where
      by : (r : Reasoned Sort) (o : Option Sort) → value_in r ≡ o → value_in (r >>= λ s. Ok s) ≡ o
      by (Ok t) o e = e
      by (Err r) o e = e
  among_given (p ∷ q ∷ ps) = by (read p) (test p) (same p)
    where
      by : (r : Reasoned Sort) (o : Option Sort) → value_in r ≡ o → value_in (r >>= λ s. sort_with read s (q ∷ ps)) ≡ meet o (common test (q ∷ ps))
      by (Ok s) o e = among_with s q ps ∙ ap (λ u. meet u (common test (q ∷ ps))) e
      by (Err r) o e = ap (λ u. meet u (common test (q ∷ ps))) e

  at_given : (o : Option (List Pattern)) → value_in (sort_at read o) ≡ K.common_at test o
  at_given None = refl
  at_given (Some ps) = among_given ps

part_given : (library : Library) (d : Declared) (o : Option Columns) (i : ℕ) (reading : Reading) → value_in (F.part_sort library d o i reading) ≡ K.part_sort o i (test_of library d reading)
part_given library d None i reading = refl
part_given library d (Some c) i reading = at_given (read_sort library d reading) (test_of library d reading) (read_given library d reading) (slice_get c.places i)

-- ---- expressions

row_field_given : (library : Library) (scope : Scope) (x f : Name) → value_in (row_field_sort library scope x f) ≡ K.named_sort library (lookup (bytes_eq x) scope.rows) f
unfolding row_field_sort
row_field_given library scope x f = by (lookup (bytes_eq x) scope.rows)
  where
    by : (o : Option ℕ) → value_in (reasoned unknown_name o >>= λ class. F.field_sort library class f) ≡ K.named_sort library o f
    by None = refl
    by (Some class) = field_given library class f

row_key_given : (scope : Scope) (x : Name) → value_in (row_key_sort scope x) ≡ then_some (is_some (lookup (bytes_eq x) scope.rows)) (only integer_kind)
unfolding row_key_sort
row_key_given scope x = by (lookup (bytes_eq x) scope.rows)
  where
    by : (o : Option ℕ) → value_in (reasoned unknown_name o >>= λ _. Ok (only integer_kind)) ≡ then_some (is_some o) (only integer_kind)
    by None = refl
    by (Some class) = refl

count_given : (scope : Scope) → value_in (count_sort scope) ≡ then_some (is_some scope.columns) (only integer_kind)
count_given scope = by (is_some scope.columns)
  where
    by : (b : Bool) → value_in (if b then Ok (only integer_kind) else Err F.no_occurrence) ≡ then_some b (only integer_kind)
    by true = refl
    by false = refl

pub sort_given : (library : Library) (d : Declared) (scope : Scope) (path : Path) (e : Expression) → value_in (expression_check library d scope path e) ≡ sort_of library d scope e
sort_given library d scope path (constant v) = refl
sort_given library d scope path (arithmetic op a b) =
    operands_given integer_kind path (expression_check library d scope (item_at path 1) a) (expression_check library d scope (item_at path 2) b)
    ∙ ap₂ (λ x y. then_some (is_only integer_kind x && is_only integer_kind y) (only integer_kind)) (sort_given library d scope (item_at path 1) a) (sort_given library d scope (item_at path 2) b)
sort_given library d scope path (negated a) =
    operand_given integer_kind (item_at path 1) (expression_check library d scope (item_at path 1) a)
    ∙ ap (λ x. then_some (is_only integer_kind x) (only integer_kind)) (sort_given library d scope (item_at path 1) a)
sort_given library d scope path (inverted a) =
    operand_given boolean_kind (item_at path 1) (expression_check library d scope (item_at path 1) a)
    ∙ ap (λ x. then_some (is_only boolean_kind x) (only boolean_kind)) (sort_given library d scope (item_at path 1) a)
sort_given library d scope path (both a b) =
    operands_given boolean_kind path (expression_check library d scope (item_at path 1) a) (expression_check library d scope (item_at path 2) b)
    ∙ ap₂ (λ x y. then_some (is_only boolean_kind x && is_only boolean_kind y) (only boolean_kind)) (sort_given library d scope (item_at path 1) a) (sort_given library d scope (item_at path 2) b)
sort_given library d scope path (either a b) =
    operands_given boolean_kind path (expression_check library d scope (item_at path 1) a) (expression_check library d scope (item_at path 2) b)
    ∙ ap₂ (λ x y. then_some (is_only boolean_kind x && is_only boolean_kind y) (only boolean_kind)) (sort_given library d scope (item_at path 1) a) (sort_given library d scope (item_at path 2) b)
sort_given library d scope path (compared op a b) =
    comparison_given op path (expression_check library d scope (item_at path 1) a) (expression_check library d scope (item_at path 2) b)
    ∙ ap₂ (λ x y. then_some (K.are_comparable op x y) (only boolean_kind)) (sort_given library d scope (item_at path 1) a) (sort_given library d scope (item_at path 2) b)
sort_given library d scope path (field_of x f) = placed_given path (row_field_sort library scope x f) ∙ row_field_given library scope x f
sort_given library d scope path (key_of x) = placed_given path (row_key_sort scope x) ∙ row_key_given scope x
sort_given library d scope path (new_field i f) = placed_given path (F.part_sort library d scope.columns i (read_new f)) ∙ part_given library d scope.columns i (read_new f)
sort_given library d scope path (old_field i f) = placed_given path (F.part_sort library d scope.columns i (read_old f)) ∙ part_given library d scope.columns i (read_old f)
sort_given library d scope path (key_in i) = placed_given path (F.part_sort library d scope.columns i read_key) ∙ part_given library d scope.columns i read_key
sort_given library d scope path (argument i j) = placed_given path (F.part_sort library d scope.columns i (read_argument j)) ∙ part_given library d scope.columns i (read_argument j)
sort_given library d scope path (time_of i) = placed_given path (F.part_sort library d scope.columns i read_time) ∙ part_given library d scope.columns i read_time
sort_given library d scope path occurrence_count = placed_given path (count_sort scope) ∙ count_given scope
sort_given library d scope path (value_named x) = placed_given path (value_sort scope x) ∙ reasoned_given unknown_name (lookup (bytes_eq x) scope.values)
sort_given library d scope path time_now = refl

kind_judged : (library : Library) (d : Declared) (scope : Scope) (k : Kind) (path : Path) (e : Expression) → passes (kind_check library d scope k path e) ≡ is_only k (sort_of library d scope e)
unfolding kind_check
kind_judged library d scope k path e = by (expression_check library d scope path e) ∙ ap (is_only k) (sort_given library d scope path e)
  where
    by : (r : Judged Sort) → passes (r >>= suits k path) ≡ is_only k (value_in r)
    by (Ok s) = choice (is_only k (Some s)) path (F.unsuited (F.of_kind k) s)
    by (Err e) = refl

-- ---- aggregates

-- what a passed test lets give
after_pass : {A : Type 0} (r : Judged ⊤) (b : Bool) (later : Judged A) (c : Bool) (x : A) → passes r ≡ b → value_in later ≡ then_some c x → value_in (r >>= λ _. later) ≡ then_some (b && c) x
after_pass (Ok u) true later c x e is = is
after_pass (Err f) false later c x e is = refl
after_pass (Ok u) false later c x e is = cc
after_pass (Err f) true later c x e is = cc

and_true : (b : Bool) → (b && true) ≡ b
and_true true = refl
and_true false = refl

test_given : {A : Type 0} (r : Judged ⊤) (b : Bool) (x : A) → passes r ≡ b → value_in (r >>= λ _. Ok x) ≡ then_some b x
test_given r b x e = after_pass r b (Ok x) true x e refl ∙ ap (λ c. then_some c x) (and_true b)

module _ (library : Library) (d : Declared) (scope : Scope) (path : Path) (x : Name) (class : ℕ) (predicate : Expression) where
  abbrev inside : Scope
  inside = with_name x class scope

  abbrev tests : Bool
  tests = K.is_test library d scope x class predicate

  predicate_judged : passes (kind_check library d inside boolean_kind (item_at path 3) predicate) ≡ tests
  predicate_judged = kind_judged library d inside boolean_kind (item_at path 3) predicate

  count_of_given : value_in (count_check library d scope path x class predicate) ≡ then_some tests (only integer_kind)
  unfolding count_check
  count_of_given = test_given (kind_check library d inside boolean_kind (item_at path 3) predicate) tests (only integer_kind) predicate_judged

  sum_given : (term : Expression) → value_in (sum_check library d scope path x class predicate term) ≡ then_some (tests && is_only integer_kind (sort_of library d inside term)) (only integer_kind)
  unfolding sum_check
  sum_given term =
      let terms = kind_check library d inside integer_kind (item_at path 4) term in
      let are_integers = is_only integer_kind (sort_of library d inside term) in
      after_pass (kind_check library d inside boolean_kind (item_at path 3) predicate) tests (terms >>= λ _. Ok (only integer_kind)) are_integers (only integer_kind) predicate_judged
      (test_given terms are_integers (only integer_kind) (kind_judged library d inside integer_kind (item_at path 4) term))

  ordered_term : (r : Judged Sort) → value_in (r >>= λ s. is_ordered (item_at path 4) s >>= λ _. Ok s) ≡ K.ordered (value_in r)
  ordered_term (Err f) = refl
  ordered_term (Ok s) = test_given (is_ordered (item_at path 4) s) (K.are_ordered (Some s) (Some s)) s (choice (K.are_ordered (Some s) (Some s)) (item_at path 4) (F.unsuited F.of_ordered_kind s))

  extreme_given : (term : Expression) → value_in (extreme_check library d scope path x class predicate term) ≡ (if tests then K.ordered (sort_of library d inside term) else None)
  unfolding extreme_check
  extreme_given term =
      by (kind_check library d inside boolean_kind (item_at path 3) predicate) tests predicate_judged
      (expression_check library d inside (item_at path 4) term >>= λ s. is_ordered (item_at path 4) s >>= λ _. Ok s) (K.ordered (sort_of library d inside term))
      (ordered_term (expression_check library d inside (item_at path 4) term) ∙ ap K.ordered (sort_given library d inside (item_at path 4) term))
    where
      by : (r : Judged ⊤) (b : Bool) → passes r ≡ b → (later : Judged Sort) (o : Option Sort) → value_in later ≡ o → value_in (r >>= λ _. later) ≡ (if b then o else None)
      by (Ok u) true e later o is = is
      by (Err f) false e later o is = refl
      by (Ok u) false e later o is = cc
      by (Err f) true e later o is = cc

pub aggregate_given : (library : Library) (d : Declared) (scope : Scope) (path : Path) (a : Aggregate) → value_in (aggregate_check library d scope path a) ≡ aggregate_sort library d scope a
aggregate_given library d scope path (count_over x class predicate) = count_of_given library d scope path x class predicate
aggregate_given library d scope path (sum_over x class predicate term) = sum_given library d scope path x class predicate term
aggregate_given library d scope path (least_over x class predicate term) = extreme_given library d scope path x class predicate term
aggregate_given library d scope path (greatest_over x class predicate term) = extreme_given library d scope path x class predicate term
aggregate_given library d scope path (next_key class) = refl
aggregate_given library d scope path (single e) = sort_given library d scope path e

-- ---- statements

assignment_judged : (library : Library) (d : Declared) (scope : Scope) (fields : List Field) (path : Path) (a : Assignment)
    → passes (assignment_check library d scope fields path a) ≡ is_given (kind_in fields a.field) (sort_of library d scope a.value)
unfolding assignment_check
assignment_judged library d scope fields path a = by (λ k. kind_judged library d scope k (item_at path 1) a.value) (kind_in fields a.field)
  where
    by : ((k : Kind) → passes (kind_check library d scope k (item_at path 1) a.value) ≡ is_only k (sort_of library d scope a.value)) → (o : Option Kind)
        → passes (placed (item_at path 0) (reasoned no_such_field o) >>= λ k. kind_check library d scope k (item_at path 1) a.value) ≡ is_given o (sort_of library d scope a.value)
    by judged None = refl
    by judged (Some k) = judged k

pairs_judged : (library : Library) (d : Declared) (scope : Scope) (fields : List Field) (path : Path) (i : ℕ) (pairs : List Assignment)
    → finds_nothing (assignments_findings library d scope fields path i pairs) ≡ assignments_kinded library d scope fields pairs
pairs_judged library d scope fields path i [] = refl
pairs_judged library d scope fields path i (a ∷ pairs) =
    both_find (found (assignment_check library d scope fields (item_at path i) a)) (assignments_findings library d scope fields path (suc i) pairs)
    (is_given (kind_in fields a.field) (sort_of library d scope a.value)) (assignments_kinded library d scope fields pairs)
    (one_finds (assignment_check library d scope fields (item_at path i) a) (is_given (kind_in fields a.field) (sort_of library d scope a.value))
    (assignment_judged library d scope fields (item_at path i) a))
    (pairs_judged library d scope fields path (suc i) pairs)

kind_finds : (library : Library) (d : Declared) (scope : Scope) (k : Kind) (path : Path) (e : Expression)
    → finds_nothing (found (kind_check library d scope k path e)) ≡ is_only k (sort_of library d scope e)
kind_finds library d scope k path e = one_finds (kind_check library d scope k path e) (is_only k (sort_of library d scope e)) (kind_judged library d scope k path e)

is_boolean : (b : Bool) → b ≡ is_only boolean_kind (then_some b (only boolean_kind))
is_boolean true = refl
is_boolean false = refl

operands_find : (library : Library) (d : Declared) (scope : Scope) (path : Path) (a b : Expression)
    → finds_nothing (test_findings library d scope (item_at path 1) a) ≡ is_only boolean_kind (sort_of library d scope a)
    → finds_nothing (test_findings library d scope (item_at path 2) b) ≡ is_only boolean_kind (sort_of library d scope b)
    → finds_nothing (test_findings library d scope (item_at path 1) a ++ test_findings library d scope (item_at path 2) b) ≡ is_only boolean_kind (sort_of library d scope (both a b))
operands_find library d scope path a b first second =
    both_find (test_findings library d scope (item_at path 1) a) (test_findings library d scope (item_at path 2) b)
    (is_only boolean_kind (sort_of library d scope a)) (is_only boolean_kind (sort_of library d scope b)) first second
    ∙ is_boolean (is_only boolean_kind (sort_of library d scope a) && is_only boolean_kind (sort_of library d scope b))

-- the operands of a test
test_finds : (library : Library) (d : Declared) (scope : Scope) (path : Path) (e : Expression)
    → finds_nothing (test_findings library d scope path e) ≡ is_only boolean_kind (sort_of library d scope e)
test_finds library d scope path (both a b) = operands_find library d scope path a b (test_finds library d scope (item_at path 1) a) (test_finds library d scope (item_at path 2) b)
test_finds library d scope path (either a b) = operands_find library d scope path a b (test_finds library d scope (item_at path 1) a) (test_finds library d scope (item_at path 2) b)
test_finds library d scope path e = kind_finds library d scope boolean_kind path e

update_judged : (library : Library) (d : Declared) (scope : Scope) (path : Path) (class : ℕ) (key : Expression) (pairs : List Assignment)
    → finds_nothing (update_findings library d scope path class key pairs) ≡ (is_only integer_kind (sort_of library d scope key)
    && assignments_kinded library d scope (class_at library class).fields pairs)
update_judged library d scope path class key pairs =
    both_find (found (kind_check library d scope integer_kind (item_at path 2) key)) (assignments_findings library d scope (class_at library class).fields (item_at path 3) 0 pairs)
    (is_only integer_kind (sort_of library d scope key)) (assignments_kinded library d scope (class_at library class).fields pairs)
    (kind_finds library d scope integer_kind (item_at path 2) key) (pairs_judged library d scope (class_at library class).fields (item_at path 3) 0 pairs)

and_assoc : (a b c : Bool) → ((a && b) && c) ≡ (a && (b && c))
and_assoc true b c = refl
and_assoc false b c = refl

create_judged : (library : Library) (d : Declared) (scope : Scope) (path : Path) (class : ℕ) (key : Expression) (pairs : List Assignment)
    → finds_nothing (create_findings library d scope path class key pairs)
    ≡ (is_only integer_kind (sort_of library d scope key) && (assignments_kinded library d scope (class_at library class).fields pairs && all_assigned (class_at library class).fields pairs))
create_judged library d scope path class key pairs =
    let fields = (class_at library class).fields in
    both_find (update_findings library d scope path class key pairs) (found (all_set (item_at path 3) fields pairs))
    (is_only integer_kind (sort_of library d scope key) && assignments_kinded library d scope fields pairs) (all_assigned fields pairs)
    (update_judged library d scope path class key pairs) (one_finds (all_set (item_at path 3) fields pairs) (all_assigned fields pairs)
    (choice (all_assigned fields pairs) (item_at path 3) unset_field))
    ∙ and_assoc (is_only integer_kind (sort_of library d scope key)) (assignments_kinded library d scope fields pairs) (all_assigned fields pairs)

-- what is demanded of the next argument
abbrev meets_demand : Option Sort → Option Sort → Bool
meets_demand None o = is_some o
meets_demand (Some s) o = gives_sort s o

argument_judged : (library : Library) (d : Declared) (scope : Scope) (demand : Option Sort) (path : Path) (e : Expression)
    → passes (argument_check library d scope demand path e) ≡ meets_demand demand (sort_of library d scope e)
unfolding argument_check
argument_judged library d scope demand path e = by demand (expression_check library d scope path e) ∙ ap (meets_demand demand) (sort_given library d scope path e)
  where
    by : (o : Option Sort) (r : Judged Sort) → passes (r >>= demanded o path) ≡ meets_demand o (value_in r)
    by None (Ok s) = refl
    by None (Err f) = refl
    by (Some any) (Ok s) = refl
    by (Some any) (Err f) = refl
    by (Some (only k)) (Ok s) = choice (is_only k (Some s)) path (F.unsuited (F.of_kind k) s)
    by (Some (only k)) (Err f) = refl

arguments_step : (library : Library) (d : Declared) (scope : Scope) (ss : List Sort) (e : Expression) (es : List Expression)
    → (meets_demand (next_demand ss) (sort_of library d scope e) && arguments_kinded library d scope (later_demands ss) es) ≡ arguments_kinded library d scope ss (e ∷ es)
arguments_step library d scope [] e es = refl
arguments_step library d scope (s ∷ ss) e es = refl

none_missing_judged : (library : Library) (d : Declared) (scope : Scope) (path : Path) (ss : List Sort) → passes (none_missing path ss) ≡ arguments_kinded library d scope ss []
none_missing_judged library d scope path [] = refl
none_missing_judged library d scope path (s ∷ ss) = refl

arguments_judged : (library : Library) (d : Declared) (scope : Scope) (path : Path) (i : ℕ) (ss : List Sort) (es : List Expression)
    → finds_nothing (arguments_findings library d scope path i ss es) ≡ arguments_kinded library d scope ss es
arguments_judged library d scope path i ss [] = one_finds (none_missing path ss) (arguments_kinded library d scope ss []) (none_missing_judged library d scope path ss)
arguments_judged library d scope path i ss (e ∷ es) =
    both_find (found (argument_check library d scope (next_demand ss) (item_at (item_at path 2) i) e)) (arguments_findings library d scope path (suc i) (later_demands ss) es)
    (meets_demand (next_demand ss) (sort_of library d scope e)) (arguments_kinded library d scope (later_demands ss) es)
    (one_finds (argument_check library d scope (next_demand ss) (item_at (item_at path 2) i) e) (meets_demand (next_demand ss) (sort_of library d scope e))
    (argument_judged library d scope (next_demand ss) (item_at (item_at path 2) i) e))
    (arguments_judged library d scope path (suc i) (later_demands ss) es)
    ∙ arguments_step library d scope ss e es

emission_judged : (library : Library) (d : Declared) (scope : Scope) (path : Path) (e : Expression) → passes (emission_check library d scope path e) ≡ is_some (sort_of library d scope e)
unfolding emission_check
emission_judged library d scope path e = by (expression_check library d scope (item_at path 1) e) ∙ ap is_some (sort_given library d scope (item_at path 1) e)
  where
    done : Judged ⊤
    done = Ok tt

    by : (r : Judged Sort) → passes (r >>= λ _. done) ≡ is_some (value_in r)
    by (Ok s) = refl
    by (Err f) = refl

value_judged : (library : Library) (d : Declared) (scope : Scope) (path : Path) (a : Aggregate) → passes (value_check library d scope path a) ≡ is_some (aggregate_sort library d scope a)
unfolding value_check
value_judged library d scope path a = by (aggregate_check library d scope path a) ∙ ap is_some (aggregate_given library d scope path a)
  where
    done : Judged ⊤
    done = Ok tt

    by : (r : Judged Sort) → passes (r >>= λ _. done) ≡ is_some (value_in r)
    by (Ok s) = refl
    by (Err f) = refl

-- a `let` is kinded if its aggregate has a sort, and its body is kinded in the scope of that
held_kinded : (o : Option Sort) (test : Sort → Bool) → (is_some o && test (unwrap_or o any)) ≡ if_sorted o test
held_kinded None test = refl
held_kinded (Some s) test = refl

query_judged : (path : Path) (o : Option ℕ) → passes (query_known path o) ≡ is_some o
query_judged path None = refl
query_judged path (Some class) = refl

-- a statement without statements in it
plain_judged : {A : Type 0} (xs : List A) (x : Bool) → finds_nothing xs ≡ x → finds_nothing (xs ++ []) ≡ x
plain_judged [] x e = e
plain_judged (y ∷ ys) x e = e

-- a statement's own findings, those of the statements in it, and those of the statements after it
rest_judged : {A : Type 0} (own inner rest : List A) (x y : Bool) → finds_nothing (own ++ inner) ≡ x → finds_nothing rest ≡ y → finds_nothing (own ++ (inner ++ rest)) ≡ (x && y)
rest_judged [] inner rest x y e f = both_find inner rest x y e f
rest_judged (z ∷ own) inner rest x y e f = ap (λ b. b && y) e

mutual
  pub statement_judged : (library : Library) (d : Declared) (scope : Scope) (queries : List (Name × ℕ)) (path : Path) (s : Statement)
      → finds_nothing (statement_findings library d scope queries path s) ≡ statement_kinded library d scope queries s
  statement_judged library d scope queries path (create class key pairs) =
      plain_judged (create_findings library d scope path class key pairs) (statement_kinded library d scope queries (create class key pairs)) (create_judged library d scope path class key pairs)
  statement_judged library d scope queries path (update class key pairs) =
      plain_judged (update_findings library d scope path class key pairs) (statement_kinded library d scope queries (update class key pairs)) (update_judged library d scope path class key pairs)
  statement_judged library d scope queries path (delete class key) =
      plain_judged (found (kind_check library d scope integer_kind (item_at path 2) key)) (statement_kinded library d scope queries (delete class key))
      (kind_finds library d scope integer_kind (item_at path 2) key)
  statement_judged library d scope queries path (signal name arguments) =
      plain_judged (arguments_findings library d scope path 0 (signature_of d name) arguments) (statement_kinded library d scope queries (signal name arguments))
      (arguments_judged library d scope path 0 (signature_of d name) arguments)
  statement_judged library d scope queries path (emit e) =
      plain_judged (found (emission_check library d scope path e)) (statement_kinded library d scope queries (emit e))
      (one_finds (emission_check library d scope path e) (is_some (sort_of library d scope e)) (emission_judged library d scope path e))
  statement_judged library d scope queries path (when e a b) =
      both_find (test_findings library d scope (item_at path 1) e)
      (body_findings library d scope queries (item_at path 2) 0 a ++ body_findings library d scope queries (item_at path 3) 0 b)
      (is_only boolean_kind (sort_of library d scope e)) (body_kinded library d scope queries a && body_kinded library d scope queries b)
      (test_finds library d scope (item_at path 1) e)
      (both_find (body_findings library d scope queries (item_at path 2) 0 a) (body_findings library d scope queries (item_at path 3) 0 b)
      (body_kinded library d scope queries a) (body_kinded library d scope queries b)
      (body_judged library d scope queries (item_at path 2) 0 a) (body_judged library d scope queries (item_at path 3) 0 b))
  statement_judged library d scope queries path (each x class predicate body) =
      both_find (test_findings library d (with_name x class scope) (item_at path 3) predicate) (body_findings library d (with_name x class scope) queries (item_at path 4) 0 body)
      (is_only boolean_kind (sort_of library d (with_name x class scope) predicate)) (body_kinded library d (with_name x class scope) queries body)
      (test_finds library d (with_name x class scope) (item_at path 3) predicate) (body_judged library d (with_name x class scope) queries (item_at path 4) 0 body)
  statement_judged library d scope queries path (for_answer x body) =
      let inner = with_name x (unwrap_or (lookup (bytes_eq x) queries) 0) scope in
      both_find (found (query_known (item_at path 1) (lookup (bytes_eq x) queries))) (body_findings library d inner queries (item_at path 2) 0 body)
      (is_some (lookup (bytes_eq x) queries)) (body_kinded library d inner queries body)
      (one_finds (query_known (item_at path 1) (lookup (bytes_eq x) queries)) (is_some (lookup (bytes_eq x) queries)) (query_judged (item_at path 1) (lookup (bytes_eq x) queries)))
      (body_judged library d inner queries (item_at path 2) 0 body)
  statement_judged library d scope queries path (with_object x class key body) =
      both_find (found (kind_check library d scope integer_kind (item_at path 3) key)) (body_findings library d (with_name x class scope) queries (item_at path 4) 0 body)
      (is_only integer_kind (sort_of library d scope key)) (body_kinded library d (with_name x class scope) queries body)
      (kind_finds library d scope integer_kind (item_at path 3) key) (body_judged library d (with_name x class scope) queries (item_at path 4) 0 body)
  statement_judged library d scope queries path (subtransaction a b) =
      both_find (body_findings library d scope queries (item_at path 1) 0 a) (body_findings library d scope queries (item_at path 2) 0 b)
      (body_kinded library d scope queries a) (body_kinded library d scope queries b)
      (body_judged library d scope queries (item_at path 1) 0 a) (body_judged library d scope queries (item_at path 2) 0 b)
  statement_judged library d scope queries path (let_value x a body) =
      let inner = with_sort x (unwrap_or (aggregate_sort library d scope a) any) scope in
      both_find (found (value_check library d scope (item_at path 2) a)) (body_findings library d inner queries (item_at path 3) 0 body)
      (is_some (aggregate_sort library d scope a)) (body_kinded library d inner queries body)
      (one_finds (value_check library d scope (item_at path 2) a) (is_some (aggregate_sort library d scope a)) (value_judged library d scope (item_at path 2) a))
      (body_judged library d inner queries (item_at path 3) 0 body)
      ∙ held_kinded (aggregate_sort library d scope a) (λ s. body_kinded library d (with_sort x s scope) queries body)
  statement_judged library d scope queries path (veto_with e) =
      plain_judged (found (emission_check library d scope path e)) (statement_kinded library d scope queries (veto_with e))
      (one_finds (emission_check library d scope path e) (is_some (sort_of library d scope e)) (emission_judged library d scope path e))
  statement_judged library d scope queries path abort = refl
  statement_judged library d scope queries path veto = refl
  statement_judged library d scope queries path (on_rule op n) = refl
  statement_judged library d scope queries path (fire n) =
      plain_judged (found (chosen (is_fired d n) path not_fired)) (is_fired d n) (one_finds (chosen (is_fired d n) path not_fired) (is_fired d n) (choice (is_fired d n) path not_fired))

  body_judged : (library : Library) (d : Declared) (scope : Scope) (queries : List (Name × ℕ)) (path : Path) (i : ℕ) (b : Body)
      → finds_nothing (body_findings library d scope queries path i b) ≡ body_kinded library d scope queries b
  body_judged library d scope queries path i empty = refl
  body_judged library d scope queries path i (s then rest) =
      rest_judged (own_findings library d scope queries (item_at path i) s) (inner_findings library d scope queries (item_at path i) s) (body_findings library d scope queries path (suc i) rest)
      (statement_kinded library d scope queries s) (body_kinded library d scope queries rest)
      (statement_judged library d scope queries (item_at path i) s) (body_judged library d scope queries path (suc i) rest)

-- ---- rules

module _ (library : Library) (d : Declared) where
  query_finds : (scope : Scope) (place : Path) (q : Query) → finds_nothing (query_findings library d scope place q) ≡ K.is_test library d scope q.name q.class q.predicate
  query_finds scope place q = test_finds library d (with_name q.name q.class scope) place q.predicate

  -- nothing is found in entries that are kinded
  entries_judged : (path : Path) (scope : Scope) (i : ℕ) (es : List Entry) → finds_nothing (entries_findings library d path scope i es) ≡ entries_kinded library d scope es
  entries_judged path scope i [] = refl
  entries_judged path scope i (query_entry q ∷ es) =
      both_find (query_findings library d scope (item_at (item_at path i) 2) q) (entries_findings library d path (with_name q.name q.class scope) (suc i) es)
      (K.is_test library d scope q.name q.class q.predicate) (entries_kinded library d (with_name q.name q.class scope) es)
      (query_finds scope (item_at (item_at path i) 2) q) (entries_judged path (with_name q.name q.class scope) (suc i) es)
  entries_judged path scope i (no_entry q ∷ es) =
      both_find (query_findings library d scope (item_at (item_at path i) 3) q) (entries_findings library d path scope (suc i) es)
      (K.is_test library d scope q.name q.class q.predicate) (entries_kinded library d scope es)
      (query_finds scope (item_at (item_at path i) 3) q) (entries_judged path scope (suc i) es)
  entries_judged path scope i (let_entry x a ∷ es) =
      let place = item_at (item_at path i) 2 in
      let inner = with_sort x (unwrap_or (aggregate_sort library d scope a) any) scope in
      both_find (found (value_check library d scope place a)) (entries_findings library d path inner (suc i) es)
      (is_some (aggregate_sort library d scope a)) (entries_kinded library d inner es)
      (one_finds (value_check library d scope place a) (is_some (aggregate_sort library d scope a)) (value_judged library d scope place a))
      (entries_judged path inner (suc i) es)
      ∙ held_kinded (aggregate_sort library d scope a) (λ s. entries_kinded library d (with_sort x s scope) es)

  rule_judged : (fired : Bool) (path : Path) (rule : Rule) → finds_nothing (rule_findings library d fired path rule) ≡ K.rule_kinded library d fired rule
  rule_judged fired path rule =
      let start = first_scope (columns_by fired rule.event) in
      let after = with_entries library d start rule.condition in
      let queries = query_classes rule.condition in
      both_find (entries_findings library d (item_at path 3) start 0 rule.condition) (body_findings library d after queries (item_at path 5) 0 rule.action)
      (entries_kinded library d start rule.condition) (body_kinded library d after queries rule.action)
      (entries_judged (item_at path 3) start 0 rule.condition) (body_judged library d after queries (item_at path 5) 0 rule.action)

rules_judged : (library : Library) (d : Declared) (path : Path) (n : ℕ) (rules : List Rule) → finds_nothing (rules_findings library d path n rules) ≡ rules_kinded library d n rules
rules_judged library d path n [] = refl
rules_judged library d path n (rule ∷ rules) =
    both_find (rule_findings library d (is_fired d n) (item_at path n) rule) (rules_findings library d path (suc n) rules)
    (K.rule_kinded library d (is_fired d n) rule) (rules_kinded library d (suc n) rules)
    (rule_judged library d (is_fired d n) (item_at path n) rule) (rules_judged library d path (suc n) rules)

pub library_judged : (library : Library) (d : Declared) → finds_nothing (library_findings library d) ≡ library_kinded library d
library_judged library d = rules_judged library d (under_root (F.rules_member)) 0 library.rules

pub unit_judged : (library : Library) (d : Declared) (unit : Unit) → finds_nothing (unit_findings library d unit) ≡ unit_kinded library d unit
unit_judged library d (transaction now body) = body_judged library d no_scope [] [] 0 body
unit_judged library d (moment t) = refl

-- ---- the program's findings

pub mapped_nothing : {A B : Type 0} (f : A → B) (xs : List A) → finds_nothing xs ≡ finds_nothing (map f xs)
mapped_nothing f [] = refl
mapped_nothing f (x ∷ xs) = refl

-- what is found judges as the definitions do
pub judged_by : {A B : Type 0} (f : A → B) (xs : List A) (ys : List B) (b : Bool) → map f xs ≡ ys → finds_nothing ys ≡ b → finds_nothing xs ≡ b
judged_by f xs ys b is e = mapped_nothing f xs ∙ ap finds_nothing is ∙ e
