-- Kinds: which kinds of values expressions give, read off the library alone; and the law that where each use is of the
-- right kind, nothing ends because of a wrong kind or a part that the occurrence lacks.
use Rattle.std.specs.Prelude.{ℕ, zero, suc, ◌+◌, ◌*◌, ◌/◌, ◌^◌, nat_lt, unsigned_abs, Bool, true, false, ◌&&◌, ◌||◌, ◌==◌, IsTrue, ⊤, ◌≡◌, List, [], ◌∷◌, ◌++◌, Option, Some, None}
use Rattle.std.specs.Prelude.{is_some, option_map, unwrap_or, bytes_eq, slice_get, if◌then◌else◌}
use Rattle.std.specs.Bool.{then_some}
use Rattle.std.specs.List.{list_all, list_any, AllByRecursion}
use Rattle.std.specs.Map.{lookup}
use Rattle.hp_model.specs.Values.{Name, Value, integer, Kind, integer_kind, boolean_kind, text_kind, Field, Cause, exists, missing, wrong_kind, overflow, divide_by_zero}
use Rattle.hp_model.specs.Values.{no_parameter, depth_exceeded, requested, vetoed, kind_of, is_kind}
use Rattle.hp_model.specs.Occurrences.{Primitive, signalled}
use Rattle.hp_model.specs.Events.{Pattern, on_create, on_update, on_delete, on_signal, at_moment, every_moment, Event, pattern_event, or_event, seq_event, closure_event}
use Rattle.hp_model.specs.Expressions.{Arithmetic, plus, minus, times, quotient, remainder, Comparison, equal, unequal, less, at_most, greater, at_least, Expression, constant}
use Rattle.hp_model.specs.Expressions.{arithmetic, negated, inverted, both, either, compared, field_of, key_of, new_field, old_field, key_in, argument, time_of, occurrence_count}
use Rattle.hp_model.specs.Expressions.{value_named, time_now}
use Rattle.hp_model.specs.Rules.{Aggregate, count_over, sum_over, least_over, greatest_over, next_key, single, Entry, query_entry, no_entry, let_entry, Assignment, Statement}
use Rattle.hp_model.specs.Rules.{create, update, delete, signal, emit, when, each, for_answer, with_object, subtransaction, let_value, abort, veto, veto_with, on_rule, fire, Body}
use Rattle.hp_model.specs.Rules.{empty, ◌then◌, Rule, Library, class_at, rule_at}
use Rattle.hp_model.specs.Firing.{kind_in}
use Rattle.hp_model.specs.State.{State, RuleState, IsFit}
use Rattle.hp_model.specs.Tree.{Node, sub_node, fire_node, act_node}
use Rattle.hp_model.specs.Ranges.{IsFitLibrary, unit_fits}
use Rattle.hp_model.specs.Cascade.{Unit, transaction, moment, transactions_of, run_unit, Script, evaluate}
use Rattle.hp_model.specs.Endings.{Ended, whole_transaction, inner_node, condition_of, TransactionsHaveOnly, ReportHasOnly}

-- ---- sorts, and what is declared

-- what is known of a value: its kind, or nothing
pub data Sort : Type 0 where
  only : Kind → Sort
  any : Sort

abbrev pub has_sort : Sort → Value → Bool
has_sort (only k) v = is_kind k (kind_of v)
has_sort any v = true

-- the signals' first arguments, by their sorts; and the rules that statements may fire. The program infers this for a
-- library and its transactions; the laws hold of each such declaration
pub record Declared : Type 0 where
  pub signatures : List (Name × List Sort)
  pub fired : List ℕ

abbrev pub signature_of : Declared → Name → List Sort
signature_of d s = unwrap_or (lookup (bytes_eq s) d.signatures) []

abbrev pub is_fired : Declared → ℕ → Bool
is_fired d n = list_any (λ m. m == n) d.fired

-- the first values are of these sorts
abbrev pub covers : List Sort → List Value → Bool
covers [] vs = true
covers (s ∷ ss) [] = false
covers (s ∷ ss) (v ∷ vs) = has_sort s v && covers ss vs

-- a signal is as declared
abbrev pub is_declared : Declared → Primitive → Bool
is_declared d (signalled name arguments) = covers (signature_of d name) arguments
is_declared d p = true

-- ---- the parts of an event's occurrences

-- for each place the patterns of which a part there matches one; if exact, there are no further parts
pub record Columns : Type 0 where
  pub places : List (List Pattern)
  pub exact : Bool

-- nothing is known of the parts
abbrev pub no_columns : Columns
no_columns = record { places = []; exact = false }

abbrev pub same_length : {A : Type 0} → List A → List A → Bool
same_length [] [] = true
same_length [] (y ∷ ys) = false
same_length (x ∷ xs) [] = false
same_length (x ∷ xs) (y ∷ ys) = same_length xs ys

abbrev pub merged : List (List Pattern) → List (List Pattern) → List (List Pattern)
merged [] bs = []
merged (a ∷ as') [] = []
merged (a ∷ as') (b ∷ bs) = (a ++ b) ∷ merged as' bs

abbrev pub either_columns : Columns → Columns → Columns
either_columns a b = record { places = merged a.places b.places; exact = a.exact && (b.exact && same_length a.places b.places) }

abbrev pub followed : Bool → List (List Pattern) → Columns → Columns
followed true places b = record { places = places ++ b.places; exact = b.exact }
followed false places b = record { places = places; exact = false }

abbrev pub columns_of : Event → Columns
columns_of (pattern_event pattern) = record { places = (pattern ∷ []) ∷ []; exact = true }
columns_of (or_event a b) = either_columns (columns_of a) (columns_of b)
columns_of (seq_event a b) = followed (columns_of a).exact (columns_of a).places (columns_of b)
columns_of (closure_event a t) = followed (columns_of a).exact (columns_of a).places (columns_of t)

-- the columns of a rule: a fired one may have no parts
abbrev pub columns_by : (fired : Bool) → Event → Columns
columns_by true e = no_columns
columns_by false e = columns_of e

-- ---- expressions

-- what is known at a place: the occurrence's columns, if there is an occurrence, and the classes of the rows and the
-- sorts of the values by name, the innermost first
pub record Scope : Type 0 where
  pub columns : Option Columns
  pub rows : List (Name × ℕ)
  pub values : List (Name × Sort)

abbrev pub with_name : Name → ℕ → Scope → Scope
with_name x class scope = record { columns = scope.columns; rows = (x, class) ∷ scope.rows; values = scope.values }

abbrev pub with_sort : Name → Sort → Scope → Scope
with_sort x s scope = record { columns = scope.columns; rows = scope.rows; values = (x, s) ∷ scope.values }

-- the sort is known, and is exactly this kind
abbrev pub is_only : Kind → Option Sort → Bool
is_only k None = false
is_only k (Some any) = false
is_only k (Some (only l)) = is_kind k l

abbrev pub only_if : Bool → Kind → Sort
only_if true k = only k
only_if false k = any

-- what is known of a value that has one sort or the other
abbrev pub meets : Sort → Sort → Sort
meets (only k) (only l) = only_if (is_kind k l) k
meets (only k) any = any
meets any t = any

abbrev pub meet : Option Sort → Option Sort → Option Sort
meet None o = None
meet (Some s) None = None
meet (Some s) (Some t) = Some (meets s t)

-- the sort that the test gives for each of the patterns
abbrev pub common : (Pattern → Option Sort) → List Pattern → Option Sort
common test [] = None
common test (p ∷ []) = test p
common test (p ∷ q ∷ ps) = meet (test p) (common test (q ∷ ps))

abbrev pub common_at : (Pattern → Option Sort) → Option (List Pattern) → Option Sort
common_at test None = None
common_at test (Some ps) = common test ps

abbrev pub part_sort : Option Columns → ℕ → (Pattern → Option Sort) → Option Sort
part_sort None i test = None
part_sort (Some c) i test = common_at test (slice_get c.places i)

abbrev pub field_sort : Library → ℕ → Name → Option Sort
field_sort library class f = option_map only (kind_in (class_at library class).fields f)

abbrev pub new_sort : Library → Name → Pattern → Option Sort
new_sort library f (on_create c) = field_sort library c f
new_sort library f (on_update c) = field_sort library c f
new_sort library f p = None

abbrev pub old_sort : Library → Name → Pattern → Option Sort
old_sort library f (on_update c) = field_sort library c f
old_sort library f (on_delete c) = field_sort library c f
old_sort library f p = None

abbrev pub key_sort : Pattern → Option Sort
key_sort (on_create c) = Some (only integer_kind)
key_sort (on_update c) = Some (only integer_kind)
key_sort (on_delete c) = Some (only integer_kind)
key_sort p = None

abbrev pub argument_sort : Declared → ℕ → Pattern → Option Sort
argument_sort d j (on_signal s) = slice_get (signature_of d s) j
argument_sort d j p = None

abbrev pub moment_sort : Pattern → Option Sort
moment_sort (at_moment t) = Some (only integer_kind)
moment_sort (every_moment first period) = Some (only integer_kind)
moment_sort p = None

abbrev pub named_sort : Library → Option ℕ → Name → Option Sort
named_sort library None f = None
named_sort library (Some class) f = field_sort library class f

-- two values of one kind; two integers or two texts
abbrev pub are_alike : Option Sort → Option Sort → Bool
are_alike None o = false
are_alike (Some any) o = false
are_alike (Some (only k)) o = is_only k o

abbrev pub are_ordered : Option Sort → Option Sort → Bool
are_ordered a b = (is_only integer_kind a && is_only integer_kind b) || (is_only text_kind a && is_only text_kind b)

abbrev pub are_comparable : Comparison → Option Sort → Option Sort → Bool
are_comparable equal a b = are_alike a b
are_comparable unequal a b = are_alike a b
are_comparable less a b = are_ordered a b
are_comparable at_most a b = are_ordered a b
are_comparable greater a b = are_ordered a b
are_comparable at_least a b = are_ordered a b

-- the sort of an expression, if all in it is of the right kinds
abbrev pub sort_of : Library → Declared → Scope → Expression → Option Sort
sort_of library d scope (constant v) = Some (only (kind_of v))
sort_of library d scope (arithmetic op a b) =
    then_some (is_only integer_kind (sort_of library d scope a) && is_only integer_kind (sort_of library d scope b)) (only integer_kind)
sort_of library d scope (negated a) = then_some (is_only integer_kind (sort_of library d scope a)) (only integer_kind)
sort_of library d scope (inverted a) = then_some (is_only boolean_kind (sort_of library d scope a)) (only boolean_kind)
sort_of library d scope (both a b) =
    then_some (is_only boolean_kind (sort_of library d scope a) && is_only boolean_kind (sort_of library d scope b)) (only boolean_kind)
sort_of library d scope (either a b) =
    then_some (is_only boolean_kind (sort_of library d scope a) && is_only boolean_kind (sort_of library d scope b)) (only boolean_kind)
sort_of library d scope (compared op a b) = then_some (are_comparable op (sort_of library d scope a) (sort_of library d scope b)) (only boolean_kind)
sort_of library d scope (field_of x f) = named_sort library (lookup (bytes_eq x) scope.rows) f
sort_of library d scope (key_of x) = then_some (is_some (lookup (bytes_eq x) scope.rows)) (only integer_kind)
sort_of library d scope (new_field i f) = part_sort scope.columns i (new_sort library f)
sort_of library d scope (old_field i f) = part_sort scope.columns i (old_sort library f)
sort_of library d scope (key_in i) = part_sort scope.columns i key_sort
sort_of library d scope (argument i j) = part_sort scope.columns i (argument_sort d j)
sort_of library d scope (time_of i) = part_sort scope.columns i moment_sort
sort_of library d scope occurrence_count = then_some (is_some scope.columns) (only integer_kind)
sort_of library d scope (value_named x) = lookup (bytes_eq x) scope.values
sort_of library d scope time_now = Some (only integer_kind)

-- ---- arithmetic that never faults

-- a bound of what an operation gives, from bounds of its operands
abbrev pub bounded_by : (ℕ → ℕ → ℕ) → Option ℕ → Option ℕ → Option ℕ
bounded_by f (Some m) (Some n) = Some (f m n)
bounded_by f None n = None
bounded_by f (Some m) None = None

-- the divisor's distance from 0, where it is a constant
abbrev pub known_divisor : Expression → Option ℕ
known_divisor (constant (integer z)) = Some (unsigned_abs z)
known_divisor e = None

abbrev pub quotient_bound : Option ℕ → (divisor : Option ℕ) → Option ℕ
quotient_bound m None = m
quotient_bound m (Some zero) = m
quotient_bound m (Some (suc d)) = option_map (λ k. k / suc d) m

-- how far from 0 an integer is at most that the expression gives, where that is known: what is read of an object or of
-- an occurrence has 64 bits
abbrev pub magnitude : Expression → Option ℕ
magnitude (constant (integer z)) = Some (unsigned_abs z)
magnitude (arithmetic plus a b) = bounded_by ◌+◌ (magnitude a) (magnitude b)
magnitude (arithmetic minus a b) = bounded_by ◌+◌ (magnitude a) (magnitude b)
magnitude (arithmetic times a b) = bounded_by ◌*◌ (magnitude a) (magnitude b)
magnitude (arithmetic quotient a b) = quotient_bound (magnitude a) (known_divisor b)
magnitude (arithmetic remainder a b) = magnitude b
magnitude (negated a) = magnitude a
magnitude (field_of x f) = Some (2 ^ 63)
magnitude (key_of x) = Some (2 ^ 63)
magnitude (new_field i f) = Some (2 ^ 63)
magnitude (old_field i f) = Some (2 ^ 63)
magnitude (key_in i) = Some (2 ^ 63)
magnitude (argument i j) = Some (2 ^ 63)
magnitude (time_of i) = Some (2 ^ 63)
magnitude occurrence_count = Some (2 ^ 63)
magnitude time_now = Some (2 ^ 63)
magnitude e = None

-- a result that is at most so far from 0 has 64 bits
abbrev pub is_small : Option ℕ → Bool
is_small None = false
is_small (Some m) = nat_lt m (2 ^ 63)

abbrev pub is_nonzero : (divisor : Option ℕ) → Bool
is_nonzero None = false
is_nonzero (Some d) = nat_lt 0 d

-- the operation neither overflows nor divides by zero
abbrev pub is_result_calm : Arithmetic → (left right : Expression) → Bool
is_result_calm plus a b = is_small (bounded_by ◌+◌ (magnitude a) (magnitude b))
is_result_calm minus a b = is_small (bounded_by ◌+◌ (magnitude a) (magnitude b))
is_result_calm times a b = is_small (bounded_by ◌*◌ (magnitude a) (magnitude b))
is_result_calm quotient a b = is_nonzero (known_divisor b) && is_small (quotient_bound (magnitude a) (known_divisor b))
is_result_calm remainder a b = is_nonzero (known_divisor b) && is_small (quotient_bound (magnitude a) (known_divisor b))

-- an expression whose value never overflows and never divides by zero. No arithmetic in it could, by its constants, and
-- it counts no occurrences
abbrev pub is_calm : Expression → Bool
is_calm (arithmetic op a b) = (is_calm a && is_calm b) && is_result_calm op a b
is_calm (negated a) = is_calm a && is_small (magnitude a)
is_calm (inverted a) = is_calm a
is_calm (both a b) = is_calm a && is_calm b
is_calm (either a b) = is_calm a && is_calm b
is_calm (compared op a b) = is_calm a && is_calm b
is_calm occurrence_count = false
is_calm e = true

-- ---- aggregates

-- all predicates are booleans
abbrev pub is_test : Library → Declared → Scope → (variable : Name) → (class : ℕ) → (predicate : Expression) → Bool
is_test library d scope x class predicate = is_only boolean_kind (sort_of library d (with_name x class scope) predicate)

-- the sort, if it is of integers or of texts
abbrev pub ordered : Option Sort → Option Sort
ordered o = then_some (are_ordered o o) (unwrap_or o any)

-- the sort of an aggregate's value, if all in it is of the right kinds
abbrev pub aggregate_sort : Library → Declared → Scope → Aggregate → Option Sort
aggregate_sort library d scope (count_over x class predicate) = then_some (is_test library d scope x class predicate) (only integer_kind)
aggregate_sort library d scope (sum_over x class predicate term) =
    then_some (is_test library d scope x class predicate && is_only integer_kind (sort_of library d (with_name x class scope) term)) (only integer_kind)
aggregate_sort library d scope (least_over x class predicate term) =
    if is_test library d scope x class predicate then ordered (sort_of library d (with_name x class scope) term) else None
aggregate_sort library d scope (greatest_over x class predicate term) =
    if is_test library d scope x class predicate then ordered (sort_of library d (with_name x class scope) term) else None
aggregate_sort library d scope (next_key class) = Some (only integer_kind)
aggregate_sort library d scope (single e) = sort_of library d scope e

-- an aggregate that never overflows and never divides by zero
abbrev pub is_aggregate_calm : Aggregate → Bool
is_aggregate_calm (count_over x class predicate) = is_calm predicate
is_aggregate_calm (sum_over x class predicate term) = false
is_aggregate_calm (least_over x class predicate term) = is_calm predicate && is_calm term
is_aggregate_calm (greatest_over x class predicate term) = is_calm predicate && is_calm term
is_aggregate_calm (next_key class) = false
is_aggregate_calm (single e) = is_calm e

-- ---- statements

-- within the scope of a `let`, if its aggregate is of the right kinds
abbrev pub if_sorted : Option Sort → (Sort → Bool) → Bool
if_sorted None test = false
if_sorted (Some s) test = test s

abbrev pub gives_sort : Sort → Option Sort → Bool
gives_sort any o = is_some o
gives_sort (only k) o = is_only k o

-- the arguments of a signal: the first ones are of these sorts
abbrev pub arguments_kinded : Library → Declared → Scope → List Sort → List Expression → Bool
arguments_kinded library d scope [] es = list_all (λ e. is_some (sort_of library d scope e)) es
arguments_kinded library d scope (s ∷ ss) [] = false
arguments_kinded library d scope (s ∷ ss) (e ∷ es) = gives_sort s (sort_of library d scope e) && arguments_kinded library d scope ss es

abbrev pub is_given : Option Kind → Option Sort → Bool
is_given None o = false
is_given (Some k) o = is_only k o

-- each assigned field is one of these, and its value is of its kind
abbrev pub assignments_kinded : Library → Declared → Scope → List Field → List Assignment → Bool
assignments_kinded library d scope fields pairs = list_all (λ (a : Assignment). is_given (kind_in fields a.field) (sort_of library d scope a.value)) pairs

-- each field is assigned
abbrev pub all_assigned : List Field → List Assignment → Bool
all_assigned fields pairs = list_all (λ (f : Field). list_any (λ (a : Assignment). bytes_eq f.name a.field) pairs) fields

-- in the scope, and with these classes of the rule's queries
abbrev mutual
  pub statement_kinded : Library → Declared → Scope → List (Name × ℕ) → Statement → Bool
  statement_kinded library d scope queries (create class key pairs) =
      is_only integer_kind (sort_of library d scope key) && (assignments_kinded library d scope (class_at library class).fields pairs && all_assigned (class_at library class).fields pairs)
  statement_kinded library d scope queries (update class key pairs) =
      is_only integer_kind (sort_of library d scope key) && assignments_kinded library d scope (class_at library class).fields pairs
  statement_kinded library d scope queries (delete class key) = is_only integer_kind (sort_of library d scope key)
  statement_kinded library d scope queries (signal name arguments) = arguments_kinded library d scope (signature_of d name) arguments
  statement_kinded library d scope queries (emit e) = is_some (sort_of library d scope e)
  statement_kinded library d scope queries (when e then_body else_body) =
      is_only boolean_kind (sort_of library d scope e) && (body_kinded library d scope queries then_body && body_kinded library d scope queries else_body)
  statement_kinded library d scope queries (each x class predicate body) =
      is_only boolean_kind (sort_of library d (with_name x class scope) predicate) && body_kinded library d (with_name x class scope) queries body
  statement_kinded library d scope queries (for_answer x body) =
      is_some (lookup (bytes_eq x) queries) && body_kinded library d (with_name x (unwrap_or (lookup (bytes_eq x) queries) 0) scope) queries body
  statement_kinded library d scope queries (with_object x class key body) =
      is_only integer_kind (sort_of library d scope key) && body_kinded library d (with_name x class scope) queries body
  statement_kinded library d scope queries (subtransaction body otherwise) = body_kinded library d scope queries body && body_kinded library d scope queries otherwise
  statement_kinded library d scope queries (let_value x a body) =
      if_sorted (aggregate_sort library d scope a) (λ s. body_kinded library d (with_sort x s scope) queries body)
  statement_kinded library d scope queries abort = true
  statement_kinded library d scope queries veto = true
  statement_kinded library d scope queries (veto_with e) = is_some (sort_of library d scope e)
  statement_kinded library d scope queries (on_rule op n) = true
  statement_kinded library d scope queries (fire n) = is_fired d n

  pub body_kinded : Library → Declared → Scope → List (Name × ℕ) → Body → Bool
  body_kinded library d scope queries empty = true
  body_kinded library d scope queries (s then rest) = statement_kinded library d scope queries s && body_kinded library d scope queries rest

-- no abort of the body is one of arithmetic: all its expressions are calm, except within a `sub`, whose abort its other
-- body follows
abbrev mutual
  pub is_statement_calm : Statement → Bool
  is_statement_calm (create class key pairs) = is_calm key && list_all (λ (a : Assignment). is_calm a.value) pairs
  is_statement_calm (update class key pairs) = is_calm key && list_all (λ (a : Assignment). is_calm a.value) pairs
  is_statement_calm (delete class key) = is_calm key
  is_statement_calm (signal name arguments) = list_all is_calm arguments
  is_statement_calm (emit e) = is_calm e
  is_statement_calm (when e then_body else_body) = is_calm e && (is_body_calm then_body && is_body_calm else_body)
  is_statement_calm (each x class predicate body) = is_calm predicate && is_body_calm body
  is_statement_calm (for_answer x body) = is_body_calm body
  is_statement_calm (with_object x class key body) = is_calm key && is_body_calm body
  is_statement_calm (subtransaction body otherwise) = is_body_calm otherwise
  is_statement_calm (let_value x a body) = is_aggregate_calm a && is_body_calm body
  is_statement_calm (veto_with e) = is_calm e
  is_statement_calm s = true

  pub is_body_calm : Body → Bool
  is_body_calm empty = true
  is_body_calm (s then rest) = is_statement_calm s && is_body_calm rest

-- ---- rules, libraries and units

-- each entry is of the right kinds, in the scope of those before it
abbrev pub entries_kinded : Library → Declared → Scope → List Entry → Bool
entries_kinded library d scope [] = true
entries_kinded library d scope (query_entry q ∷ es) =
    is_test library d scope q.name q.class q.predicate && entries_kinded library d (with_name q.name q.class scope) es
entries_kinded library d scope (no_entry q ∷ es) = is_test library d scope q.name q.class q.predicate && entries_kinded library d scope es
entries_kinded library d scope (let_entry x a ∷ es) =
    if_sorted (aggregate_sort library d scope a) (λ s. entries_kinded library d (with_sort x s scope) es)

-- an action knows the first row of each answer, and each value
abbrev pub with_entries : Library → Declared → Scope → List Entry → Scope
with_entries library d scope [] = scope
with_entries library d scope (query_entry q ∷ es) = with_entries library d (with_name q.name q.class scope) es
with_entries library d scope (no_entry q ∷ es) = with_entries library d scope es
with_entries library d scope (let_entry x a ∷ es) =
    with_entries library d (with_sort x (unwrap_or (aggregate_sort library d scope a) any) scope) es

abbrev pub query_classes : List Entry → List (Name × ℕ)
query_classes [] = []
query_classes (query_entry q ∷ es) = (q.name, q.class) ∷ query_classes es
query_classes (no_entry q ∷ es) = query_classes es
query_classes (let_entry x a ∷ es) = query_classes es

-- the scope of a rule's condition
abbrev pub rule_scope : (fired : Bool) → Rule → Scope
rule_scope fired rule = record { columns = Some (columns_by fired rule.event); rows = []; values = [] }

abbrev pub rule_kinded : Library → Declared → (fired : Bool) → Rule → Bool
rule_kinded library d fired rule =
    entries_kinded library d (rule_scope fired rule) rule.condition
    && body_kinded library d (with_entries library d (rule_scope fired rule) rule.condition) (query_classes rule.condition) rule.action

-- the first rule of the list is the n-th
abbrev pub rules_kinded : Library → Declared → (n : ℕ) → List Rule → Bool
rules_kinded library d n [] = true
rules_kinded library d n (rule ∷ rules) = rule_kinded library d (is_fired d n) rule && rules_kinded library d (suc n) rules

-- all entries of the rule's condition are calm
abbrev pub is_condition_calm : List Entry → Bool
is_condition_calm [] = true
is_condition_calm (query_entry q ∷ es) = is_calm q.predicate && is_condition_calm es
is_condition_calm (no_entry q ∷ es) = is_calm q.predicate && is_condition_calm es
is_condition_calm (let_entry x a ∷ es) = is_aggregate_calm a && is_condition_calm es

abbrev pub library_kinded : Library → Declared → Bool
library_kinded library d = rules_kinded library d 0 library.rules

abbrev pub no_scope : Scope
no_scope = record { columns = None; rows = []; values = [] }

abbrev pub unit_kinded : Library → Declared → Unit → Bool
unit_kinded library d (transaction now body) = body_kinded library d no_scope [] body
unit_kinded library d (moment t) = true

-- ---- the causes that kinds leave

-- a cause other than a wrong kind and a missing part
abbrev pub NotOfKinds : Cause → Type 0
NotOfKinds exists = ⊤
NotOfKinds missing = ⊤
NotOfKinds wrong_kind = ⊥
NotOfKinds overflow = ⊤
NotOfKinds divide_by_zero = ⊤
NotOfKinds no_parameter = ⊥
NotOfKinds depth_exceeded = ⊤
NotOfKinds requested = ⊤
NotOfKinds (vetoed rule) = ⊤

abbrev pub is_arithmetic : Cause → Bool
is_arithmetic overflow = true
is_arithmetic divide_by_zero = true
is_arithmetic c = false

-- an action ends with no cause of a kind; with none of arithmetic if it is calm
abbrev pub CauseOf : (calm : Bool) → Cause → Type 0
CauseOf calm c = NotOfKinds c × (is_arithmetic c ≡ true → calm ≡ false)

-- whether what runs in the node is calm
abbrev pub is_node_calm : Library → Node → Bool
is_node_calm library sub_node = false
is_node_calm library (fire_node rule place condition) = is_body_calm (rule_at library rule).action
is_node_calm library (act_node rule place) = is_body_calm (rule_at library rule).action

-- no cause of a kind ends anything. A calm action ends with none of arithmetic either, and a calm condition with none at
-- all
abbrev pub KindedCause : Library → Ended → Cause → Type 0
KindedCause library whole_transaction c = NotOfKinds c
KindedCause library (inner_node what) c = CauseOf (is_node_calm library what) c
KindedCause library (condition_of rule) c = NotOfKinds c × (is_condition_calm (rule_at library rule).condition ≡ false)

-- ---- the laws

-- all that was signalled is as declared
abbrev pub ArePastsDeclared : Declared → State → Type 0
ArePastsDeclared d S = AllByRecursion (λ (r : RuleState). AllByRecursion (λ p. IsTrue (is_declared d p)) r.past) S.rules

-- a kinded unit, run from a fit state in which all is as declared: no cause of a kind, and such a state after it
abbrev pub KindsHold : Type 0
KindsHold = (library : Library) (d : Declared) → IsFitLibrary library → IsTrue (library_kinded library d) → (unit : Unit) → IsTrue (unit_fits library unit) → IsTrue (unit_kinded library d unit)
    → (S : State) → IsFit library S → ArePastsDeclared d S
    → TransactionsHaveOnly (KindedCause library) (transactions_of (run_unit library unit S)) × ArePastsDeclared d (run_unit library unit S).state

-- a kinded script never meets a wrong kind or a part that the occurrence lacks
abbrev pub NeverOfKinds : Type 0
NeverOfKinds = (script : Script) (d : Declared) → IsFitLibrary script.library → AllByRecursion (λ u. IsTrue (unit_fits script.library u)) script.units
    → IsTrue (library_kinded script.library d) → AllByRecursion (λ u. IsTrue (unit_kinded script.library d u)) script.units
    → AllByRecursion (ReportHasOnly (KindedCause script.library)) (evaluate script).units
