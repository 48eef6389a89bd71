-- Where a library or a body isn't kinded: the findings of all its parts, in the order in which they stand in a script. A
-- finding is the place of an expression or a statement, and why it is refused there. An expression, an aggregate or an
-- assignment has at most one: the first in it. Of a test, each operand of its `and` and `or` has one.
use Rattle.std.specs.Prelude.{ℕ, suc, Bool, true, false, ⊤, List, [], ◌∷◌, ◌++◌, Option, Some, None, Result, Ok, Err, codes, bytes_eq, slice_get, is_some, unwrap_or, if◌then◌else◌}
use Rattle.std.specs.Map.{lookup}
use Rattle.hp_model.specs.Values.{Name, Kind, integer_kind, boolean_kind, text_kind, Field, kind_of, ◌>>=◌}
use Rattle.hp_model.specs.Events.{Pattern, on_create, on_update, on_delete, on_signal, at_moment, every_moment}
use Rattle.hp_model.specs.Expressions.{Comparison, equal, unequal, less, at_most, greater, at_least, Expression, constant, arithmetic, negated, inverted, both, either, compared}
use Rattle.hp_model.specs.Expressions.{field_of, key_of, new_field, old_field, key_in, argument, time_of, occurrence_count, value_named, time_now}
use Rattle.hp_model.specs.Rules.{Query, Aggregate, count_over, sum_over, least_over, greatest_over, next_key, single, Entry, query_entry, no_entry, let_entry}
use Rattle.hp_model.specs.Rules.{Assignment, Statement, create, update, delete, signal, emit, when, each, for_answer, with_object, subtransaction, let_value, veto_with, fire, Body}
use Rattle.hp_model.specs.Rules.{empty, ◌then◌, Rule, Library, class_at}
use Rattle.hp_model.specs.Firing.{kind_in}
use Rattle.hp_model.specs.Cascade.{Unit, transaction, moment}
use Rattle.hp_model.specs.Refusals.{Path, under_root, item_at}
use Rattle.hp_model.specs.Kinds.{Sort, only, any, Declared, signature_of, is_fired, Columns, columns_by, Scope, with_name, with_sort, no_scope, is_only, are_ordered, meets}
use Rattle.hp_model.specs.Kinds.{all_assigned, aggregate_sort, with_entries, query_classes}

-- ---- findings

-- what an expression must be where it stands
pub data Wanted : Type 0 where
  -- of this kind
  of_kind : Kind → Wanted
  -- of a known kind, since it is compared with another value
  of_known_kind : Wanted
  -- an integer or a text, since it is ordered
  of_ordered_kind : Wanted

-- why an expression or a statement is refused
pub data Reason : Type 0 where
  -- the expression has this sort, and another one is wanted
  unsuited : Wanted → Sort → Reason
  -- it reads an occurrence, and the body of a script has none
  no_occurrence : Reason
  -- not each occurrence of the event has this part
  no_such_part : Reason
  -- the part may be of a form that has no such value
  other_form : Reason
  -- the class has no such field
  no_such_field : Reason
  -- the signal is declared without this argument
  no_such_argument : Reason
  -- a `signal` has fewer arguments than are declared
  too_few_arguments : Reason
  -- a `create` doesn't set each field
  unset_field : Reason
  -- no row, no query or no value of this name is known
  unknown_name : Reason
  -- the rule isn't one of those that statements may fire
  not_fired : Reason

pub record Finding : Type 0 where
  pub path : Path
  pub reason : Reason

-- a value, or why there is none
abbrev pub Reasoned : Type 0 → Type 0
Reasoned A = Result A Reason

-- a value, or the first finding
abbrev pub Judged : Type 0 → Type 0
Judged A = Result A Finding

-- the finding of a check that fails
abbrev pub found : {A : Type 0} → Judged A → List Finding
found (Ok x) = []
found (Err f) = f ∷ []

abbrev pub finds_nothing : {A : Type 0} → List A → Bool
finds_nothing [] = true
finds_nothing (x ∷ xs) = false

abbrev pub refused : {A : Type 0} → Path → Reason → Judged A
refused path reason = Err (record { path = path; reason = reason })

-- a reason at its place
abbrev pub placed : {A : Type 0} → Path → Reasoned A → Judged A
placed path (Ok x) = Ok x
placed path (Err reason) = refused path reason

abbrev pub reasoned : {A : Type 0} → Reason → Option A → Reasoned A
reasoned reason None = Err reason
reasoned reason (Some x) = Ok x

-- ---- sorts

-- the sort is exactly this kind
abbrev pub suits : Kind → Path → Sort → Judged ⊤
suits k path s = if is_only k (Some s) then Ok tt else refused path (unsuited (of_kind k) s)

-- the sort meets a demand, if there is one
abbrev pub demanded : Option Sort → Path → Sort → Judged ⊤
demanded None path s = Ok tt
demanded (Some any) path s = Ok tt
demanded (Some (only k)) path s = suits k path s

-- an operand of this kind, at an item of the expression; the operator gives the same kind
unfoldable pub operand_sort : Kind → Path → Judged Sort → Judged Sort
operand_sort k path operand = do
  s ← operand
  _ ← suits k path s
  Ok (only k)

-- two such operands
unfoldable pub operands_sort : Kind → Path → (left right : Judged Sort) → Judged Sort
operands_sort k path left right = do
  _ ← operand_sort k (item_at path 1) left
  operand_sort k (item_at path 2) right

-- two values of one kind
abbrev pub alike_check : Path → (left right : Sort) → Judged ⊤
alike_check path any t = refused (item_at path 1) (unsuited of_known_kind any)
alike_check path (only k) t = suits k (item_at path 2) t

-- two integers or two texts
abbrev pub ordered_check : Path → (left right : Sort) → Judged ⊤
ordered_check path any t = refused (item_at path 1) (unsuited of_ordered_kind any)
ordered_check path (only integer_kind) t = suits integer_kind (item_at path 2) t
ordered_check path (only boolean_kind) t = refused (item_at path 1) (unsuited of_ordered_kind (only boolean_kind))
ordered_check path (only text_kind) t = suits text_kind (item_at path 2) t

abbrev pub comparable_check : Comparison → Path → (left right : Sort) → Judged ⊤
comparable_check equal path s t = alike_check path s t
comparable_check unequal path s t = alike_check path s t
comparable_check less path s t = ordered_check path s t
comparable_check at_most path s t = ordered_check path s t
comparable_check greater path s t = ordered_check path s t
comparable_check at_least path s t = ordered_check path s t

unfoldable pub comparison_sort : Comparison → Path → (left right : Judged Sort) → Judged Sort
comparison_sort op path left right = do
  s ← left
  t ← right
  _ ← comparable_check op path s t
  Ok (only boolean_kind)

-- ---- parts of occurrences

-- what an expression reads of a part
pub data Reading : Type 0 where
  read_new read_old : Name → Reading
  read_key : Reading
  read_argument : ℕ → Reading
  read_time : Reading

abbrev pub field_sort : Library → ℕ → Name → Reasoned Sort
field_sort library class f = reasoned no_such_field (kind_in (class_at library class).fields f) >>= λ k. Ok (only k)

abbrev pub argument_sort : Declared → Name → ℕ → Reasoned Sort
argument_sort d s j = reasoned no_such_argument (slice_get (signature_of d s) j)

-- what the reading gives of a part that the pattern matches
abbrev pub read_sort : Library → Declared → Reading → Pattern → Reasoned Sort
read_sort library d (read_new f) (on_create c) = field_sort library c f
read_sort library d (read_new f) (on_update c) = field_sort library c f
read_sort library d (read_old f) (on_update c) = field_sort library c f
read_sort library d (read_old f) (on_delete c) = field_sort library c f
read_sort library d read_key (on_create c) = Ok (only integer_kind)
read_sort library d read_key (on_update c) = Ok (only integer_kind)
read_sort library d read_key (on_delete c) = Ok (only integer_kind)
read_sort library d (read_argument j) (on_signal s) = argument_sort d s j
read_sort library d read_time (at_moment t) = Ok (only integer_kind)
read_sort library d read_time (every_moment first period) = Ok (only integer_kind)
read_sort library d reading pattern = Err other_form

-- what is known of a value that has this sort or what the reading gives of one of the patterns
abbrev pub sort_with : (Pattern → Reasoned Sort) → Sort → List Pattern → Reasoned Sort
sort_with read s [] = Ok s
sort_with read s (p ∷ ps) = read p >>= λ t. sort_with read (meets s t) ps

abbrev pub sort_among : (Pattern → Reasoned Sort) → List Pattern → Reasoned Sort
sort_among read [] = Err no_such_part
sort_among read (p ∷ ps) = read p >>= λ s. sort_with read s ps

abbrev pub sort_at : (Pattern → Reasoned Sort) → Option (List Pattern) → Reasoned Sort
sort_at read None = Err no_such_part
sort_at read (Some ps) = sort_among read ps

abbrev pub part_sort : Library → Declared → Option Columns → ℕ → Reading → Reasoned Sort
part_sort library d None i reading = Err no_occurrence
part_sort library d (Some c) i reading = sort_at (read_sort library d reading) (slice_get c.places i)

-- ---- expressions

abbrev pub row_class : Scope → Name → Reasoned ℕ
row_class scope x = reasoned unknown_name (lookup (bytes_eq x) scope.rows)

unfoldable pub row_field_sort : Library → Scope → (x field : Name) → Reasoned Sort
row_field_sort library scope x f = do
  class ← row_class scope x
  field_sort library class f

unfoldable pub row_key_sort : Scope → Name → Reasoned Sort
row_key_sort scope x = do
  _ ← row_class scope x
  Ok (only integer_kind)

abbrev pub count_sort : Scope → Reasoned Sort
count_sort scope = if is_some scope.columns then Ok (only integer_kind) else Err no_occurrence

abbrev pub value_sort : Scope → Name → Reasoned Sort
value_sort scope x = reasoned unknown_name (lookup (bytes_eq x) scope.values)

-- the sort of the expression at a path, or its first part that is refused
abbrev pub expression_check : Library → Declared → Scope → Path → Expression → Judged Sort
expression_check library d scope path (constant v) = Ok (only (kind_of v))
expression_check library d scope path (arithmetic op a b) =
    operands_sort integer_kind path (expression_check library d scope (item_at path 1) a) (expression_check library d scope (item_at path 2) b)
expression_check library d scope path (negated a) = operand_sort integer_kind (item_at path 1) (expression_check library d scope (item_at path 1) a)
expression_check library d scope path (inverted a) = operand_sort boolean_kind (item_at path 1) (expression_check library d scope (item_at path 1) a)
expression_check library d scope path (both a b) =
    operands_sort boolean_kind path (expression_check library d scope (item_at path 1) a) (expression_check library d scope (item_at path 2) b)
expression_check library d scope path (either a b) =
    operands_sort boolean_kind path (expression_check library d scope (item_at path 1) a) (expression_check library d scope (item_at path 2) b)
expression_check library d scope path (compared op a b) =
    comparison_sort op path (expression_check library d scope (item_at path 1) a) (expression_check library d scope (item_at path 2) b)
expression_check library d scope path (field_of x f) = placed path (row_field_sort library scope x f)
expression_check library d scope path (key_of x) = placed path (row_key_sort scope x)
expression_check library d scope path (new_field i f) = placed path (part_sort library d scope.columns i (read_new f))
expression_check library d scope path (old_field i f) = placed path (part_sort library d scope.columns i (read_old f))
expression_check library d scope path (key_in i) = placed path (part_sort library d scope.columns i read_key)
expression_check library d scope path (argument i j) = placed path (part_sort library d scope.columns i (read_argument j))
expression_check library d scope path (time_of i) = placed path (part_sort library d scope.columns i read_time)
expression_check library d scope path occurrence_count = placed path (count_sort scope)
expression_check library d scope path (value_named x) = placed path (value_sort scope x)
expression_check library d scope path time_now = Ok (only integer_kind)

-- the expression at a path has this kind
unfoldable pub kind_check : Library → Declared → Scope → Kind → Path → Expression → Judged ⊤
kind_check library d scope k path e = do
  s ← expression_check library d scope path e
  suits k path s

-- a test at a path, which is to be a boolean. The operands of its `and` and `or` are looked at one by one
abbrev pub test_findings : Library → Declared → Scope → Path → Expression → List Finding
test_findings library d scope path (both a b) = test_findings library d scope (item_at path 1) a ++ test_findings library d scope (item_at path 2) b
test_findings library d scope path (either a b) = test_findings library d scope (item_at path 1) a ++ test_findings library d scope (item_at path 2) b
test_findings library d scope path e = found (kind_check library d scope boolean_kind path e)

-- ---- aggregates

-- the variable means a row of the class in the predicate, which is a boolean
unfoldable pub count_check : Library → Declared → Scope → Path → (variable : Name) → (class : ℕ) → (predicate : Expression) → Judged Sort
count_check library d scope path x class predicate = do
  _ ← kind_check library d (with_name x class scope) boolean_kind (item_at path 3) predicate
  Ok (only integer_kind)

unfoldable pub sum_check : Library → Declared → Scope → Path → (variable : Name) → (class : ℕ) → (predicate term : Expression) → Judged Sort
sum_check library d scope path x class predicate term = do
  _ ← kind_check library d (with_name x class scope) boolean_kind (item_at path 3) predicate
  _ ← kind_check library d (with_name x class scope) integer_kind (item_at path 4) term
  Ok (only integer_kind)

-- the sort is of integers or of texts
abbrev pub is_ordered : Path → Sort → Judged ⊤
is_ordered path s = if are_ordered (Some s) (Some s) then Ok tt else refused path (unsuited of_ordered_kind s)

-- the least or the greatest value of a term
unfoldable pub extreme_check : Library → Declared → Scope → Path → (variable : Name) → (class : ℕ) → (predicate term : Expression) → Judged Sort
extreme_check library d scope path x class predicate term = do
  _ ← kind_check library d (with_name x class scope) boolean_kind (item_at path 3) predicate
  s ← expression_check library d (with_name x class scope) (item_at path 4) term
  _ ← is_ordered (item_at path 4) s
  Ok s

-- the sort of the value of the aggregate at a path, or its first part that is refused
abbrev pub aggregate_check : Library → Declared → Scope → Path → Aggregate → Judged Sort
aggregate_check library d scope path (count_over x class predicate) = count_check library d scope path x class predicate
aggregate_check library d scope path (sum_over x class predicate term) = sum_check library d scope path x class predicate term
aggregate_check library d scope path (least_over x class predicate term) = extreme_check library d scope path x class predicate term
aggregate_check library d scope path (greatest_over x class predicate term) = extreme_check library d scope path x class predicate term
aggregate_check library d scope path (next_key class) = Ok (only integer_kind)
aggregate_check library d scope path (single e) = expression_check library d scope path e

-- ---- statements

unfoldable pub assignment_check : Library → Declared → Scope → List Field → Path → Assignment → Judged ⊤
assignment_check library d scope fields path a = do
  k ← placed (item_at path 0) (reasoned no_such_field (kind_in fields a.field))
  kind_check library d scope k (item_at path 1) a.value

-- the assignments from an index on
abbrev pub assignments_findings : Library → Declared → Scope → List Field → Path → ℕ → List Assignment → List Finding
assignments_findings library d scope fields path i [] = []
assignments_findings library d scope fields path i (a ∷ pairs) =
    found (assignment_check library d scope fields (item_at path i) a) ++ assignments_findings library d scope fields path (suc i) pairs

abbrev pub update_findings : Library → Declared → Scope → Path → (class : ℕ) → Expression → List Assignment → List Finding
update_findings library d scope path class key pairs =
    found (kind_check library d scope integer_kind (item_at path 2) key)
    ++ assignments_findings library d scope (class_at library class).fields (item_at path 3) 0 pairs

-- each field is set
abbrev pub all_set : Path → List Field → List Assignment → Judged ⊤
all_set path fields pairs = if all_assigned fields pairs then Ok tt else refused path unset_field

abbrev pub create_findings : Library → Declared → Scope → Path → (class : ℕ) → Expression → List Assignment → List Finding
create_findings library d scope path class key pairs =
    update_findings library d scope path class key pairs ++ found (all_set (item_at path 3) (class_at library class).fields pairs)

-- the sort of the first argument that is left, and the others
abbrev pub next_demand : List Sort → Option Sort
next_demand [] = None
next_demand (s ∷ ss) = Some s

abbrev pub later_demands : List Sort → List Sort
later_demands [] = []
later_demands (s ∷ ss) = ss

unfoldable pub argument_check : Library → Declared → Scope → Option Sort → Path → Expression → Judged ⊤
argument_check library d scope demand path e = do
  s ← expression_check library d scope path e
  demanded demand path s

-- no argument is missing
abbrev pub none_missing : Path → List Sort → Judged ⊤
none_missing path [] = Ok tt
none_missing path (s ∷ ss) = refused path too_few_arguments

-- the arguments of a signal from an index on, of which the first have these sorts
abbrev pub arguments_findings : Library → Declared → Scope → Path → ℕ → List Sort → List Expression → List Finding
arguments_findings library d scope path i ss [] = found (none_missing path ss)
arguments_findings library d scope path i ss (e ∷ es) =
    found (argument_check library d scope (next_demand ss) (item_at (item_at path 2) i) e)
    ++ arguments_findings library d scope path (suc i) (later_demands ss) es

unfoldable pub emission_check : Library → Declared → Scope → Path → Expression → Judged ⊤
emission_check library d scope path e = do
  _ ← expression_check library d scope (item_at path 1) e
  Ok tt

unfoldable pub value_check : Library → Declared → Scope → Path → Aggregate → Judged ⊤
value_check library d scope path a = do
  _ ← aggregate_check library d scope path a
  Ok tt

-- a query has this class
abbrev pub query_known : Path → Option ℕ → Judged ⊤
query_known path None = refused path unknown_name
query_known path (Some class) = Ok tt

-- what a statement itself evaluates or names, where that is one thing and no test
abbrev pub single_check : Library → Declared → Scope → List (Name × ℕ) → Path → Statement → Judged ⊤
single_check library d scope queries path (delete class key) = kind_check library d scope integer_kind (item_at path 2) key
single_check library d scope queries path (emit e) = emission_check library d scope path e
single_check library d scope queries path (for_answer x body) = query_known (item_at path 1) (lookup (bytes_eq x) queries)
single_check library d scope queries path (with_object x class key body) = kind_check library d scope integer_kind (item_at path 3) key
single_check library d scope queries path (let_value x a body) = value_check library d scope (item_at path 2) a
single_check library d scope queries path (veto_with e) = emission_check library d scope path e
single_check library d scope queries path (fire n) = if is_fired d n then Ok tt else refused path not_fired
single_check library d scope queries path s = Ok tt

-- what a statement itself evaluates and names: all but the statements in it
abbrev pub own_findings : Library → Declared → Scope → List (Name × ℕ) → Path → Statement → List Finding
own_findings library d scope queries path (create class key pairs) = create_findings library d scope path class key pairs
own_findings library d scope queries path (update class key pairs) = update_findings library d scope path class key pairs
own_findings library d scope queries path (signal name arguments) = arguments_findings library d scope path 0 (signature_of d name) arguments
own_findings library d scope queries path (when e then_body else_body) = test_findings library d scope (item_at path 1) e
own_findings library d scope queries path (each x class predicate body) = test_findings library d (with_name x class scope) (item_at path 3) predicate
own_findings library d scope queries path s = found (single_check library d scope queries path s)

abbrev mutual
  -- the statements in a statement
  pub inner_findings : Library → Declared → Scope → List (Name × ℕ) → Path → Statement → List Finding
  inner_findings library d scope queries path (when e then_body else_body) =
      body_findings library d scope queries (item_at path 2) 0 then_body ++ body_findings library d scope queries (item_at path 3) 0 else_body
  inner_findings library d scope queries path (each x class predicate body) = body_findings library d (with_name x class scope) queries (item_at path 4) 0 body
  inner_findings library d scope queries path (for_answer x body) = body_findings library d (with_name x (unwrap_or (lookup (bytes_eq x) queries) 0) scope) queries (item_at path 2) 0 body
  inner_findings library d scope queries path (with_object x class key body) = body_findings library d (with_name x class scope) queries (item_at path 4) 0 body
  inner_findings library d scope queries path (subtransaction body otherwise) =
      body_findings library d scope queries (item_at path 1) 0 body ++ body_findings library d scope queries (item_at path 2) 0 otherwise
  inner_findings library d scope queries path (let_value x a body) =
      body_findings library d (with_sort x (unwrap_or (aggregate_sort library d scope a) any) scope) queries (item_at path 3) 0 body
  inner_findings library d scope queries path s = []

  -- the statements of a body from an index on, in the scope, and with these classes of the rule's queries
  pub body_findings : Library → Declared → Scope → List (Name × ℕ) → Path → ℕ → Body → List Finding
  body_findings library d scope queries path i empty = []
  body_findings library d scope queries path i (s then rest) =
      own_findings library d scope queries (item_at path i) s
      ++ (inner_findings library d scope queries (item_at path i) s ++ body_findings library d scope queries path (suc i) rest)

abbrev pub statement_findings : Library → Declared → Scope → List (Name × ℕ) → Path → Statement → List Finding
statement_findings library d scope queries path s = own_findings library d scope queries path s ++ inner_findings library d scope queries path s

-- ---- rules, libraries and units

-- where a rule's condition begins
abbrev pub first_scope : Columns → Scope
first_scope columns = record { columns = Some columns; rows = []; values = [] }

-- a query's predicate at a path
abbrev pub test_check : Library → Declared → Scope → Path → Query → Judged ⊤
test_check library d scope path q = kind_check library d (with_name q.name q.class scope) boolean_kind path q.predicate

abbrev pub query_findings : Library → Declared → Scope → Path → Query → List Finding
query_findings library d scope path q = test_findings library d (with_name q.name q.class scope) path q.predicate

abbrev pub entry_findings : Library → Declared → Scope → Path → Entry → List Finding
entry_findings library d scope path (query_entry q) = query_findings library d scope (item_at path 2) q
entry_findings library d scope path (no_entry q) = query_findings library d scope (item_at path 3) q
entry_findings library d scope path (let_entry x a) = found (value_check library d scope (item_at path 2) a)

-- the scope after an entry; the value of a refused aggregate has any sort
abbrev pub scope_then : Library → Declared → Scope → Entry → Scope
scope_then library d scope e = with_entries library d scope (e ∷ [])

-- the entries of a condition from an index on
abbrev pub entries_findings : Library → Declared → Path → Scope → ℕ → List Entry → List Finding
entries_findings library d path scope i [] = []
entries_findings library d path scope i (e ∷ es) =
    entry_findings library d scope (item_at path i) e ++ entries_findings library d path (scope_then library d scope e) (suc i) es

-- the condition and the action of a rule
abbrev pub parts_findings : Library → Declared → Columns → Path → Rule → List Finding
parts_findings library d columns path rule =
    entries_findings library d (item_at path 3) (first_scope columns) 0 rule.condition
    ++ body_findings library d (with_entries library d (first_scope columns) rule.condition) (query_classes rule.condition) (item_at path 5) 0 rule.action

abbrev pub rule_findings : Library → Declared → (fired : Bool) → Path → Rule → List Finding
rule_findings library d fired path rule = parts_findings library d (columns_by fired rule.event) path rule

-- the rules from a number on
abbrev pub rules_findings : Library → Declared → Path → ℕ → List Rule → List Finding
rules_findings library d path n [] = []
rules_findings library d path n (rule ∷ rules) = rule_findings library d (is_fired d n) (item_at path n) rule ++ rules_findings library d path (suc n) rules

abbrev pub rules_member : Name
rules_member = codes "rules"

-- by their paths in the script
abbrev pub library_findings : Library → Declared → List Finding
library_findings library d = rules_findings library d (under_root rules_member) 0 library.rules

-- by their paths in the body
abbrev pub unit_findings : Library → Declared → Unit → List Finding
unit_findings library d (transaction now body) = body_findings library d no_scope [] [] 0 body
unit_findings library d (moment t) = []
