-- Well-formed libraries and bodies. Each check passes, or gives the first fault, in the order in which a script's parts
-- are checked. For one part the order is: its form, its limits, its name, and then its own parts.
use Rattle.std.specs.Prelude.{ℕ, zero, suc, ◌==◌, nat_lt, Bool, true, false, not, ◌&&◌, ◌||◌, List, [], ◌∷◌, ◌++◌, length, map, codes, ⊤, Ok, Err, bytes_eq, if◌then◌else◌}
use Rattle.std.specs.List.{slice_index_or, list_any}
use Rattle.hp_model.specs.Values.{Name, Value, text, Field, ClassDef, ◌>>=◌}
use Rattle.hp_model.specs.Expressions.{Expression, constant, arithmetic, negated, inverted, both, either, compared, field_of, key_of, new_field, old_field, value_named}
use Rattle.hp_model.specs.Events.{Pattern, on_create, on_update, on_delete, on_signal, every_moment, Event, pattern_event, or_event, seq_event, closure_event}
use Rattle.hp_model.specs.Rules.{Query, Aggregate, count_over, sum_over, least_over, greatest_over, next_key, single, Entry, query_entry, no_entry, let_entry, Assignment}
use Rattle.hp_model.specs.Rules.{Statement, create, update, delete, signal, emit, when, each, for_answer, with_object, subtransaction, let_value, veto, veto_with, on_rule, fire}
use Rattle.hp_model.specs.Rules.{Body, empty, ◌then◌, Rule, Library, no_class}
use Rattle.hp_model.specs.Refusals.{Path, under_root, item_at, Limit, classes_limit, fields_limit, rules_limit, expression_limit, event_limit, nesting_limit, text_limit}
use Rattle.hp_model.specs.Refusals.{depth_limit_word, arguments_limit, wrong_shape, bad_name, over_limit, Decoded}
use Rattle.hp_model.specs.Parts.{is_name}
pub use Rattle.hp_model.specs.Scopes.{class_names, field_names, query_names, Names, taken, no_names, knowing_row, knowing_value, names_of}
pub use Rattle.hp_model.specs.StatementGrammar.{assigned_names}

-- the result of a check: it passes, or gives the first fault
abbrev pub Checked : Type 0
Checked = Decoded ⊤

-- ---- names, numbers and limits

abbrev pub is_known : List Name → Name → Bool
is_known names x = list_any (λ n. bytes_eq n x) names

-- a name is spelled as a name
abbrev pub name_check : Path → Name → Checked
name_check path x = if is_name x then Ok tt else Err (wrong_shape path)

-- the same, and the name isn't refused
unfoldable pub name_unless : (refused : Bool) → Path → Name → Checked
name_unless refused path x = do
  _ ← name_check path x
  if refused then Err (bad_name path) else Ok tt

-- the same, and it is none of these
abbrev pub new_name_check : List Name → Path → Name → Checked
new_name_check names path x = name_unless (is_known names x) path x

-- the same, and it is one of these
abbrev pub known_name_check : List Name → Path → Name → Checked
known_name_check names path x = name_unless (not (is_known names x)) path x

-- the number of a class or a rule is below their count
abbrev pub number_check : (count : ℕ) → Path → ℕ → Checked
number_check count path n = if nat_lt n count then Ok tt else Err (bad_name path)

abbrev pub limit_check : (most : ℕ) → Limit → ℕ → Checked
limit_check most limit n = if nat_lt most n then Err (over_limit limit) else Ok tt

-- the items of a list from an index, each checked with the items before it
abbrev pub each_check : {A : Type 0} → (List A → Path → A → Checked) → Path → List A → ℕ → List A → Checked
each_check check path before i [] = Ok tt
each_check check path before i (x ∷ xs) = check before (item_at path i) x >>= λ _. each_check check path (before ++ x ∷ []) (suc i) xs

-- ---- expressions with these names

abbrev pub constant_check : Value → Checked
constant_check (text s) = limit_check 1024 text_limit (length s)
constant_check v = Ok tt

unfoldable pub field_check : Names → Path → (x field : Name) → Checked
field_check names path x f = do
  _ ← known_name_check names.rows (item_at path 1) x
  name_check (item_at path 2) f

-- two operands, each checked by `part`
unfoldable pub operands_check : {A : Type 0} → (part : Path → A → Checked) → Path → (left right : A) → Checked
operands_check part path a b = do
  _ ← part (item_at path 1) a
  part (item_at path 2) b

abbrev pub expression_parts_check : (part : Path → Expression → Checked) → Names → Path → Expression → Checked
expression_parts_check part names path (constant v) = constant_check v
expression_parts_check part names path (arithmetic op a b) = operands_check part path a b
expression_parts_check part names path (negated a) = part (item_at path 1) a
expression_parts_check part names path (inverted a) = part (item_at path 1) a
expression_parts_check part names path (both a b) = operands_check part path a b
expression_parts_check part names path (either a b) = operands_check part path a b
expression_parts_check part names path (compared op a b) = operands_check part path a b
expression_parts_check part names path (field_of x f) = field_check names path x f
expression_parts_check part names path (key_of x) = known_name_check names.rows (item_at path 1) x
expression_parts_check part names path (new_field i f) = name_check (item_at path 2) f
expression_parts_check part names path (old_field i f) = name_check (item_at path 2) f
expression_parts_check part names path (value_named x) = known_name_check names.values (item_at path 1) x
expression_parts_check part names path e = Ok tt

-- an expression of at most this number of levels
unfoldable pub expression_check : Names → (levels : ℕ) → Path → Expression → Checked
expression_check names zero path e = Err (over_limit expression_limit)
expression_check names (suc levels) path e = expression_parts_check (expression_check names levels) names path e

abbrev pub whole_expression_check : Names → Path → Expression → Checked
whole_expression_check names path e = expression_check names 16 path e

-- ---- events over this number of classes

abbrev pub pattern_check : (classes : ℕ) → Path → Pattern → Checked
pattern_check classes path (on_create c) = number_check classes (item_at path 1) c
pattern_check classes path (on_update c) = number_check classes (item_at path 1) c
pattern_check classes path (on_delete c) = number_check classes (item_at path 1) c
pattern_check classes path (on_signal x) = name_check (item_at path 1) x
pattern_check classes path (every_moment first period) = if period == 0 then Err (wrong_shape (item_at path 2)) else Ok tt
pattern_check classes path pattern = Ok tt

abbrev pub event_parts_check : (part : Path → Event → Checked) → (classes : ℕ) → Path → Event → Checked
event_parts_check part classes path (pattern_event pattern) = pattern_check classes path pattern
event_parts_check part classes path (or_event a b) = operands_check part path a b
event_parts_check part classes path (seq_event a b) = operands_check part path a b
event_parts_check part classes path (closure_event a t) = operands_check part path a t

-- an event of at most this number of levels
unfoldable pub event_check : (classes levels : ℕ) → Path → Event → Checked
event_check classes zero path e = Err (over_limit event_limit)
event_check classes (suc levels) path e = event_parts_check (event_check classes levels) classes path e

-- ---- statements

-- what a body may name besides rows and values, and whether it is an action; an action may use its rule's queries
pub record Scope : Type 0 where
  pub classes : List ClassDef
  pub rules : ℕ
  pub in_action : Bool
  pub queries : List Name

-- ---- aggregates over this number of classes

unfoldable pub over_check : (classes : ℕ) → Names → Path → (variable : Name) → (class : ℕ) → (predicate : Expression) → Checked
over_check classes names path x class predicate = do
  _ ← new_name_check (taken names) (item_at path 1) x
  _ ← number_check classes (item_at path 2) class
  whole_expression_check (knowing_row x names) (item_at path 3) predicate

unfoldable pub terms_check : (classes : ℕ) → Names → Path → (variable : Name) → (class : ℕ) → (predicate term : Expression) → Checked
terms_check classes names path x class predicate term = do
  _ ← over_check classes names path x class predicate
  whole_expression_check (knowing_row x names) (item_at path 4) term

abbrev pub aggregate_check : (classes : ℕ) → Names → Path → Aggregate → Checked
aggregate_check classes names path (count_over x class predicate) = over_check classes names path x class predicate
aggregate_check classes names path (sum_over x class predicate term) = terms_check classes names path x class predicate term
aggregate_check classes names path (least_over x class predicate term) = terms_check classes names path x class predicate term
aggregate_check classes names path (greatest_over x class predicate term) = terms_check classes names path x class predicate term
aggregate_check classes names path (next_key class) = number_check classes (item_at path 1) class
aggregate_check classes names path (single e) = whole_expression_check names path e

-- the fields of a class
abbrev pub fields_of : Scope → (class : ℕ) → List Field
fields_of scope class = (slice_index_or scope.classes class no_class).fields

abbrev pub class_check : Scope → Path → ℕ → Checked
class_check scope path class = number_check (length scope.classes) path class

-- a field of the class that no earlier assignment sets
unfoldable pub assigned_check : (fields assigned : List Name) → Path → Name → Checked
assigned_check fields assigned path x = do
  _ ← new_name_check assigned path x
  if is_known fields x then Ok tt else Err (bad_name path)

unfoldable pub assignment_check : List Field → Names → List Assignment → Path → Assignment → Checked
assignment_check fields names before path a = do
  _ ← assigned_check (field_names fields) (assigned_names before) (item_at path 0) a.field
  whole_expression_check names (item_at path 1) a.value

abbrev pub assignments_check : List Field → Names → Path → List Assignment → Checked
assignments_check fields names path pairs = each_check (assignment_check fields names) path [] 0 pairs

unfoldable pub create_check : Scope → Names → Path → (class : ℕ) → Expression → List Assignment → Checked
create_check scope names path class key pairs = do
  _ ← class_check scope (item_at path 1) class
  _ ← whole_expression_check names (item_at path 2) key
  _ ← assignments_check (fields_of scope class) names (item_at path 3) pairs
  if nat_lt (length pairs) (length (fields_of scope class)) then Err (bad_name (item_at path 3)) else Ok tt

unfoldable pub update_check : Scope → Names → Path → (class : ℕ) → Expression → List Assignment → Checked
update_check scope names path class key pairs = do
  _ ← class_check scope (item_at path 1) class
  _ ← whole_expression_check names (item_at path 2) key
  assignments_check (fields_of scope class) names (item_at path 3) pairs

unfoldable pub delete_check : Scope → Names → Path → (class : ℕ) → Expression → Checked
delete_check scope names path class key = do
  _ ← class_check scope (item_at path 1) class
  whole_expression_check names (item_at path 2) key

unfoldable pub arguments_check : Names → Path → List Expression → Checked
arguments_check names path arguments = do
  _ ← limit_check 32 arguments_limit (length arguments)
  each_check (λ _. whole_expression_check names) path [] 0 arguments

unfoldable pub signal_check : Names → Path → Name → List Expression → Checked
signal_check names path x arguments = do
  _ ← name_check (item_at path 1) x
  arguments_check names (item_at path 2) arguments

-- the check of a statement at a path, with these names in scope
abbrev pub StatementCheck : Type 0
StatementCheck = Names → Path → Statement → Checked

-- the statements of a body from an index
abbrev pub statements_check : StatementCheck → Names → Path → ℕ → Body → Checked
statements_check check names path i empty = Ok tt
statements_check check names path i (s then rest) = check names (item_at path i) s >>= λ _. statements_check check names path (suc i) rest

abbrev pub body_check : StatementCheck → Names → Path → Body → Checked
body_check check names path body = statements_check check names path 0 body

unfoldable pub when_check : StatementCheck → Names → Path → Expression → (then_body else_body : Body) → Checked
when_check check names path e then_body else_body = do
  _ ← whole_expression_check names (item_at path 1) e
  _ ← body_check check names (item_at path 2) then_body
  body_check check names (item_at path 3) else_body

unfoldable pub each_row_check : Scope → StatementCheck → Names → Path → (variable : Name) → (class : ℕ) → Expression → Body → Checked
each_row_check scope check names path x class predicate body = do
  _ ← new_name_check (taken names) (item_at path 1) x
  _ ← class_check scope (item_at path 2) class
  _ ← whole_expression_check (knowing_row x names) (item_at path 3) predicate
  body_check check (knowing_row x names) (item_at path 4) body

unfoldable pub for_answer_check : Scope → StatementCheck → Names → Path → (query : Name) → Body → Checked
for_answer_check scope check names path x body = do
  _ ← known_name_check scope.queries (item_at path 1) x
  body_check check names (item_at path 2) body

unfoldable pub with_object_check : Scope → StatementCheck → Names → Path → (variable : Name) → (class : ℕ) → Expression → Body → Checked
with_object_check scope check names path x class key body = do
  _ ← new_name_check (taken names) (item_at path 1) x
  _ ← class_check scope (item_at path 2) class
  _ ← whole_expression_check names (item_at path 3) key
  body_check check (knowing_row x names) (item_at path 4) body

unfoldable pub subtransaction_check : StatementCheck → Names → Path → (body otherwise : Body) → Checked
subtransaction_check check names path body otherwise = do
  _ ← body_check check names (item_at path 1) body
  body_check check names (item_at path 2) otherwise

unfoldable pub let_value_check : Scope → StatementCheck → Names → Path → Name → Aggregate → Body → Checked
let_value_check scope check names path x a body = do
  _ ← new_name_check (taken names) (item_at path 1) x
  _ ← aggregate_check (length scope.classes) names (item_at path 2) a
  body_check check (knowing_value x names) (item_at path 3) body

abbrev pub is_veto : Statement → Bool
is_veto veto = true
is_veto (veto_with e) = true
is_veto s = false

-- a veto stands in an action
abbrev pub veto_check : Scope → Path → Statement → Checked
veto_check scope path s = if is_veto s && not scope.in_action then Err (wrong_shape path) else Ok tt

-- the parts of a statement, with the statements in it checked by `check`
abbrev pub statement_parts_check : Scope → StatementCheck → Names → Path → Statement → Checked
statement_parts_check scope check names path (create class key pairs) = create_check scope names path class key pairs
statement_parts_check scope check names path (update class key pairs) = update_check scope names path class key pairs
statement_parts_check scope check names path (delete class key) = delete_check scope names path class key
statement_parts_check scope check names path (signal x arguments) = signal_check names path x arguments
statement_parts_check scope check names path (emit e) = whole_expression_check names (item_at path 1) e
statement_parts_check scope check names path (when e then_body else_body) = when_check check names path e then_body else_body
statement_parts_check scope check names path (each x class predicate body) = each_row_check scope check names path x class predicate body
statement_parts_check scope check names path (for_answer x body) = for_answer_check scope check names path x body
statement_parts_check scope check names path (with_object x class key body) = with_object_check scope check names path x class key body
statement_parts_check scope check names path (subtransaction body otherwise) = subtransaction_check check names path body otherwise
statement_parts_check scope check names path (let_value x a body) = let_value_check scope check names path x a body
statement_parts_check scope check names path (veto_with e) = whole_expression_check names (item_at path 1) e
statement_parts_check scope check names path (on_rule op n) = number_check scope.rules (item_at path 1) n
statement_parts_check scope check names path (fire n) = number_check scope.rules (item_at path 1) n
statement_parts_check scope check names path s = Ok tt

-- a statement of at most this number of levels
unfoldable pub statement_check : Scope → (levels : ℕ) → StatementCheck
statement_check scope zero names path s = veto_check scope path s >>= λ _. Err (over_limit nesting_limit)
statement_check scope (suc levels) names path s = veto_check scope path s >>= λ _. statement_parts_check scope (statement_check scope levels) names path s

abbrev pub whole_body_check : Scope → Names → Path → Body → Checked
whole_body_check scope names path body = body_check (statement_check scope 16) names path body

-- ---- classes

unfoldable pub field_definition_check : List Field → Path → Field → Checked
field_definition_check before path f = new_name_check (field_names before) (item_at path 0) f.name

unfoldable pub fields_check : Path → List Field → Checked
fields_check path fields = do
  _ ← limit_check 32 fields_limit (length fields)
  each_check field_definition_check path [] 0 fields

unfoldable pub class_definition_check : List ClassDef → Path → ClassDef → Checked
class_definition_check before path c = do
  _ ← new_name_check (class_names before) (item_at path 0) c.name
  fields_check (item_at path 1) c.fields

unfoldable pub classes_check : Path → List ClassDef → Checked
classes_check path classes = do
  _ ← limit_check 64 classes_limit (length classes)
  each_check class_definition_check path [] 0 classes

-- ---- rules

abbrev pub rule_names : List Rule → List Name
rule_names rules = map (λ (r : Rule). r.name) rules

-- the names of all rules are checked before the other parts of rules
unfoldable pub head_check : List Rule → Path → Rule → Checked
head_check before path r = new_name_check (rule_names before) (item_at path 0) r.name

unfoldable pub heads_check : Path → List Rule → Checked
heads_check path rules = do
  _ ← limit_check 256 rules_limit (length rules)
  each_check head_check path [] 0 rules

-- a query with its name, class and predicate at these paths; the predicate may name what the earlier entries do, and its
-- own row
unfoldable pub query_check : (classes : ℕ) → Names → (first second third : Path) → Query → Checked
query_check classes names first second third q = do
  _ ← new_name_check (taken names) first q.name
  _ ← number_check classes second q.class
  whole_expression_check (knowing_row q.name names) third q.predicate

unfoldable pub let_entry_check : (classes : ℕ) → Names → Path → Name → Aggregate → Checked
let_entry_check classes names path x a = do
  _ ← new_name_check (taken names) (item_at path 1) x
  aggregate_check classes names (item_at path 2) a

abbrev pub entry_check : (classes : ℕ) → List Entry → Path → Entry → Checked
entry_check classes before path (query_entry q) = query_check classes (names_of before) (item_at path 0) (item_at path 1) (item_at path 2) q
entry_check classes before path (no_entry q) = query_check classes (names_of before) (item_at path 1) (item_at path 2) (item_at path 3) q
entry_check classes before path (let_entry x a) = let_entry_check classes (names_of before) path x a

abbrev pub condition_check : (classes : ℕ) → Path → List Entry → Checked
condition_check classes path entries = each_check (entry_check classes) path [] 0 entries

-- what the action of a rule with this condition may name besides rows and values
abbrev pub action_scope : List ClassDef → (rules : ℕ) → List Entry → Scope
action_scope classes rules condition = record { classes = classes; rules = rules; in_action = true; queries = query_names condition }

unfoldable pub rule_check : List ClassDef → (rules : ℕ) → Path → Rule → Checked
rule_check classes rules path r = do
  _ ← event_check (length classes) 16 (item_at path 1) r.event
  _ ← condition_check (length classes) (item_at path 3) r.condition
  whole_body_check (action_scope classes rules r.condition) (names_of r.condition) (item_at path 5) r.action

abbrev pub rules_check : List ClassDef → (rules : ℕ) → Path → List Rule → Checked
rules_check classes count path rules = each_check (λ _. rule_check classes count) path [] 0 rules

-- ---- libraries and bodies of scripts

abbrev pub depth_check : ℕ → Checked
depth_check depth = if depth == 0 || nat_lt 16 depth then Err (over_limit depth_limit_word) else Ok tt

-- a library with this depth limit. The order of faults is: the depth, the classes, the names of the rules, and then the
-- other parts of each rule
unfoldable pub library_check : Library → Checked
library_check library = do
  _ ← depth_check library.depth_limit
  _ ← classes_check (under_root (codes "classes")) library.classes
  _ ← heads_check (under_root (codes "rules")) library.rules
  rules_check library.classes (length library.rules) (under_root (codes "rules")) library.rules

-- what the body of a script may name
abbrev pub script_scope : Library → Scope
script_scope library = record { classes = library.classes; rules = length library.rules; in_action = false; queries = [] }

-- the body of a script at a path
abbrev pub script_body_check : Library → Path → Body → Checked
script_body_check library path body = whole_body_check (script_scope library) no_names path body

-- ---- checked values

abbrev pub checked_library : Library → Decoded Library
checked_library library = library_check library >>= λ _. Ok library

-- the body of a script, with paths from the body
abbrev pub checked_body : Library → Body → Decoded Body
checked_body library body = script_body_check library [] body >>= λ _. Ok body
