-- The grammar of statements and bodies. For one value the order of checks is: its form, its level, and then its parts
-- from left to right.
use Rattle.std.specs.Prelude.{ℕ, zero, suc, Bool, true, false, not, ◌&&◌, nat_lt, List, [], ◌∷◌, length, map, codes, Option, None, option_and_then, Ok, Err, if◌then◌else◌}
use Rattle.std.specs.Option.{option_or}
use Rattle.serde_json.specs.Data.{Data}
use Rattle.hp_model.specs.Values.{Name, ◌>>=◌}
use Rattle.hp_model.specs.Expressions.{Expression}
use Rattle.hp_model.specs.Rules.{Assignment, RuleOperation, install, enable, disable, remove, Statement, create, update, delete, signal, emit, when, each, for_answer, with_object}
use Rattle.hp_model.specs.Rules.{subtransaction, let_value, abort, veto, veto_with, on_rule, fire, Body, empty, ◌then◌}
use Rattle.hp_model.specs.Refusals.{Path, item_at, wrong_shape, bad_name, nesting_limit, arguments_limit, over_limit, Decoded, shaped}
use Rattle.hp_model.specs.Json.{Form, form_of, pair_of, beside}
use Rattle.hp_model.specs.Parts.{contains_name, name_at, new_name_at, place_at, list_at, short_list_at, read_each}
use Rattle.hp_model.specs.Scopes.{class_names, Scope, fields_of, is_known, Version, is_fourth, Setting, row_setting, value_setting, new_row_at}
use Rattle.hp_model.specs.ExpressionGrammar.{expression_at}
use Rattle.hp_model.specs.AggregateGrammar.{aggregate_at}

-- ---- assignments: pairs of a field and the expression that it is set to

abbrev pub assigned_names : List Assignment → List Name
assigned_names pairs = map (λ (a : Assignment). a.field) pairs

-- a field of the class that no earlier assignment names
unfoldable pub assigned_field_at : (fields assigned : List Name) → Path → Data → Decoded Name
assigned_field_at fields assigned path d = do
  x ← new_name_at assigned path d
  if contains_name fields x then Ok x else Err (bad_name path)

unfoldable pub assignment_at : (fields : List Name) → Setting → List Assignment → Path → Data → Decoded Assignment
assignment_at fields setting before path d = do
  pair ← shaped path (pair_of d)
  field ← assigned_field_at fields (assigned_names before) (item_at path 0) pair.0
  value ← expression_at setting (item_at path 1) pair.1
  Ok (record { field = field; value = value })

-- the assignments of an `update`: some of the fields, each at most once
unfoldable pub assignments_at : (fields : List Name) → Setting → Path → Data → Decoded (List Assignment)
assignments_at fields setting path d = do
  ds ← list_at path d
  read_each (assignment_at fields setting) path ds

-- the assignments of a `create`: each of the fields
unfoldable pub all_assignments_at : (fields : List Name) → Setting → Path → Data → Decoded (List Assignment)
all_assignments_at fields setting path d = do
  pairs ← assignments_at fields setting path d
  if nat_lt (length pairs) (length fields) then Err (bad_name path) else Ok pairs

-- ---- the forms

-- a statement whose parts are still JSON
pub data StatementForm : Type 0 where
  create_form update_form : (class key pairs : Data) → StatementForm
  delete_form : (class key : Data) → StatementForm
  signal_form : (name arguments : Data) → StatementForm
  emit_form : (value : Data) → StatementForm
  if_form : (test then_body else_body : Data) → StatementForm
  each_form : (variable class predicate body : Data) → StatementForm
  for_form : (query body : Data) → StatementForm
  with_form : (variable class key body : Data) → StatementForm
  sub_form : (body otherwise : Data) → StatementForm
  abort_form veto_form : StatementForm
  let_form : (name aggregate body : Data) → StatementForm
  veto_with_form : (message : Data) → StatementForm
  rule_form : RuleOperation → (rule : Data) → StatementForm
  fire_form : (rule : Data) → StatementForm

abbrev pub statement_form_of_none : List ℕ → Option StatementForm
statement_form_of_none word = beside word ((codes "abort", abort_form) ∷ (codes "veto", veto_form) ∷ [])

abbrev pub statement_form_of_one : List ℕ → Data → Option StatementForm
statement_form_of_one word a = beside word
    ((codes "emit", emit_form a) ∷ (codes "install", rule_form install a) ∷ (codes "enable", rule_form enable a)
    ∷ (codes "disable", rule_form disable a) ∷ (codes "remove", rule_form remove a) ∷ (codes "fire", fire_form a) ∷ [])

abbrev pub statement_form_of_two : List ℕ → Data → Data → Option StatementForm
statement_form_of_two word a b = beside word
    ((codes "delete", delete_form a b) ∷ (codes "signal", signal_form a b) ∷ (codes "for", for_form a b) ∷ (codes "sub", sub_form a b) ∷ [])

abbrev pub statement_form_of_three : List ℕ → Data → Data → Data → Option StatementForm
statement_form_of_three word a b c = beside word
    ((codes "create", create_form a b c) ∷ (codes "update", update_form a b c) ∷ (codes "if", if_form a b c) ∷ [])

abbrev pub statement_form_of_four : List ℕ → Data → Data → Data → Data → Option StatementForm
statement_form_of_four word a b c d = beside word ((codes "each", each_form a b c d) ∷ (codes "with", with_form a b c d) ∷ [])

-- the forms of all versions
abbrev pub common_statement_form : List ℕ → List Data → Option StatementForm
common_statement_form word [] = statement_form_of_none word
common_statement_form word (a ∷ []) = statement_form_of_one word a
common_statement_form word (a ∷ b ∷ []) = statement_form_of_two word a b
common_statement_form word (a ∷ b ∷ c ∷ []) = statement_form_of_three word a b c
common_statement_form word (a ∷ b ∷ c ∷ d ∷ []) = statement_form_of_four word a b c d
common_statement_form word parts = None

-- the forms of version 4 alone
abbrev pub new_statement_form : List ℕ → List Data → Option StatementForm
new_statement_form word (a ∷ []) = beside word ((codes "veto", veto_with_form a) ∷ [])
new_statement_form word (a ∷ b ∷ c ∷ []) = beside word ((codes "let", let_form a b c) ∷ [])
new_statement_form word parts = None

abbrev pub statement_form : Version → List ℕ → List Data → Option StatementForm
statement_form version word parts = option_or (common_statement_form word parts) (if is_fourth version then new_statement_form word parts else None)

abbrev pub is_veto : StatementForm → Bool
is_veto veto_form = true
is_veto (veto_with_form message) = true
is_veto form = false

-- a veto is allowed in a rule's action only
abbrev pub allowed : Scope → Path → StatementForm → Decoded StatementForm
allowed scope path form = if is_veto form && not scope.in_action then Err (wrong_shape path) else Ok form

unfoldable pub statement_form_at : Version → Scope → Path → Data → Decoded StatementForm
statement_form_at version scope path d = do
  form ← shaped path (option_and_then (λ (f : Form). statement_form version f.word f.parts) (form_of d))
  allowed scope path form

-- ---- statements without inner statements

unfoldable pub create_at : Scope → Setting → Path → Data → Data → Data → Decoded Statement
create_at scope setting path class key pairs = do
  n ← place_at (class_names scope.classes) (item_at path 1) class
  k ← expression_at setting (item_at path 2) key
  ps ← all_assignments_at (fields_of scope n) setting (item_at path 3) pairs
  Ok (create n k ps)

unfoldable pub update_at : Scope → Setting → Path → Data → Data → Data → Decoded Statement
update_at scope setting path class key pairs = do
  n ← place_at (class_names scope.classes) (item_at path 1) class
  k ← expression_at setting (item_at path 2) key
  ps ← assignments_at (fields_of scope n) setting (item_at path 3) pairs
  Ok (update n k ps)

unfoldable pub delete_at : Scope → Setting → Path → Data → Data → Decoded Statement
delete_at scope setting path class key = do
  n ← place_at (class_names scope.classes) (item_at path 1) class
  k ← expression_at setting (item_at path 2) key
  Ok (delete n k)

-- at most 32 arguments
unfoldable pub arguments_at : Setting → Path → Data → Decoded (List Expression)
arguments_at setting path d = do
  ds ← short_list_at 32 arguments_limit path d
  read_each (λ _. expression_at setting) path ds

unfoldable pub signal_at : Setting → Path → Data → Data → Decoded Statement
signal_at setting path name arguments = do
  x ← name_at (item_at path 1) name
  es ← arguments_at setting (item_at path 2) arguments
  Ok (signal x es)

unfoldable pub emit_at : Setting → Path → Data → Decoded Statement
emit_at setting path value = do
  e ← expression_at setting (item_at path 1) value
  Ok (emit e)

unfoldable pub veto_with_at : Setting → Path → Data → Decoded Statement
veto_with_at setting path message = do
  e ← expression_at setting (item_at path 1) message
  Ok (veto_with e)

unfoldable pub on_rule_at : Scope → RuleOperation → Path → Data → Decoded Statement
on_rule_at scope op path rule = do
  n ← place_at scope.rules (item_at path 1) rule
  Ok (on_rule op n)

unfoldable pub fire_at : Scope → Path → Data → Decoded Statement
fire_at scope path rule = do
  n ← place_at scope.rules (item_at path 1) rule
  Ok (fire n)

-- ---- bodies

-- the reader of a statement, in this setting
abbrev pub Reading : Type 0
Reading = Setting → Path → Data → Decoded Statement

abbrev pub body_of : List Statement → Body
body_of [] = empty
body_of (s ∷ ss) = s then body_of ss

-- the statements of a body, each read by `statement`
unfoldable pub statements_by : Reading → Setting → Path → Data → Decoded (List Statement)
statements_by statement setting path d = do
  ds ← list_at path d
  read_each (λ _. statement setting) path ds

-- ---- statements with inner statements, which `statement` reads

unfoldable pub if_at : Reading → Setting → Path → Data → Data → Data → Decoded Statement
if_at statement setting path test then_body else_body = do
  e ← expression_at setting (item_at path 1) test
  b ← statements_by statement setting (item_at path 2) then_body
  c ← statements_by statement setting (item_at path 3) else_body
  Ok (when e (body_of b) (body_of c))

-- the predicate and the body may use the variable
unfoldable pub each_at : Scope → Reading → Setting → Path → Data → Data → Data → Data → Decoded Statement
each_at scope statement setting path variable class predicate body = do
  x ← new_row_at setting.names (item_at path 1) variable
  n ← place_at (class_names scope.classes) (item_at path 2) class
  e ← expression_at (row_setting x setting) (item_at path 3) predicate
  b ← statements_by statement (row_setting x setting) (item_at path 4) body
  Ok (each x n e (body_of b))

-- one of the rule's queries
unfoldable pub query_at : Scope → Path → Data → Decoded Name
query_at scope path d = do
  x ← name_at path d
  if is_known scope.queries x then Ok x else Err (bad_name path)

unfoldable pub for_at : Scope → Reading → Setting → Path → Data → Data → Decoded Statement
for_at scope statement setting path query body = do
  x ← query_at scope (item_at path 1) query
  b ← statements_by statement setting (item_at path 2) body
  Ok (for_answer x (body_of b))

-- the body may use the variable
unfoldable pub with_at : Scope → Reading → Setting → Path → Data → Data → Data → Data → Decoded Statement
with_at scope statement setting path variable class key body = do
  x ← new_row_at setting.names (item_at path 1) variable
  n ← place_at (class_names scope.classes) (item_at path 2) class
  k ← expression_at setting (item_at path 3) key
  b ← statements_by statement (row_setting x setting) (item_at path 4) body
  Ok (with_object x n k (body_of b))

unfoldable pub sub_at : Reading → Setting → Path → Data → Data → Decoded Statement
sub_at statement setting path body otherwise = do
  b ← statements_by statement setting (item_at path 1) body
  c ← statements_by statement setting (item_at path 2) otherwise
  Ok (subtransaction (body_of b) (body_of c))

-- the body may use the value
unfoldable pub let_value_at : Scope → Reading → Setting → Path → Data → Data → Data → Decoded Statement
let_value_at scope statement setting path name aggregate body = do
  x ← new_row_at setting.names (item_at path 1) name
  a ← aggregate_at (class_names scope.classes) setting (item_at path 2) aggregate
  b ← statements_by statement (value_setting x setting) (item_at path 3) body
  Ok (let_value x a (body_of b))

-- ---- all statements

-- the statement of a form
abbrev pub statement_from : Scope → Reading → Setting → Path → StatementForm → Decoded Statement
statement_from scope statement setting path (create_form class key pairs) = create_at scope setting path class key pairs
statement_from scope statement setting path (update_form class key pairs) = update_at scope setting path class key pairs
statement_from scope statement setting path (delete_form class key) = delete_at scope setting path class key
statement_from scope statement setting path (signal_form name arguments) = signal_at setting path name arguments
statement_from scope statement setting path (emit_form value) = emit_at setting path value
statement_from scope statement setting path (if_form test then_body else_body) = if_at statement setting path test then_body else_body
statement_from scope statement setting path (each_form variable class predicate body) = each_at scope statement setting path variable class predicate body
statement_from scope statement setting path (for_form query body) = for_at scope statement setting path query body
statement_from scope statement setting path (with_form variable class key body) = with_at scope statement setting path variable class key body
statement_from scope statement setting path (sub_form body otherwise) = sub_at statement setting path body otherwise
statement_from scope statement setting path (let_form name aggregate body) = let_value_at scope statement setting path name aggregate body
statement_from scope statement setting path abort_form = Ok abort
statement_from scope statement setting path veto_form = Ok veto
statement_from scope statement setting path (veto_with_form message) = veto_with_at setting path message
statement_from scope statement setting path (rule_form op rule) = on_rule_at scope op path rule
statement_from scope statement setting path (fire_form rule) = fire_at scope path rule

-- a statement of at most this number of levels
unfoldable pub statement_within : Scope → ℕ → Reading
statement_within scope zero setting path d = statement_form_at setting.version scope path d >>= λ form. Err (over_limit nesting_limit)
statement_within scope (suc levels) setting path d = statement_form_at setting.version scope path d >>= λ form. statement_from scope (statement_within scope levels) setting path form

-- the statements of a rule's action, or of a body of the script
abbrev pub statements_at : Scope → Setting → Path → Data → Decoded (List Statement)
statements_at scope setting path d = statements_by (statement_within scope 16) setting path d
