-- What it means that each name in a library or a body is defined: the property that a check establishes.
use Rattle.std.specs.Prelude.{ℕ, nat_lt, Bool, true, IsTrue, ◌&&◌, List, [], ◌∷◌, ◌++◌, length, bytes_eq}
use Rattle.std.specs.List.{list_all, IsDistinct}
use Rattle.hp_model.specs.Values.{Name, ClassDef}
use Rattle.hp_model.specs.Expressions.{Expression, arithmetic, negated, inverted, both, either, compared, field_of, key_of, value_named}
use Rattle.hp_model.specs.Events.{Pattern, on_create, on_update, on_delete, Event, pattern_event, or_event, seq_event, closure_event}
use Rattle.hp_model.specs.Rules.{Query, Aggregate, count_over, sum_over, least_over, greatest_over, next_key, single, Entry, query_entry, no_entry, let_entry}
use Rattle.hp_model.specs.Rules.{Assignment, Statement, create, update, delete, signal, emit, when, each, for_answer, with_object, subtransaction, let_value, veto, veto_with, on_rule, fire}
use Rattle.hp_model.specs.Rules.{Body, empty, ◌then◌, Rule, Library}
use Rattle.hp_model.specs.Checked.{is_known, Scope, class_names, field_names, fields_of, rule_names, Names, no_names, knowing_row, knowing_value, names_of, action_scope, script_scope}

-- each row and each value that the expression names is one of these
abbrev pub knows_expression : Names → Expression → Bool
knows_expression names (arithmetic op a b) = knows_expression names a && knows_expression names b
knows_expression names (negated a) = knows_expression names a
knows_expression names (inverted a) = knows_expression names a
knows_expression names (both a b) = knows_expression names a && knows_expression names b
knows_expression names (either a b) = knows_expression names a && knows_expression names b
knows_expression names (compared op a b) = knows_expression names a && knows_expression names b
knows_expression names (field_of x f) = is_known names.rows x
knows_expression names (key_of x) = is_known names.rows x
knows_expression names (value_named x) = is_known names.values x
knows_expression names e = true

-- the class of the pattern is one of this number of classes
abbrev pub knows_pattern : (classes : ℕ) → Pattern → Bool
knows_pattern classes (on_create c) = nat_lt c classes
knows_pattern classes (on_update c) = nat_lt c classes
knows_pattern classes (on_delete c) = nat_lt c classes
knows_pattern classes pattern = true

abbrev pub knows_event : (classes : ℕ) → Event → Bool
knows_event classes (pattern_event pattern) = knows_pattern classes pattern
knows_event classes (or_event a b) = knows_event classes a && knows_event classes b
knows_event classes (seq_event a b) = knows_event classes a && knows_event classes b
knows_event classes (closure_event a t) = knows_event classes a && knows_event classes t

abbrev pub knows_class : Scope → ℕ → Bool
knows_class scope class = nat_lt class (length scope.classes)

abbrev pub knows_assignment : List Name → Names → Assignment → Bool
knows_assignment fields names a = is_known fields a.field && knows_expression names a.value

-- these assignments set a row of the class, under its key
abbrev pub knows_row : Scope → Names → ℕ → Expression → List Assignment → Bool
knows_row scope names class key pairs =
    knows_class scope class && (knows_expression names key && list_all (λ a. knows_assignment (field_names (fields_of scope class)) names a) pairs)

-- the class is one of this number, and the predicate names its variable and these
abbrev pub knows_over : (classes : ℕ) → Names → (variable : Name) → (class : ℕ) → (predicate : Expression) → Bool
knows_over classes names x class predicate = nat_lt class classes && knows_expression (knowing_row x names) predicate

abbrev pub knows_terms : (classes : ℕ) → Names → (variable : Name) → (class : ℕ) → (predicate term : Expression) → Bool
knows_terms classes names x class predicate term = knows_over classes names x class predicate && knows_expression (knowing_row x names) term

abbrev pub knows_aggregate : (classes : ℕ) → Names → Aggregate → Bool
knows_aggregate classes names (count_over x class predicate) = knows_over classes names x class predicate
knows_aggregate classes names (sum_over x class predicate term) = knows_terms classes names x class predicate term
knows_aggregate classes names (least_over x class predicate term) = knows_terms classes names x class predicate term
knows_aggregate classes names (greatest_over x class predicate term) = knows_terms classes names x class predicate term
knows_aggregate classes names (next_key class) = nat_lt class classes
knows_aggregate classes names (single e) = knows_expression names e

-- each class, rule, field, row, value and query that the statement names is one of those in scope, and a veto stands in
-- an action
abbrev mutual
  pub knows_statement : Scope → Names → Statement → Bool
  knows_statement scope names (create class key pairs) = knows_row scope names class key pairs
  knows_statement scope names (update class key pairs) = knows_row scope names class key pairs
  knows_statement scope names (delete class key) = knows_class scope class && knows_expression names key
  knows_statement scope names (signal x arguments) = list_all (λ e. knows_expression names e) arguments
  knows_statement scope names (emit e) = knows_expression names e
  knows_statement scope names (when e t f) = knows_expression names e && (knows_body scope names t && knows_body scope names f)
  knows_statement scope names (each x class predicate body) = knows_class scope class && (knows_expression (knowing_row x names) predicate && knows_body scope (knowing_row x names) body)
  knows_statement scope names (for_answer x body) = is_known scope.queries x && knows_body scope names body
  knows_statement scope names (with_object x class key body) = knows_class scope class && (knows_expression names key && knows_body scope (knowing_row x names) body)
  knows_statement scope names (subtransaction body otherwise) = knows_body scope names body && knows_body scope names otherwise
  knows_statement scope names (let_value x a body) = knows_aggregate (length scope.classes) names a && knows_body scope (knowing_value x names) body
  knows_statement scope names veto = scope.in_action
  knows_statement scope names (veto_with e) = scope.in_action && knows_expression names e
  knows_statement scope names (on_rule op n) = nat_lt n scope.rules
  knows_statement scope names (fire n) = nat_lt n scope.rules
  knows_statement scope names s = true

  pub knows_body : Scope → Names → Body → Bool
  knows_body scope names empty = true
  knows_body scope names (s then rest) = knows_statement scope names s && knows_body scope names rest

-- an entry names what exists, its own row, and the rows and values of earlier entries
abbrev pub knows_entry : (classes : ℕ) → Names → Entry → Bool
knows_entry classes names (query_entry q) = knows_over classes names q.name q.class q.predicate
knows_entry classes names (no_entry q) = knows_over classes names q.name q.class q.predicate
knows_entry classes names (let_entry x a) = knows_aggregate classes names a

abbrev pub knows_entries : (classes : ℕ) → (before entries : List Entry) → Bool
knows_entries classes before [] = true
knows_entries classes before (e ∷ es) = knows_entry classes (names_of before) e && knows_entries classes (before ++ e ∷ []) es

-- the event, the condition and the action of a rule name what exists
abbrev pub knows_rule : List ClassDef → (rules : ℕ) → Rule → Bool
knows_rule classes rules r =
    knows_event (length classes) r.event && (knows_entries (length classes) [] r.condition && knows_body (action_scope classes rules r.condition) (names_of r.condition) r.action)

-- the classes have distinct names, and so have the rules, and each rule names what exists
pub record IsWellNamed (library : Library) : Type 0 where
  pub classes_differ : IsDistinct bytes_eq (class_names library.classes)
  pub rules_differ : IsDistinct bytes_eq (rule_names library.rules)
  pub rules_know : IsTrue (list_all (λ r. knows_rule library.classes (length library.rules) r) library.rules)

-- the body of a script names what exists
abbrev pub IsWellNamedBody : Library → Body → Type 0
IsWellNamedBody library body = IsTrue (knows_body (script_scope library) no_names body)
