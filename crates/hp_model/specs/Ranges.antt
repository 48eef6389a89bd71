-- What keeps states fit: constants within their types' bounds, and objects of existing classes.
use Rattle.std.specs.Prelude.{ℕ, pos, nat_lt, Bool, true, IsTrue, ◌&&◌, List, length, bytes_eq}
use Rattle.std.specs.List.{list_all, AllByRecursion, IsDistinct}
use Rattle.hp_model.specs.Values.{ClassDef, fits_64, value_fits}
use Rattle.hp_model.specs.Expressions.{Expression, constant, arithmetic, negated, inverted, both, either, compared}
use Rattle.hp_model.specs.Rules.{Aggregate, count_over, sum_over, least_over, greatest_over, next_key, single, Entry, query_entry, no_entry, let_entry, Assignment, Statement}
use Rattle.hp_model.specs.Rules.{create, update, delete, signal, emit, when, each, for_answer, with_object, subtransaction, let_value, veto_with, Body, empty, ◌then◌, Rule}
use Rattle.hp_model.specs.Rules.{Library}
use Rattle.hp_model.specs.Scopes.{field_names}
use Rattle.hp_model.specs.Cascade.{Unit, transaction, moment}

-- each constant is within its type's bounds
abbrev pub expression_fits : Expression → Bool
expression_fits (constant v) = value_fits v
expression_fits (arithmetic op a b) = expression_fits a && expression_fits b
expression_fits (negated a) = expression_fits a
expression_fits (inverted a) = expression_fits a
expression_fits (both a b) = expression_fits a && expression_fits b
expression_fits (either a b) = expression_fits a && expression_fits b
expression_fits (compared op a b) = expression_fits a && expression_fits b
expression_fits e = true

abbrev pub assignments_fit : List Assignment → Bool
assignments_fit pairs = list_all (λ (a : Assignment). expression_fits a.value) pairs

abbrev pub aggregate_fits : Aggregate → Bool
aggregate_fits (count_over x class predicate) = expression_fits predicate
aggregate_fits (sum_over x class predicate term) = expression_fits predicate && expression_fits term
aggregate_fits (least_over x class predicate term) = expression_fits predicate && expression_fits term
aggregate_fits (greatest_over x class predicate term) = expression_fits predicate && expression_fits term
aggregate_fits (next_key class) = true
aggregate_fits (single e) = expression_fits e

-- the same for each constant of the statement, and what it creates is of one of this number of classes
abbrev mutual
  pub statement_fits : (classes : ℕ) → Statement → Bool
  statement_fits classes (create class key pairs) = nat_lt class classes && (expression_fits key && assignments_fit pairs)
  statement_fits classes (update class key pairs) = expression_fits key && assignments_fit pairs
  statement_fits classes (delete class key) = expression_fits key
  statement_fits classes (signal name arguments) = list_all expression_fits arguments
  statement_fits classes (emit e) = expression_fits e
  statement_fits classes (when e then_body else_body) = expression_fits e && (body_fits classes then_body && body_fits classes else_body)
  statement_fits classes (each x class predicate body) = expression_fits predicate && body_fits classes body
  statement_fits classes (for_answer x body) = body_fits classes body
  statement_fits classes (with_object x class key body) = expression_fits key && body_fits classes body
  statement_fits classes (subtransaction body otherwise) = body_fits classes body && body_fits classes otherwise
  statement_fits classes (let_value x a body) = aggregate_fits a && body_fits classes body
  statement_fits classes (veto_with e) = expression_fits e
  statement_fits classes s = true

  pub body_fits : (classes : ℕ) → Body → Bool
  body_fits classes empty = true
  body_fits classes (s then rest) = statement_fits classes s && body_fits classes rest

abbrev pub entry_fits : Entry → Bool
entry_fits (query_entry q) = expression_fits q.predicate
entry_fits (no_entry q) = expression_fits q.predicate
entry_fits (let_entry x a) = aggregate_fits a

abbrev pub rule_fits : (classes : ℕ) → Rule → Bool
rule_fits classes r = list_all entry_fits r.condition && body_fits classes r.action

-- the library's rules fit, and no class has two fields of one name
pub record IsFitLibrary (library : Library) : Type 0 where
  pub fields_differ : AllByRecursion (λ (c : ClassDef). IsDistinct bytes_eq (field_names c.fields)) library.classes
  pub rules_fit : IsTrue (list_all (rule_fits (length library.classes)) library.rules)

-- a body that fits the library, and a moment of 64 bits
abbrev pub unit_fits : Library → Unit → Bool
unit_fits library (transaction now body) = fits_64 (pos now) && body_fits (length library.classes) body
unit_fits library (moment t) = fits_64 (pos t)
