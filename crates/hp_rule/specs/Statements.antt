-- What statements and rules stand for in the model.
use Rattle.std.specs.Prelude.{ℕ, List, [], ◌∷◌, map, None, Some, string_bytes}
use Rattle.hp_model.specs.Rules as R
use Rattle.hp_value.specs.Mapped.{class_def, expression, coupling}
pub use Rattle.hp_value.specs.Mapped.{rule_operation}
use Rattle.hp_value.specs.declared.row.ClassDef.{ClassDef}
use Rattle.hp_query.specs.Mapped.{aggregate, entry}
use Rattle.hp_detect.specs.Mapped.{event}
use Rattle.hp_rule.specs.declared.stmt.Assignment.{Assignment}
use Rattle.hp_rule.specs.declared.stmt.Stmt.{Stmt, Row_of-Stmt, end_of-Stmt, more_of-Stmt}
use Rattle.hp_rule.specs.declared.stmt.Stmt.TheVariants.{Create, Update, Delete, Signal, Emit, If', Each', For', With', Sub', Let', Abort, Veto, OnRule, Fire}
use Rattle.hp_rule.specs.declared.rule.Rule.{Rule}

abbrev pub assignment : Assignment → R.Assignment
assignment a = record { field = string_bytes a.field; value = expression a.value }

abbrev mutual
  pub statement : Stmt → R.Statement
  statement (Create class key pairs) = R.create class (expression key.value) (map assignment pairs.items)
  statement (Update class key pairs) = R.update class (expression key.value) (map assignment pairs.items)
  statement (Delete class key) = R.delete class (expression key.value)
  statement (Signal name arguments) = R.signal (string_bytes name) (map expression arguments.items)
  statement (Emit e) = R.emit (expression e.value)
  statement (If' e shape then_body shape' else_body) = R.when (expression e.value) (row_body then_body) (row_body else_body)
  statement (Each' x class predicate shape body) = R.each (string_bytes x) class (expression predicate.value) (row_body body)
  statement (For' x shape body) = R.for_answer (string_bytes x) (row_body body)
  statement (With' x class key shape body) = R.with_object (string_bytes x) class (expression key.value) (row_body body)
  statement (Sub' shape body shape' otherwise) = R.subtransaction (row_body body) (row_body otherwise)
  statement (Let' x a shape body) = R.let_value (string_bytes x) (aggregate a) (row_body body)
  statement Abort = R.abort
  statement (Veto None) = R.veto
  statement (Veto (Some e)) = R.veto_with (expression e.value)
  statement (OnRule op n) = R.on_rule (rule_operation op) n
  statement (Fire n) = R.fire n

  -- a body as it is stored in a statement
  pub row_body : {m : _} → Row_of-Stmt m → R.Body
  row_body end_of-Stmt = R.empty
  row_body (more_of-Stmt s rest) = R.◌then◌ (statement s) (row_body rest)

-- statements, one after another
abbrev pub body_in : List Stmt → R.Body
body_in [] = R.empty
body_in (s ∷ ss) = R.◌then◌ (statement s) (body_in ss)

abbrev pub rule : Rule → R.Rule
rule r =
    record {
      name = string_bytes r.name;
      event = event r.event.value;
      event_coupling = coupling r.ec;
      condition = map entry r.condition.items;
      action_coupling = coupling r.ca;
      action = body_in r.action.items;
      closed = r.closed;
    }

-- the library of these classes and rules
abbrev pub library_of : List ClassDef → List Rule → ℕ → R.Library
library_of classes rules depth_limit = record { classes = map class_def classes; rules = map rule rules; depth_limit = depth_limit }
