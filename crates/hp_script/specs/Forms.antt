-- What forms whose parts are still JSON stand for, and the names that are known to them.
use Rattle.std.specs.Prelude.{map, option_map}
use Rattle.serde_json.specs.View.{view}
use Rattle.hp_model.specs.Json as J
use Rattle.hp_model.specs.Scopes as S
use Rattle.hp_model.specs.ExpressionGrammar as E
use Rattle.hp_model.specs.EventGrammar as V
use Rattle.hp_model.specs.StatementGrammar as T
use Rattle.hp_model.specs.Decode as D
use Rattle.hp_value.specs.Mapped.{arithmetic, comparison, class_def}
use Rattle.hp_query.specs.Mapped.{entry}
use Rattle.hp_rule.specs.Mapped.{rule_operation}
use Rattle.hp_script.specs.declared.shape.Form.{Form}
use Rattle.hp_script.specs.declared.scope.Scope.{Scope}
use Rattle.hp_script.specs.declared.expression_form.LeafForm.{LeafForm}
use Rattle.hp_script.specs.declared.expression_form.LeafForm.TheVariants as leaf
use Rattle.hp_script.specs.declared.expression_form.ExpressionForm.{ExpressionForm}
use Rattle.hp_script.specs.declared.expression_form.ExpressionForm.TheVariants as expression
use Rattle.hp_script.specs.declared.event.EventForm.{EventForm}
use Rattle.hp_script.specs.declared.event.EventForm.TheVariants as event
use Rattle.hp_script.specs.declared.statement_form.OperationForm.{OperationForm}
use Rattle.hp_script.specs.declared.statement_form.OperationForm.TheVariants as operation
use Rattle.hp_script.specs.declared.statement_form.StatementForm.{StatementForm}
use Rattle.hp_script.specs.declared.statement_form.StatementForm.TheVariants as statement
use Rattle.hp_script.specs.declared.item.ItemForm.{ItemForm}
use Rattle.hp_script.specs.declared.item.ItemForm.TheVariants.{Transaction, Clock}
use Rattle.hp_script.specs.declared.decoding.Root.{Root}
pub use Rattle.hp_script.specs.Heads.{parts_view, head_view, heads_view}
use Rattle.hp_script.specs.Names.{names_of}
pub use Rattle.hp_script.specs.Versions.{version_view}

abbrev pub form_view : Form → J.Form
form_view f = record { word = f.word.now; parts = map view f.parts.now }

abbrev pub scope_view : Scope → S.Scope
scope_view s = record {
  classes = map class_def s.classes.now;
  rules = names_of s.rules;
  queries = S.query_names (map entry s.condition.now);
  in_action = s.in_action;
}

abbrev pub leaf_form_view : LeafForm → E.ExpressionForm
leaf_form_view (leaf.Integer z) = E.number_form z
leaf_form_view (leaf.Truth b) = E.truth_form b
leaf_form_view (leaf.Text t) = E.text_form t.now
leaf_form_view (leaf.FieldOf x field) = E.field_form (view x.now) (view field.now)
leaf_form_view (leaf.KeyOf x) = E.key_form (view x.now)
leaf_form_view (leaf.NewField part field) = E.new_form (view part.now) (view field.now)
leaf_form_view (leaf.OldField part field) = E.old_form (view part.now) (view field.now)
leaf_form_view (leaf.KeyIn part) = E.key_in_form (view part.now)
leaf_form_view (leaf.Argument part place) = E.argument_form (view part.now) (view place.now)
leaf_form_view (leaf.TimeOf part) = E.time_form (view part.now)
leaf_form_view leaf.Count = E.count_form
leaf_form_view leaf.Now = E.now_form
leaf_form_view (leaf.ValueOf name) = E.value_form (view name.now)

abbrev pub expression_form_view : ExpressionForm → E.ExpressionForm
expression_form_view (expression.Arithmetic op a b) = E.arithmetic_form (arithmetic op) (view a.now) (view b.now)
expression_form_view (expression.Comparison op a b) = E.comparison_form (comparison op) (view a.now) (view b.now)
expression_form_view (expression.Negated a) = E.negated_form (view a.now)
expression_form_view (expression.Not a) = E.inverted_form (view a.now)
expression_form_view (expression.And a b) = E.both_form (view a.now) (view b.now)
expression_form_view (expression.Or a b) = E.either_form (view a.now) (view b.now)
expression_form_view (expression.Leaf form) = leaf_form_view form

abbrev pub event_form_view : EventForm → V.EventForm
event_form_view (event.Create class) = V.create_form (view class.now)
event_form_view (event.Update class) = V.update_form (view class.now)
event_form_view (event.Delete class) = V.delete_form (view class.now)
event_form_view (event.Signal name) = V.signal_form (view name.now)
event_form_view event.Commit = V.commit_form
event_form_view (event.At time) = V.at_form (view time.now)
event_form_view (event.Every first period) = V.every_form (view first.now) (view period.now)
event_form_view (event.Or a b) = V.or_form (view a.now) (view b.now)
event_form_view (event.Seq a b) = V.seq_form (view a.now) (view b.now)
event_form_view (event.Closure a b) = V.closure_form (view a.now) (view b.now)

abbrev pub operation_form_view : OperationForm → T.StatementForm
operation_form_view (operation.Create class key pairs) = T.create_form (view class.now) (view key.now) (view pairs.now)
operation_form_view (operation.Update class key pairs) = T.update_form (view class.now) (view key.now) (view pairs.now)
operation_form_view (operation.Delete class key) = T.delete_form (view class.now) (view key.now)
operation_form_view (operation.Signal name arguments) = T.signal_form (view name.now) (view arguments.now)
operation_form_view (operation.Emit value) = T.emit_form (view value.now)
operation_form_view operation.Abort = T.abort_form
operation_form_view operation.Veto = T.veto_form
operation_form_view (operation.VetoWith message) = T.veto_with_form (view message.now)
operation_form_view (operation.OnRule op rule) = T.rule_form (rule_operation op) (view rule.now)
operation_form_view (operation.Fire rule) = T.fire_form (view rule.now)

abbrev pub statement_form_view : StatementForm → T.StatementForm
statement_form_view (statement.If test then_body else_body) =
    T.if_form (view test.now) (view then_body.now) (view else_body.now)
statement_form_view (statement.Each x class predicate body) =
    T.each_form (view x.now) (view class.now) (view predicate.now) (view body.now)
statement_form_view (statement.For query body) = T.for_form (view query.now) (view body.now)
statement_form_view (statement.With x class key body) =
    T.with_form (view x.now) (view class.now) (view key.now) (view body.now)
statement_form_view (statement.Sub body otherwise) = T.sub_form (view body.now) (view otherwise.now)
statement_form_view (statement.Let name aggregate body) =
    T.let_form (view name.now) (view aggregate.now) (view body.now)
statement_form_view (statement.Operation form) = operation_form_view form

abbrev pub item_form_view : ItemForm → D.ItemForm
item_form_view (Transaction body) = D.transaction_form (view body.now)
item_form_view (Clock time) = D.clock_form (view time.now)

abbrev pub root_view : Root → D.Root
root_view r = record {
  version = view r.version.now;
  depth = option_map (λ v. view v.now) r.depth;
  classes = view r.classes.now;
  rules = view r.rules.now;
  items = view r.items.now;
}
