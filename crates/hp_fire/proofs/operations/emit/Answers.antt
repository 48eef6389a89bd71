use Rattle.std.proofs.lemmas.Result.{err_from_is_err_and}
use Rattle.hp_model.specs.Expressions.{value_of}
use Rattle.hp_model.specs.Tree.{emission, no_items}
use Rattle.hp_model.specs.Transactions.{with_items}
use Rattle.hp_model.specs.Answers.{tells}
use Rattle.hp_value.specs.Mapped.{environment, expression, value}
use Rattle.hp_fire.specs.Mapped.{context, course}
use Rattle.hp_fire.proofs.Making.{steps_halt, emit_runs}
use Rattle.hp_fire.proofs.operations.emit.Goals as goal

pub returns-in_err-value : goal.returns-in_err-value
returns-in_err-value c = λ view library level.
    let p = err_from_is_err_and c.from_residual.result c.from_residual.ensures.1 in
    rw (p.1, p.2)
    (steps_halt (course c.args.course.now) value (λ S v. with_items (emission v no_items)) (value_of (environment c.args.context.now.env) (expression c.args.expr.now)) c.in_err-value.field-0.0
    library view c.in_err-value.ensures)

pub returns : goal.returns
returns c = λ view library level. record {
  answer = tells (emission (value c.in_ok-value.value) no_items);
  is = emit_runs library level (context c.args.context.now) (expression c.args.expr.now) (value c.in_ok-value.value) view c.in_ok-value.ensures;
  added = c.in_ok-add.ensures;
}
