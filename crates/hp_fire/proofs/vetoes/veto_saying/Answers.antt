use Rattle.std.proofs.Common.{Some}
use Rattle.std.proofs.lemmas.Result.{err_from_is_err_and}
use Rattle.hp_model.specs.Expressions.{value_of}
use Rattle.hp_model.specs.Firing.{vetoes}
use Rattle.hp_value.specs.Mapped.{environment, expression, value}
use Rattle.hp_fire.specs.Mapped.{course}
use Rattle.hp_fire.proofs.Adding.{appends_as}
use Rattle.hp_fire.proofs.Making.{steps_halt}
use Rattle.hp_fire.proofs.Steps.{runs_value}
use Rattle.hp_fire.proofs.vetoes.veto_saying.Goals as goal

pub returns-in_err-said : goal.returns-in_err-said
returns-in_err-said c = λ library level view.
    let p = err_from_is_err_and c.from_residual.result c.from_residual.ensures.1 in
    rw (p.1, p.2)
    (steps_halt (course c.args.course.now) value (λ S v. vetoes c.args.context.now.rule (Some v)) (value_of (environment c.args.context.now.env) (expression c.args.message.now))
    c.in_err-said.field-0.0 library view c.in_err-said.ensures)

pub returns : goal.returns
returns c = λ library level view.
    appends_as
    (λ a runs. runs_value (λ v. vetoes c.args.context.now.rule (Some v)) (value_of (environment c.args.context.now.env) (expression c.args.message.now)) (value c.in_ok-said.said)
    c.in_ok-said.ensures runs)
    (c.in_ok-vetoed.ensures library view)
