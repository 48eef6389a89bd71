use Rattle.std.proofs.Common.{sym, subst}
use Rattle.hp_model.specs.Rules.{veto_with}
use Rattle.hp_model.specs.Firing.{run_statement}
use Rattle.hp_value.specs.declared.expr.Expr.{Expr}
use Rattle.hp_value.specs.Mapped.{expression}
use Rattle.hp_fire.specs.Mapped.{context, course}
use Rattle.hp_fire.specs.Runs.{Adds, Steps}
use Rattle.hp_fire.specs.Statements.{veto_statement}
use Rattle.hp_fire.proofs.vetoes.run_veto.Goals as goal

pub returns-in-Some : goal.returns-in-Some
returns-in-Some c = λ library level view.
    subst (λ message. Steps library (run_statement (veto_statement message) level (context c.args.context.now)) view view
    (course c.args.course.now) (course c.veto_saying.new.course) c.veto_saying.result) (sym c.in-Some.is)
    (subst (λ (e : Expr). Steps library (run_statement (veto_with (expression e)) level (context c.args.context.now)) view view
    (course c.args.course.now) (course c.veto_saying.new.course) c.veto_saying.result)
    c.deref.ensures (c.veto_saying.ensures library level view))

pub returns-in_ok-vetoed-in-None : goal.returns-in_ok-vetoed-in-None
returns-in_ok-vetoed-in-None c = λ library level view.
    subst (λ message. Adds library (run_statement (veto_statement message) level (context c.args.context.now)) view view (course c.args.course.now) (course c.vetoed.new.course))
    (sym c.in-None.is) (c.in_ok-vetoed-in-None.ensures library view)
