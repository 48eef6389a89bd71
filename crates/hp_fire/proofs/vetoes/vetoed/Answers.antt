use Rattle.std.proofs.Common.{sym, subst, ap, ◌∙◌, option_map}
use Rattle.hp_model.specs.Transactions.{done, veto_by}
use Rattle.hp_model.specs.Answers.{ended, followed}
use Rattle.hp_model.specs.Firing.{vetoes}
use Rattle.hp_value.specs.Mapped.{value}
use Rattle.hp_fire.specs.Mapped.{course}
use Rattle.hp_fire.specs.Runs.{Adds}
use Rattle.hp_fire.proofs.Steps.{runs_ends}
use Rattle.hp_fire.proofs.vetoes.vetoed.Goals as goal

pub returns-in_ok-veto-in-Some : goal.returns-in_ok-veto-in-Some
returns-in_ok-veto-in-Some c = λ library view.
    let message = option_map value c.args.message in
    let veto = veto_by (record { rule = c.in-Some.rule; message = message }) in
    subst (λ o. Adds library (vetoes o message) view view (course c.args.course.now) (course c.end_with.new.self)) (sym c.in-Some.is)
    (record {
      answer = ended veto;
      is = runs_ends veto view;
      added = c.end_with.ensures ∙ ap (λ v. followed (course c.args.course.now) (ended (veto_by v))) c.in_ok-veto-in-Some.ensures;
    })

pub returns-in-None : goal.returns-in-None
returns-in-None c = λ library view.
    subst (λ o. Adds library (vetoes o (option_map value c.args.message)) view view (course c.args.course.now) (course c.end_with-in-None.new.self)) (sym c.in-None.is)
    (record { answer = ended done; is = runs_ends done view; added = c.end_with-in-None.ensures })
