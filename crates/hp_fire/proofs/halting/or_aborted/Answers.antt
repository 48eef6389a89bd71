use Rattle.std.proofs.Common.{rules, ◌≡◌, ap, ◌∙◌, subst, Err}
use Rattle.std.specs.Prelude.{Result, ⊤}
use Rattle.hp_model.specs.Transactions.{abort_by}
use Rattle.hp_model.specs.Answers.{ended, followed}
use Rattle.hp_value.specs.declared.halt.Halt.{Halt}
use Rattle.hp_value.specs.declared.halt.Halt.TheVariants.{Cause as ByCause}
use Rattle.hp_value.specs.Mapped.{cause}
use Rattle.hp_fire.specs.Mapped.{course}
use Rattle.hp_fire.specs.Runs.{Steps}
use Rattle.hp_fire.proofs.halting.or_aborted.Goals as goal

pub returns-in-Ok : goal.returns-in-Ok
returns-in-Ok c = λ library work old new before steps.
    subst (λ (r : Result ⊤ Halt). Steps library work old new before (course c.args.course.now) r) c.in-Ok.is steps

pub returns-in-Err-Cause : goal.returns-in-Err-Cause
returns-in-Err-Cause c = λ library work old new before steps.
    let is : c.args.given ≡ Err (ByCause c.in-Err-Cause.cause) = search rules in
    let halted = subst (λ (r : Result ⊤ Halt). Steps library work old new before (course c.args.course.now) r) is steps in
    record {
      answer = ended (abort_by (cause c.in-Err-Cause.cause));
      is = halted.1;
      added = c.end_with.ensures ∙ ap (λ a. followed a (ended (abort_by (cause c.in-Err-Cause.cause)))) halted.0;
    }
