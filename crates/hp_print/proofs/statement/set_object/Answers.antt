use Rattle.std.proofs.Common.{ap, ◌∙◌}
use Rattle.hp_print.specs.Written.{text_with}
use Rattle.hp_print.proofs.Chains.{then_ok}
use Rattle.hp_print.proofs.StatementSteps.{set_step}
use Rattle.hp_print.proofs.statement.set_object.Goals as goal

pub returns : goal.returns
returns c = then_ok c.assignments.result (λ last rest. ap (text_with c.args.w.now) (set_step _ _ _ c.sign.ensures _ _ _ rest) ∙ c.in_ok-mark.ensures _
    ∙ c.in_ok-object.ensures _ ∙ last rest) c.assignments.ensures
