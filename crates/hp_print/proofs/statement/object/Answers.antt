use Rattle.std.proofs.Common.{ap, ◌∙◌}
use Rattle.hp_print.specs.Written.{text_with}
use Rattle.hp_print.proofs.Chains.{then_ok}
use Rattle.hp_print.proofs.StatementSteps.{object_step}
use Rattle.hp_print.proofs.statement.object.Goals as goal

pub returns : goal.returns
returns c = then_ok c.mark-2.result (λ last rest. ap (text_with c.args.w.now) (object_step _ _ rest) ∙ c.in_ok-name.ensures _ ∙ c.in_ok-mark.ensures _
    ∙ c.in_ok-any_expression.ensures _ ∙ last rest) c.mark-2.ensures
