use Rattle.std.proofs.Common.{ap, ◌∙◌}
use Rattle.hp_print.specs.Written.{text_with}
use Rattle.hp_print.proofs.Chains.{then_ok}
use Rattle.hp_print.proofs.StatementSteps.{emit_step}
use Rattle.hp_print.proofs.statement.emit.Goals as goal

pub returns : goal.returns
returns c = then_ok c.any_expression.result (λ last rest. ap (text_with c.args.w.now) (emit_step _ _ rest) ∙ c.in_ok-mark.ensures _ ∙ last rest) c.any_expression.ensures
