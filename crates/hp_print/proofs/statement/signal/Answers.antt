use Rattle.std.proofs.Common.{ap, ◌∙◌}
use Rattle.hp_print.specs.Written.{text_with}
use Rattle.hp_print.proofs.Chains.{then_ok}
use Rattle.hp_print.proofs.StatementSteps.{signal_step}
use Rattle.hp_print.proofs.statement.signal.Goals as goal

pub returns : goal.returns
returns c = then_ok c.arguments.result (λ last rest. ap (text_with c.args.w.now) (signal_step _ _ _ rest) ∙ c.in_ok-mark.ensures _ ∙ c.in_ok-name.ensures _ ∙ last rest) c.arguments.ensures
