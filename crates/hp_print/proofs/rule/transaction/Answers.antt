use Rattle.std.proofs.Common.{ap, ◌∙◌}
use Rattle.hp_print.specs.Written.{text_with}
use Rattle.hp_print.proofs.Chains.{then_ok}
use Rattle.hp_print.proofs.ScriptSteps.{transaction_step}
use Rattle.hp_print.proofs.rule.transaction.Goals as goal

pub returns : goal.returns
returns c = then_ok c.any_body.result (λ last rest. ap (text_with c.args.w.now) (transaction_step _ _ rest) ∙ c.in_ok-word.ensures _ ∙ last rest) c.any_body.ensures
