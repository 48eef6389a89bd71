use Rattle.std.proofs.Common.{ap, ◌∙◌}
use Rattle.hp_print.specs.Written.{text_with}
use Rattle.hp_print.proofs.Chains.{then_ok}
use Rattle.hp_print.proofs.ScriptSteps.{condition_step}
use Rattle.hp_print.proofs.rule.condition.Goals as goal

pub returns : goal.returns
returns c = then_ok c.query.result (λ last rest. ap (text_with c.args.w.now) (condition_step _ rest) ∙ c.in_ok-mark.ensures _ ∙ last rest) c.query.ensures
