use Rattle.std.proofs.Common.{ap, ◌∙◌}
use Rattle.hp_print.specs.Written.{text_with}
use Rattle.hp_print.proofs.Chains.{then_ok}
use Rattle.hp_print.proofs.StatementSteps.{veto_step}
use Rattle.hp_print.proofs.statement.veto_with.Goals as goal

pub returns : goal.returns
returns c = then_ok c.apart_from.result (λ last rest. ap (text_with c.args.w.now) (veto_step _ _ rest) ∙ c.in_ok-mark.ensures _ ∙ last rest) c.apart_from.ensures
