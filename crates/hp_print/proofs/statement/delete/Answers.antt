use Rattle.std.proofs.Common.{ap, ◌∙◌}
use Rattle.hp_print.specs.Written.{text_with}
use Rattle.hp_print.proofs.Chains.{then_ok}
use Rattle.hp_print.proofs.StatementSteps.{delete_step}
use Rattle.hp_print.proofs.statement.delete.Goals as goal

pub returns : goal.returns
returns c = then_ok c.object.result (λ last rest. ap (text_with c.args.w.now) (delete_step _ _ _ rest) ∙ c.in_ok-mark.ensures _ ∙ last rest) c.object.ensures
