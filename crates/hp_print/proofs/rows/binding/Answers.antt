use Rattle.std.proofs.Common.{ap, ◌∙◌}
use Rattle.hp_print.specs.Written.{text_with}
use Rattle.hp_print.proofs.Chains.{then_ok}
use Rattle.hp_print.proofs.RowSteps.{binding_step}
use Rattle.hp_print.proofs.rows.binding.Goals as goal

pub returns : goal.returns
returns c = then_ok c.aggregate.result (λ last rest. ap (text_with c.args.w.now) (binding_step _ _ rest) ∙ c.in_ok-value_name.ensures _ ∙ c.in_ok-mark.ensures _ ∙ last rest) c.aggregate.ensures
