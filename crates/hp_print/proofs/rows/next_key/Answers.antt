use Rattle.std.proofs.Common.{ap, ◌∙◌}
use Rattle.hp_print.specs.Written.{text_with}
use Rattle.hp_print.proofs.Chains.{then_ok}
use Rattle.hp_print.proofs.RowSteps.{next_step}
use Rattle.hp_print.proofs.rows.next_key.Goals as goal

pub returns : goal.returns
returns c = then_ok c.name.result (λ last rest. ap (text_with c.args.w.now) (next_step _ rest) ∙ c.in_ok-word.ensures _ ∙ last rest) c.name.ensures
