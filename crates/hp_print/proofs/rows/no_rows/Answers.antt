use Rattle.std.proofs.Common.{ap, ◌∙◌}
use Rattle.hp_print.specs.Written.{text_with}
use Rattle.hp_print.proofs.Chains.{then_ok}
use Rattle.hp_print.proofs.RowSteps.{no_step}
use Rattle.hp_print.proofs.rows.no_rows.Goals as goal

pub returns : goal.returns
returns c = then_ok c.rows.result (λ last rest. ap (text_with c.args.w.now) (no_step _ rest) ∙ c.in_ok-word.ensures _ ∙ last rest) c.rows.ensures
