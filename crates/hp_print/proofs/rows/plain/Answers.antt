use Rattle.std.proofs.Common.{ap, ◌∙◌}
use Rattle.hp_print.specs.Written.{text_with}
use Rattle.hp_print.proofs.Chains.{then_ok}
use Rattle.hp_print.proofs.RowSteps.{plain_step}
use Rattle.hp_print.proofs.rows.plain.Goals as goal

pub returns : goal.returns
returns c = then_ok c.apart_from.result (λ last rest. ap (text_with c.args.w.now) (plain_step _ rest) ∙ last rest) c.apart_from.ensures
