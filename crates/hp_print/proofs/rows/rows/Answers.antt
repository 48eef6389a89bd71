use Rattle.std.proofs.Common.{ap, ◌∙◌}
use Rattle.hp_print.specs.Written.{text_with}
use Rattle.hp_print.proofs.Chains.{then_ok}
use Rattle.hp_print.proofs.RowSteps.{rows_step}
use Rattle.hp_print.proofs.rows.rows.Goals as goal

pub returns : goal.returns
returns c = then_ok c.predicate.result (λ last rest. ap (text_with c.args.w.now) (rows_step _ _ _ rest) ∙ c.in_ok-name.ensures _ ∙ c.in_ok-name-2.ensures _ ∙ last rest) c.predicate.ensures
