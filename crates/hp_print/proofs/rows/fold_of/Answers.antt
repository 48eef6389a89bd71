use Rattle.std.proofs.Common.{ap, ◌∙◌}
use Rattle.hp_print.specs.Written.{text_with}
use Rattle.hp_print.proofs.Chains.{then_ok}
use Rattle.hp_print.proofs.RowSteps.{fold_step}
use Rattle.hp_print.proofs.rows.fold_of.Goals as goal

pub returns : goal.returns
returns c = then_ok c.rows.result (λ last rest. ap (text_with c.args.w.now) (fold_step _ _ c.spelling.ensures _ _ rest) ∙ c.in_ok-word.ensures _
    ∙ c.in_ok-any_expression.ensures _ ∙ c.in_ok-word-2.ensures _ ∙ last rest) c.rows.ensures
