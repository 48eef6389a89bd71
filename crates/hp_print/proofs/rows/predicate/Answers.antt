use Rattle.std.proofs.Common.{sym, ap, ◌∙◌}
use Rattle.hp_print.specs.Written.{text_with}
use Rattle.hp_print.proofs.Chains.{then_ok}
use Rattle.hp_print.proofs.Readings.{where_step, true_step}
use Rattle.hp_print.proofs.rows.predicate.Goals as goal

pub returns-then-is_true : goal.returns-then-is_true
returns-then-is_true c rest = ap (text_with c.args.w.now) (true_step _ (sym c.is_true.ensures ∙ c.if-is_true.true) rest)

pub returns : goal.returns
returns c = then_ok c.any_expression.result (λ last rest. ap (text_with c.args.w.now) (where_step _ (sym c.is_true.ensures ∙ c.if-is_true.false) rest) ∙ c.in_ok-mark.ensures _ ∙ last rest)
    c.any_expression.ensures
