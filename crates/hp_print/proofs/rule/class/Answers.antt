use Rattle.std.proofs.Common.{sym, ap, ◌∙◌}
use Rattle.hp_print.specs.Written.{text_with}
use Rattle.hp_print.proofs.Chains.{then_ok}
use Rattle.hp_print.proofs.ScriptSteps.{class_step}
use Rattle.hp_print.proofs.rule.class.Goals as goal

pub returns-in_ok-mark-in-Some : goal.returns-in_ok-mark-in-Some
returns-in_ok-mark-in-Some c = then_ok c.fields.result (λ last rest. ap (text_with c.args.w.now) (class_step _ _ _ _ (sym c.in-Some.ensures) rest)
    ∙ c.in_ok-word-in-Some.ensures _ ∙ c.in_ok-name-in-Some.ensures _ ∙ c.in_ok-mark-in-Some.ensures _ ∙ last rest) c.fields.ensures
