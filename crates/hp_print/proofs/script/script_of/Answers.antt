use Rattle.std.proofs.Common.{ap, ◌∙◌}
use Rattle.hp_print.specs.Written.{text_with}
use Rattle.hp_print.proofs.Chains.{then_ok}
use Rattle.hp_print.proofs.ScriptSteps.{script_step}
use Rattle.hp_print.proofs.script.script_of.Goals as goal

pub returns : goal.returns
returns c =
    then_ok c.items.result
    (λ last rest. ap (text_with c.args.w.now) (script_step _ _ _ _ _ rest) ∙ c.in_ok-word.ensures _ ∙ c.in_ok-put.ensures _ ∙ c.in_ok-depth.ensures _
    ∙ c.in_ok-classes.ensures _ ∙ c.in_ok-rules.ensures _ ∙ last rest)
    c.items.ensures
