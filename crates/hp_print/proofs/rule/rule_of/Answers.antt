use Rattle.std.proofs.Common.{ap, ◌∙◌}
use Rattle.serde_json.specs.View.{view}
use Rattle.hp_model.specs.NotationPrint.{rule_pieces}
use Rattle.hp_print.specs.Written.{step, text_with}
use Rattle.hp_print.proofs.Chains.{then_ok}
use Rattle.hp_print.proofs.Readings.{rest_whole}
use Rattle.hp_print.proofs.ScriptSteps.{rule_step, rule_in_items}
use Rattle.hp_print.proofs.rule.rule_of.Goals as goal

pub returns : goal.returns
returns c =
    then_ok c.any_body.result
    (λ last rest. ap (λ o. text_with c.args.w.now (step rule_pieces o rest)) (rule_in_items c.args.lets view c.args.items.now c.index-items-0.result
    c.index-items-1.result c.index-items-2.result c.index-items-3.result c.index-items-4.result c.index-items-5.result _ c.requires c.index-items-0.is
    c.index-items-1.is c.index-items-2.is c.index-items-3.is c.index-items-4.is c.index-items-5.is (rest_whole 6 c.args.items.now))
    ∙ ap (text_with c.args.w.now) (rule_step _ _ _ _ _ _ _ rest) ∙ c.in_ok-word.ensures _ ∙ c.in_ok-name.ensures _ ∙ c.in_ok-closed.ensures _ ∙ c.in_ok-mark.ensures _
    ∙ c.in_ok-any_event.ensures _ ∙ c.in_ok-mode.ensures _
    ∙ c.in_ok-conditions.ensures _ ∙ c.in_ok-mark-2.ensures _ ∙ c.in_ok-mode-2.ensures _ ∙ last rest)
    c.any_body.ensures
