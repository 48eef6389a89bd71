use Rattle.std.proofs.Common.{sym, ap, ◌∙◌}
use Rattle.serde_json.specs.View.{view}
use Rattle.hp_model.specs.NotationPrint.{rule_pieces}
use Rattle.hp_print.specs.Written.{step, text_with}
use Rattle.hp_print.proofs.Chains.{onward}
use Rattle.hp_print.proofs.ScriptSteps.{rule_in_list, no_rule}
use Rattle.hp_print.proofs.rule.rule.Goals as goal

pub returns-then-items-lt6 : goal.returns-then-items-lt6
returns-then-items-lt6 c rest = ap (λ o. text_with c.args.w.now (step rule_pieces o rest)) (no_rule c.args.lets view _ _ (sym c.in-Some.ensures) c.if-items-lt6.true)
    ∙ c.refuse-then-items-lt6.ensures rest

pub returns : goal.returns
returns c = onward c.rule_of.result c.args.w.now c.rule_of.new.w rule_pieces _ _ (rule_in_list c.args.lets _ _ (sym c.in-Some.ensures)) c.rule_of.ensures
