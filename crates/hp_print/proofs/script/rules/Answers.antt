use Rattle.std.proofs.Common.{map, sym, ap, ◌∙◌}
use Rattle.serde_json.specs.View.{view}
use Rattle.hp_print.specs.Written.{text_with}
use Rattle.hp_print.proofs.Chains.{then_ok}
use Rattle.hp_model.specs.NotationPrint.{rule_pieces}
use Rattle.hp_model.specs.NotationValues.{rule_form}
use Rattle.hp_print.specs.Rules.{rules_pieces}
use Rattle.hp_print.proofs.ScriptSteps.{list_step}
use Rattle.hp_print.proofs.ListSteps.{each_list}
use Rattle.hp_print.proofs.script.rules.Goals as goal

pub returns-in-Some : goal.returns-in-Some
returns-in-Some c =
    then_ok c.each.result
    (λ last rest. ap (text_with c.args.w.now) (list_step rules_pieces (rule_form c.args.lets) (view c.args.value.now) (map view c.in-Some.values.now) (sym c.in-Some.ensures) rest
    ∙ sym (each_list rule_pieces (rule_form c.args.lets) (map view c.in-Some.values.now) rest)) ∙ last rest) c.each.ensures
