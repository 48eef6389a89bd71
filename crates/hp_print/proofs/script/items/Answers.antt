use Rattle.std.proofs.Common.{sym, ap, ◌∙◌}
use Rattle.hp_print.specs.Written.{text_with}
use Rattle.hp_print.proofs.Chains.{then_ok}
use Rattle.hp_model.specs.NotationPrint.{later_item_pieces}
use Rattle.hp_model.specs.NotationValues.{item_form}
use Rattle.hp_print.specs.Rules.{items_pieces}
use Rattle.hp_print.proofs.ScriptSteps.{list_step}
use Rattle.hp_print.proofs.ListSteps.{each_list}
use Rattle.hp_print.proofs.script.items.Goals as goal

pub returns-in-Some : goal.returns-in-Some
returns-in-Some c =
    then_ok c.each.result (λ last rest. ap (text_with c.args.w.now) (list_step items_pieces item_form _ _ (sym c.in-Some.ensures) rest ∙ sym (each_list later_item_pieces item_form _ rest))
    ∙ last rest) c.each.ensures
