use Rattle.std.proofs.Common.{refl, sym, ap, ◌∙◌, Some}
use Rattle.serde_json.specs.View.{view}
use Rattle.hp_print.specs.Written.{text_with}
use Rattle.hp_print.specs.Lists.{comma_step}
use Rattle.hp_print.specs.declared.lists.Part.TheVariants.{Argument}
use Rattle.hp_print.proofs.Chains.{then_ok}
use Rattle.hp_print.proofs.ListSteps.{arguments_step}
use Rattle.hp_print.proofs.Readings.{first_item, rest_whole}
use Rattle.hp_print.proofs.lists.arguments.Goals as goal

pub returns-in_ok-more_parts-in-Some-len1-up : goal.returns-in_ok-more_parts-in-Some-len1-up
returns-in_ok-more_parts-in-Some-len1-up c =
    then_ok c.mark-in-Some-len1-up.result
    (λ last rest. ap (text_with c.args.w.now) (arguments_step (comma_step Argument) (λ e r. refl) (view c.args.value.now) _ _
    (sym c.in-Some-len1-up.ensures ∙ ap Some (first_item view _ c.first-item.result _ c.in-Some-len1-up.len_at_least c.first-item.is (rest_whole 1 c.in-Some-len1-up.field-0.now))) rest)
    ∙ c.in_ok-mark-in-Some-len1-up.ensures _ ∙ c.in_ok-any_expression-in-Some-len1-up.ensures _ ∙ c.in_ok-more_parts-in-Some-len1-up.ensures _ ∙ last rest) c.mark-in-Some-len1-up.ensures
