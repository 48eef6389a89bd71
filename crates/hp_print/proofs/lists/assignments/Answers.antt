use Rattle.std.proofs.Common.{refl, sym, ap, ◌∙◌, Some}
use Rattle.serde_json.specs.View.{view}
use Rattle.hp_print.specs.Written.{text_with}
use Rattle.hp_print.specs.Lists.{comma_step}
use Rattle.hp_print.specs.declared.lists.Part.TheVariants.{Assignment}
use Rattle.hp_print.proofs.Chains.{then_ok}
use Rattle.hp_print.proofs.ListSteps.{assignments_step}
use Rattle.hp_print.proofs.Readings.{first_item, rest_whole}
use Rattle.hp_print.proofs.lists.assignments.Goals as goal

pub returns-in_ok-assignment-in-Some-len1-up : goal.returns-in_ok-assignment-in-Some-len1-up
returns-in_ok-assignment-in-Some-len1-up c =
    then_ok c.more_parts.result (λ last rest. ap (text_with c.args.w.now) (assignments_step (comma_step Assignment) (λ e r. refl) (view c.args.value.now)
    _ _ (sym c.in-Some-len1-up.ensures ∙ ap Some (first_item view _ c.first-item.result _ c.in-Some-len1-up.len_at_least c.first-item.is (rest_whole 1 c.in-Some-len1-up.field-0.now)))
    rest) ∙ c.in_ok-mark-in-Some-len1-up.ensures _ ∙ c.in_ok-assignment-in-Some-len1-up.ensures _ ∙ last rest) c.more_parts.ensures
