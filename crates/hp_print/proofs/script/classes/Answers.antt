use Rattle.std.proofs.Common.{refl, sym, ap, ◌∙◌, Some}
use Rattle.serde_json.specs.View.{view}
use Rattle.hp_print.specs.Written.{text_with}
use Rattle.hp_print.specs.Scripts.{part_step}
use Rattle.hp_print.specs.declared.script.Part.TheVariants.{Class}
use Rattle.hp_print.proofs.Chains.{then_ok}
use Rattle.hp_print.proofs.ListSteps.{classes_step}
use Rattle.hp_print.proofs.Readings.{first_item, rest_whole}
use Rattle.hp_print.proofs.script.classes.Goals as goal

pub returns-in_ok-class-in-Some-len1-up : goal.returns-in_ok-class-in-Some-len1-up
returns-in_ok-class-in-Some-len1-up c =
    then_ok c.each.result (λ last rest. ap (text_with c.args.w.now) (classes_step (part_step Class) (λ e r. refl) (view c.args.value.now) _ _
    (sym c.in-Some-len1-up.ensures ∙ ap Some (first_item view _ c.first-item.result _ c.in-Some-len1-up.len_at_least c.first-item.is (rest_whole 1 c.in-Some-len1-up.field-0.now))) rest)
    ∙ c.in_ok-class-in-Some-len1-up.ensures _ ∙ last rest) c.each.ensures
