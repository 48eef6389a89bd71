use Rattle.std.proofs.Common.{◌∙◌, ap, length}
use Rattle.std.proofs.lemmas.List.{length-map}
use Rattle.hp_model.specs.Rules as R
use Rattle.hp_value.specs.Mapped.{class_def}
use Rattle.hp_rule.specs.Mapped.{library}
use Rattle.hp_script.proofs.ItemScopes.{few_classes, few_rules, shorter}
use Rattle.hp_script.proofs.scope.Scope.of_library.Goals as goal

pub invariant_of-result : goal.invariant_of-result
invariant_of-result c =
    let model = library c.args.library.now in
    record {
      few_classes = shorter class_def c.classes.result.now model.classes 64 c.classes.ensures (few_classes model c.args.library.now.checked);
      few_rules = rw (length-map _ (λ (r : R.Rule). r.name) ∙ ap length c.rules.ensures) (few_rules model c.args.library.now.checked);
    }
