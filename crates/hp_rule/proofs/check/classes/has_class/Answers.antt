use Rattle.std.proofs.Common.{rules, tests, ◌∙◌}
use Rattle.std.proofs.lemmas.Iterator.{YieldsList-from_slice}
use Rattle.std.proofs.lemmas.Iterator.Search.{any_from_yields_List}
use Rattle.std.specs.Prelude.{string_bytes}
use Rattle.std.specs.Str.{bytes_eq}
use Rattle.hp_model.specs.Values.{ClassDef}
use Rattle.hp_value.specs.Mapped.{class_def}
use Rattle.hp_rule.proofs.Known.{is_known_item}
use Rattle.hp_rule.proofs.check.classes.has_class.Goals as goal

pub returns : goal.returns
returns c =
    any_from_yields_List (λ d. bytes_eq (string_bytes d.name) c.args.name.now) _ _ c.any.result c.any.ensures.ran
    (YieldsList-from_slice c.args.classes.now (cc)) (λ x b q k. search (rules, tests))
    ∙ is_known_item class_def (λ (d : ClassDef). d.name) c.args.name.now c.args.classes.now
