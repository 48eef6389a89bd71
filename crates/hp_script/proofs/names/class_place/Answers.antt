use Rattle.std.proofs.Common.{rules, tests, ◌∙◌}
use Rattle.std.proofs.lemmas.Iterator.{YieldsList-from_slice}
use Rattle.std.proofs.lemmas.Iterator.Search.{position_from_yields_List}
use Rattle.std.specs.Prelude.{string_bytes}
use Rattle.std.specs.Str.{bytes_eq}
use Rattle.hp_model.specs.Values.{ClassDef}
use Rattle.hp_value.specs.Mapped.{class_def}
use Rattle.hp_script.proofs.NamePlaces.{place_of_item}
use Rattle.hp_script.proofs.names.class_place.Goals as goal

pub returns-clause-place : goal.returns-clause-place
returns-clause-place c =
    position_from_yields_List (λ d. bytes_eq (string_bytes d.name) c.args.name.now) _ _ c.position.result c.position.ensures.ran
    (YieldsList-from_slice c.args.classes.now (cc)) (λ x b q k. search (rules, tests))
    ∙ place_of_item class_def (λ (d : ClassDef). d.name) c.args.name.now c.args.classes.now
