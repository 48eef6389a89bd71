use Rattle.std.proofs.Common.{rules, tests, ◌∙◌}
use Rattle.std.proofs.lemmas.Iterator.{YieldsList-from_slice}
use Rattle.std.proofs.lemmas.Iterator.Search.{position_from_yields_List}
use Rattle.std.specs.Prelude.{string_bytes}
use Rattle.std.specs.Str.{bytes_eq}
use Rattle.hp_model.specs.Rules.{Rule}
use Rattle.hp_rule.specs.Mapped.{rule}
use Rattle.hp_script.proofs.NamePlaces.{place_of_item}
use Rattle.hp_script.proofs.names.rule_place.Goals as goal

pub returns-clause-place : goal.returns-clause-place
returns-clause-place c =
    position_from_yields_List (λ r. bytes_eq (string_bytes r.name) c.args.name.now) _ _ c.position.result c.position.ensures.ran
    (YieldsList-from_slice c.args.rules.now (cc)) (λ x b q k. search (rules, tests))
    ∙ place_of_item rule (λ (r : Rule). r.name) c.args.name.now c.args.rules.now
