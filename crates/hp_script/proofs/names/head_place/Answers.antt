use Rattle.std.proofs.Common.{rules, tests, ◌∙◌}
use Rattle.std.proofs.lemmas.Iterator.{YieldsList-from_slice}
use Rattle.std.proofs.lemmas.Iterator.Search.{position_from_yields_List}
use Rattle.std.specs.Str.{bytes_eq}
use Rattle.hp_model.specs.RuleHeads.{RuleHead}
use Rattle.hp_script.specs.Heads.{head_view}
use Rattle.hp_script.proofs.NamePlaces.{place_of_item}
use Rattle.hp_script.proofs.names.head_place.Goals as goal

pub returns-clause-place : goal.returns-clause-place
returns-clause-place c =
    position_from_yields_List (λ h. bytes_eq h.name.now c.args.name.now) _ _ c.position.result c.position.ensures.ran
    (YieldsList-from_slice c.args.heads.now (cc)) (λ x b q k. search (rules, tests))
    ∙ place_of_item head_view (λ (h : RuleHead). h.name) c.args.name.now c.args.heads.now
