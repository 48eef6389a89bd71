-- What the heads of rules stand for.
use Rattle.std.specs.Prelude.{List, [], ◌∷◌, map, Option, Some, None, option_map}
use Rattle.serde_json.specs.Data.{Data}
use Rattle.serde_json.specs.View.{view}
use Rattle.hp_model.specs.RuleHeads as H
use Rattle.hp_model.specs.Scopes.{Version, fourth_version}
use Rattle.hp_script.specs.declared.rule_head.RuleParts.{RuleParts}
use Rattle.hp_script.specs.declared.rule_head.RuleHead.{RuleHead}

abbrev pub parts_view : RuleParts → H.RuleParts
parts_view p = record {
  name = view p.name.now;
  event = view p.event.now;
  event_coupling = view p.event_coupling.now;
  condition = view p.condition.now;
  action_coupling = view p.action_coupling.now;
  action = view p.action.now;
  closing = option_map (λ v. view v.now) p.closing;
}

-- the part of a rule after its sixth, if the version has one
abbrev pub closing_in : Version → List Data → Option (Option Data)
closing_in version [] = Some None
closing_in fourth_version (d ∷ []) = Some (Some d)
closing_in version ds = None

abbrev pub head_view : RuleHead → H.RuleHead
head_view h = record { name = h.name.now; parts = parts_view h.parts }

abbrev pub heads_view : List RuleHead → List H.RuleHead
heads_view = map head_view
