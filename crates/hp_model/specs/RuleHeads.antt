-- The form of a rule, `[name, event, ec, queries, ca, action]`, and its name. These are read for all rules before any
-- other part of a rule. In version 4 a rule may have a seventh part.
use Rattle.std.specs.Prelude.{List, [], ◌∷◌, map, Option, Some, None, option_and_then, Ok}
use Rattle.serde_json.specs.Data.{Data}
use Rattle.hp_model.specs.Values.{Name, ◌>>=◌}
use Rattle.hp_model.specs.Refusals.{Path, item_at, rules_limit, Decoded, shaped}
use Rattle.hp_model.specs.Json.{list_of}
use Rattle.hp_model.specs.Parts.{new_name_at, short_list_at, read_each}
use Rattle.hp_model.specs.Scopes.{Version, fourth_version}

-- the parts of a rule, in JSON
pub record RuleParts : Type 0 where
  pub name : Data
  pub event : Data
  pub event_coupling : Data
  pub condition : Data
  pub action_coupling : Data
  pub action : Data
  pub closing : Option Data

abbrev pub parts_in : Version → List Data → Option RuleParts
parts_in version (a ∷ b ∷ c ∷ d ∷ e ∷ f ∷ []) =
    Some (record { name = a; event = b; event_coupling = c; condition = d; action_coupling = e; action = f; closing = None })
parts_in fourth_version (a ∷ b ∷ c ∷ d ∷ e ∷ f ∷ g ∷ []) =
    Some (record { name = a; event = b; event_coupling = c; condition = d; action_coupling = e; action = f; closing = Some g })
parts_in version ds = None

abbrev pub rule_parts_of : Version → Data → Option RuleParts
rule_parts_of version d = option_and_then (parts_in version) (list_of d)

-- a rule's head: its name, with its parts
pub record RuleHead : Type 0 where
  pub name : Name
  pub parts : RuleParts

abbrev pub rule_names : List RuleHead → List Name
rule_names heads = map (λ (h : RuleHead). h.name) heads

-- a rule's form and name, which no earlier rule has
unfoldable pub rule_head_at : Version → List RuleHead → Path → Data → Decoded RuleHead
rule_head_at version before path d = do
  parts ← shaped path (rule_parts_of version d)
  x ← new_name_at (rule_names before) (item_at path 0) parts.name
  Ok (record { name = x; parts = parts })

-- at most 256 rules, by their forms and names
unfoldable pub rule_heads_at : Version → Path → Data → Decoded (List RuleHead)
rule_heads_at version path d = do
  ds ← short_list_at 256 rules_limit path d
  read_each (rule_head_at version) path ds
