-- The statuses of rules.
use Rattle.std.specs.Prelude.{◌≡◌, List, map, Option, Some, None}
use Rattle.hp_model.specs.Rules.{Library}
use Rattle.hp_model.specs.State.{State, IsOrdered, RuleState, Status, absent}
use Rattle.hp_model.specs.Cells.{Cells, cells, CellValue, row_value, status_value, knowledge_value}

-- the status in a rule's cell; a rule without one is absent
abbrev pub status_from : Option CellValue → Status
status_from None = absent
status_from (Some (row_value r)) = absent
status_from (Some (status_value s)) = s
status_from (Some (knowledge_value k)) = absent

abbrev pub statuses : List RuleState → List Status
statuses rules = map (λ (r : RuleState). r.status) rules

-- these are the statuses of the rules in every ordered state that has the cells
pub record AreStatuses (library : Library) (base : Cells) (listed : List Status) : Type 0 where
  pub from : (S : State) → IsOrdered library S → cells library S ≡ base → listed ≡ statuses S.rules
