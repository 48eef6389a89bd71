-- Sets of rules: for each rule of the library whether it is in the set.
use Rattle.std.specs.Prelude.{ℕ, suc, Bool, true, false, not, ◌&&◌, List, [], ◌∷◌, slice_set, map, Option, Some, None, is_none, if◌then◌else◌}
use Rattle.std.specs.List.{slice_index_or}
use Rattle.hp_model.specs.Occurrences.{moment_reached}
use Rattle.hp_model.specs.Rules.{Rule, Library}
use Rattle.hp_model.specs.Cascade.{Unit, transaction, moment}
use Rattle.hp_model.specs.Chains.{body_triggers, signal_triggers, rule_triggers, unit_triggers}
use Rattle.hp_model.specs.Idle.{body_installs}

-- the set with these rules too
abbrev pub marked : List ℕ → List Bool → List Bool
marked [] set = set
marked (n ∷ ns) set = marked ns (slice_set set n true)

abbrev pub no_rules : Library → List Bool
no_rules library = map (λ (r : Rule). false) library.rules

-- the rules that a firing of the rule may trigger
abbrev pub targets : Library → Rule → List Bool
targets library rule = marked (rule_triggers library rule) (no_rules library)

-- the rules that its action may install
abbrev pub installs : Library → Rule → List Bool
installs library rule = marked (body_installs rule.action) (no_rules library)

-- the rules that a unit's own transaction may trigger before its commit event
abbrev pub begun_by : Library → Unit → List ℕ
begun_by library (transaction now body) = body_triggers library body
begun_by library (moment t) = signal_triggers library (moment_reached t)

-- the set with what a function finds for each of these units
abbrev pub gathered : (Unit → List ℕ) → List Unit → List Bool → List Bool
gathered of_unit [] set = set
gathered of_unit (u ∷ us) set = gathered of_unit us (marked (of_unit u) set)

-- the rules that these units' own transactions may trigger, and those of the set
abbrev pub begun : Library → List Unit → List Bool → List Bool
begun library us set = gathered (unit_triggers library) us set

-- the first rule of the set, numbered from n, that isn't in the other one
abbrev pub outside_from : (other : List Bool) → ℕ → (set : List Bool) → Option ℕ
outside_from other n [] = None
outside_from other n (member ∷ set) = if member && not (slice_index_or other n true) then Some n else outside_from other (suc n) set

-- each rule of the set is in the other one
abbrev pub is_within : (other set : List Bool) → Bool
is_within other set = is_none (outside_from other 0 set)
