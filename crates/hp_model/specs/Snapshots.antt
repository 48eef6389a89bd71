-- States that no unit tells apart, and snapshots: units that make such a state again from nothing.
use Rattle.std.specs.Prelude.{◌≡◌, ℕ, suc, List, [], ◌∷◌, ◌++◌, length, map, flat_map, true, false}
use Rattle.hp_model.specs.Values.{Name, Value, integer, Row}
use Rattle.hp_model.specs.Occurrences.{Primitive, commit_reached, History}
use Rattle.hp_model.specs.Expressions.{constant}
use Rattle.hp_model.specs.Events.{Event, occurrence_of, is_pure, mentions}
use Rattle.hp_model.specs.Rules.{Assignment, create, on_rule, install, disable, Body, empty, ◌then◌, Library, rule_at}
use Rattle.hp_model.specs.State.{Objects, Status, absent, enabled, disabled, RuleState, State, rule_state, initial_state, IsFit}
use Rattle.hp_model.specs.Ranges.{IsFitLibrary}
use Rattle.hp_model.specs.Cascade.{Unit, transaction, moment, run_units}

-- ---- states that are alike

-- whatever is signalled after them, the event occurs alike after both pasts
abbrev pub SameFuture : Event → (past other : History) → Type 0
SameFuture event past other = (p : Primitive) (later : History) → occurrence_of event (later ++ p ∷ past) ≡ occurrence_of event (later ++ p ∷ other)

-- the rule has one status in both, and where it is enabled, its event goes on alike
pub record RulesAlike (event : Event) (r s : RuleState) : Type 0 where
  pub status : r.status ≡ s.status
  pub future : r.status ≡ enabled → SameFuture event r.past s.past

pub record StatesAlike (library : Library) (S T : State) : Type 0 where
  pub objects : S.objects ≡ T.objects
  pub rules : length S.rules ≡ length T.rules
  pub each : (n : ℕ) → RulesAlike (rule_at library n).event (rule_state S n) (rule_state T n)

-- from such states all later units have the same reports, and such states are left
abbrev pub AlikeGoOn : Type 0
AlikeGoOn = (library : Library) (units : List Unit) (S T : State) → StatesAlike library S T
    → ((run_units library units S).units ≡ (run_units library units T).units) × StatesAlike library (run_units library units S).state (run_units library units T).state

-- ---- snapshots

-- each field of the row, set to its value
abbrev pub assignments_of : Row → List Assignment
assignments_of row = map (λ (v : Name × Value). record { field = v.0; value = constant v.1 }) row

abbrev pub creations : Objects → Body
creations [] = empty
creations (o ∷ os) = create o.0.class (constant (integer o.0.key)) (assignments_of o.1) then creations os

-- the rule is left absent, is installed, or is installed and then disabled
abbrev pub restored : (rule : ℕ) → Status → Body → Body
restored n absent rest = rest
restored n enabled rest = on_rule install n then rest
restored n disabled rest = on_rule install n then (on_rule disable n then rest)

-- the rules from the n-th on
abbrev pub restorations : (n : ℕ) → List RuleState → Body
restorations n [] = empty
restorations n (r ∷ rs) = restored n r.status (restorations (suc n) rs)

-- the moments that have passed, the objects in as many transactions as one likes, and then the rules
abbrev pub snapshot : (now : ℕ) → (times : List ℕ) → List Objects → List RuleState → List Unit
snapshot now times parts rules = map moment times ++ (map (λ (part : Objects). transaction now (creations part)) parts ++ transaction now (restorations 0 rules) ∷ [])

-- the event doesn't look back, and a commit alone doesn't make it occur
abbrev pub forgets : Event → Type 0
forgets event = (is_pure event ≡ true) × (mentions event commit_reached ≡ false)

-- what reads a snapshot of a fit state leaves a state that is like it, if each enabled rule's event forgets
abbrev pub SnapshotsAreAlike : Type 0
SnapshotsAreAlike = (library : Library) (S : State) (now : ℕ) (times : List ℕ) (parts : List Objects) → IsFitLibrary library → IsFit library S
    → flat_map (λ (part : Objects). part) parts ≡ S.objects → ((n : ℕ) → (rule_state S n).status ≡ enabled → forgets (rule_at library n).event)
    → StatesAlike library S (run_units library (snapshot now times parts S.rules) (initial_state library)).state
