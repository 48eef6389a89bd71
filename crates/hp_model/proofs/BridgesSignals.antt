-- The effect of a signal on a state's detectors, and the tasks that it triggers, in terms of the state's cells.
use Rattle.std.proofs.Common.{arith, ◌≡◌, refl, ap, ap₂, sym, ◌∙◌, ℕ, suc, ◌+◌, ◌<◌, Bool, true, false, List, [], ◌∷◌, map, length, Option, Some, None}
use Rattle.std.specs.Prelude.{option_map, filter_map, if◌then◌else◌}
use Rattle.std.specs.List.{slice_index_or}
use Rattle.std.proofs.Math.ListN.{get_or-map}
use Rattle.std.proofs.lemmas.List.{length-map}
use Rattle.hp_model.specs.Occurrences.{Primitive, History, Occurrence}
use Rattle.hp_model.specs.Events.{is_pure}
use Rattle.hp_model.specs.Knowledge.{Knowledge, knowledge}
use Rattle.hp_model.specs.Rules.{Rule, no_rule, Library, rule_at}
use Rattle.hp_model.specs.State.{State, Status, absent, enabled, disabled, RuleState, rule_state, with_status, extended_rule, extended, IsOrdered}
use Rattle.hp_model.specs.Cells.{rule_cell, detector_cell, CellValue, knowledge_value, Cells, cells, knowledge_in, changed}
use Rattle.hp_model.specs.Tree.{Task}
use Rattle.hp_model.specs.Firing.{Level, triggered_by, task_if, triggered_from, triggered}
use Rattle.hp_model.proofs.Detecting.{advance, advance_lem}
use Rattle.hp_model.proofs.BridgesReads.{status_at, known_by, status-cells, known-cells}

-- a rule's state after a signal
pub rule_state-extended : (p : Primitive) (S : State) (n : ℕ) → rule_state (extended p S) n ≡ extended_rule p (rule_state S n)
rule_state-extended p S n = get_or-map (extended_rule p) S.rules n (with_status absent)

-- ---- the cells after a signal

abbrev state_of : Status → History → RuleState
state_of status past = record { status = status; past = past }

status_kept : (p : Primitive) (s : Status) (h : History) → (extended_rule p (state_of s h)).status ≡ s
status_kept p absent h = refl
status_kept p enabled h = refl
status_kept p disabled h = refl

-- no rule's status changes
pub extended-status : (p : Primitive) (S : State) (n : ℕ) → (rule_state (extended p S) n).status ≡ (rule_state S n).status
extended-status p S n = ap (λ (r : RuleState). r.status) (rule_state-extended p S n) ∙ status_kept p (rule_state S n).status (rule_state S n).past

-- how a signal changes a detector's cell
abbrev pub heard : Rule → Primitive → Option CellValue → Option (Option CellValue)
heard rule p (Some (knowledge_value k)) = Some (Some (knowledge_value (advance rule.event k p).1))
heard rule p value = None

heard_next : (rule : Rule) (p : Primitive) (s : Status) (h : History)
    → knowledge_in rule (extended_rule p (state_of s h)).status (extended_rule p (state_of s h)) ≡ changed (knowledge_in rule s (state_of s h)) (heard rule p (knowledge_in rule s (state_of s h)))
heard_next rule p absent h = refl
heard_next rule p disabled h = refl
heard_next rule p enabled h = by (is_pure rule.event)
  where
    at : Bool → History → Option CellValue
    at b past = if b then None else Some (knowledge_value (knowledge rule.event past))

    by : (b : Bool) → at b (p ∷ h) ≡ changed (at b h) (heard rule p (at b h))
    by true = refl
    by false = ap (λ (a : Option Occurrence × Knowledge). Some (knowledge_value a.1)) (sym (advance_lem rule.event p h))

-- a detector's cell after a signal, from its value before
pub extended-detector : (library : Library) (p : Primitive) (S : State) (n : ℕ)
    → cells library (extended p S) (detector_cell n) ≡ changed (cells library S (detector_cell n)) (heard (rule_at library n) p (cells library S (detector_cell n)))
extended-detector library p S n =
    ap (λ (r : RuleState). knowledge_in (rule_at library n) r.status r) (rule_state-extended p S n) ∙ heard_next (rule_at library n) p (rule_state S n).status (rule_state S n).past

-- ---- the tasks that a signal triggers

-- a rule's task, from its status and its event's occurrence
abbrev pub task_by : Status → Level → ℕ → Rule → Option Occurrence → Option Task
task_by enabled level n rule o = option_map (triggered_by level n rule) o
task_by status level n rule o = None

-- a rule's task, from its two cells before the signal
abbrev pub task_at : Level → ℕ → Rule → Primitive → (status detector : Option CellValue) → Option Task
task_at level n rule p status detector = task_by (status_at status) level n rule (advance rule.event (known_by rule.event detector) p).0

task_heard : (level : Level) (n : ℕ) (rule : Rule) (p : Primitive) (s : Status) (h : History) (k : Knowledge) → (s ≡ enabled → k ≡ knowledge rule.event h)
    → task_if (extended_rule p (state_of s h)).status level n rule (extended_rule p (state_of s h)).past ≡ task_by s level n rule (advance rule.event k p).0
task_heard level n rule p absent h k known = refl
task_heard level n rule p disabled h k known = refl
task_heard level n rule p enabled h k known =
    ap (λ (a : Option Occurrence × Knowledge). option_map (triggered_by level n rule) a.0) (sym (ap (λ x. advance rule.event x p) (known refl) ∙ advance_lem rule.event p h))

-- what a signal makes a rule do, from the rule's cells
pub task-cells : (level : Level) (p : Primitive) (S : State) (n : ℕ)
    → task_if (rule_state (extended p S) n).status level n (rule_at level.library n) (rule_state (extended p S) n).past
    ≡ task_at level n (rule_at level.library n) p (cells level.library S (rule_cell n)) (cells level.library S (detector_cell n))
task-cells level p S n =
    ap (λ (r : RuleState). task_if r.status level n (rule_at level.library n) r.past) (rule_state-extended p S n)
    ∙ task_heard level n (rule_at level.library n) p (rule_state S n).status (rule_state S n).past known (known-cells level.library S n)
    ∙ ap (λ s. task_by s level n (rule_at level.library n) (advance (rule_at level.library n).event known p).0) (status-cells level.library S n)
  where
    known : Knowledge
    known = known_by (rule_at level.library n).event (cells level.library S (detector_cell n))

-- the tasks of the rules from the n-th on, from the rules' cells before the signal
abbrev pub tasks_at : Level → Primitive → Cells → ℕ → List Rule → List (Option Task)
tasks_at level p now n [] = []
tasks_at level p now n (rule ∷ rules) = task_at level n rule p (now (rule_cell n)) (now (detector_cell n)) ∷ tasks_at level p now (suc n) rules

tasks_from : (level : Level) (p : Primitive) (S : State) (n : ℕ) (rules : List Rule) (rs : List RuleState) → length rs ≡ length rules
    → ((k m : ℕ) → k < length rules → m ≡ n + k → rule_at level.library m ≡ slice_index_or rules k no_rule)
    → ((k m : ℕ) → k < length rules → m ≡ n + k → rule_state (extended p S) m ≡ slice_index_or rs k (with_status absent))
    → triggered_from level n rules rs ≡ tasks_at level p (cells level.library S) n rules
tasks_from level p S n [] rs same at there = refl
tasks_from level p S n (rule ∷ rules) [] same at there = absurd (omega arith)
tasks_from level p S n (rule ∷ rules) (r ∷ rs) same at there =
    ap₂ (λ (t : Option Task) (ts : List (Option Task)). t ∷ ts) first_task
    (tasks_from level p S (suc n) rules rs (omega arith) (λ k m below is. at (suc k) m (omega arith) (omega arith)) (λ k m below is. there (suc k) m (omega arith) (omega arith)))
  where
    first_task : task_if r.status level n rule r.past ≡ task_at level n rule p (cells level.library S (rule_cell n)) (cells level.library S (detector_cell n))
    first_task =
        ap₂ (λ (u : Rule) (t : RuleState). task_if t.status level n u t.past) (sym (at 0 n (omega arith) (omega arith))) (sym (there 0 n (omega arith) (omega arith)))
        ∙ task-cells level p S n
        ∙ ap (λ u. task_at level n u p (cells level.library S (rule_cell n)) (cells level.library S (detector_cell n))) (at 0 n (omega arith) (omega arith))

-- the tasks that a signal triggers
pub triggered-cells : (level : Level) (p : Primitive) (S : State) → IsOrdered level.library S
    → triggered level (extended p S) ≡ filter_map (λ t. t) (tasks_at level p (cells level.library S) 0 level.library.rules)
triggered-cells level p S ordered =
    ap (filter_map (λ (t : Option Task). t))
    (tasks_from level p S 0 level.library.rules (map (extended_rule p) S.rules) (length-map S.rules (extended_rule p) ∙ ordered.each_rule)
    (λ k m below is. let e : m ≡ k = omega arith in ap (rule_at level.library) e)
    (λ k m below is. let e : m ≡ k = omega arith in ap (rule_state (extended p S)) e))
