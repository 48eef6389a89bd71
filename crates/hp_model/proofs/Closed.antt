-- A firing of a closed rule that doesn't veto ended well.
use Rattle.std.proofs.Common.{◌≡◌, refl, subst, ℕ, List, [], ◌∷◌, Option, None, Some, true}
use Rattle.hp_model.specs.Values.{Veto}
use Rattle.hp_model.specs.Rules.{Coupling, immediate, deferred, separate, dependent, exclusive, Library, rule_at}
use Rattle.hp_model.specs.State.{State}
use Rattle.hp_model.specs.Tree.{Task, Step, condition_step, action_step, Node, fire_node, act_node, with_action}
use Rattle.hp_model.specs.Transactions.{End, done, abort_by, veto_by, Course, closed_by}
use Rattle.hp_model.specs.Conditions.{Findings, Verdict, satisfied, unsatisfied, faulty, verdict}
use Rattle.hp_model.specs.Firing.{Firing, Siblings, after_firing, siblings, end_of, closed_veto, action_veto, fault_veto, run_action, action_course, follow, decide, take_step}
use Rattle.hp_model.specs.Firing.{level_at, fire_task, task_environment}
use Rattle.hp_model.specs.Cascade.{veto_end}
use Rattle.hp_model.specs.Laws.{EndsWell, FiringEndsWell, ClosedFiringsVeto, AreClosedWell, ClosedGroupsAbort, ClosedTasksAbort}

-- an action as a firing of a closed rule, in a node that says how it ended
abbrev SaysEnd : Node → Type 0
SaysEnd what = (S : State) (c : Course) (rule : ℕ) (e : End) → closed_veto rule e ≡ None → EndsWell what (closed_by e S c).ending

fire_says : (rule : ℕ) (place : Coupling) → SaysEnd (fire_node rule place with_action)
fire_says rule place S c n done h = refl
fire_says rule place S c n (abort_by x) h = cc
fire_says rule place S c n (veto_by v) h = cc

act_says : (rule : ℕ) (place : Coupling) → SaysEnd (act_node rule place)
act_says rule place S c n done h = refl
act_says rule place S c n (abort_by x) h = cc
act_says rule place S c n (veto_by v) h = cc

module _ (library : Library) (t : Task) (is_closed : (rule_at library t.rule).closed ≡ true) (S : State) where
  action_well : (what : Node) → SaysEnd what → (found : Findings) → (run_action what (level_at library t.now t.depth) t found S).vetoed_by ≡ None
      → FiringEndsWell (run_action what (level_at library t.now t.depth) t found S).items
  action_well what says found none =
      let c = action_course (level_at library t.now t.depth) t found S in
      says S c t.rule c.end (subst (λ b. action_veto b t.rule c.end ≡ None) is_closed none)

  follow_well : (place : Coupling) (found : Findings) → (follow place (level_at library t.now t.depth) t found S).vetoed_by ≡ None
      → FiringEndsWell (follow place (level_at library t.now t.depth) t found S).items
  follow_well immediate found none = action_well (fire_node t.rule t.place with_action) (fire_says t.rule t.place) found none
  follow_well deferred found none = refl
  follow_well separate found none = refl
  follow_well dependent found none = refl
  follow_well exclusive found none = refl

  fault_vetoes : fault_veto (rule_at library t.rule).closed t.rule ≡ None → ⊥
  fault_vetoes none = let some = subst (λ b. fault_veto b t.rule ≡ None) is_closed none in cc

  decide_well : (v : Verdict) → (decide v (level_at library t.now t.depth) t S).vetoed_by ≡ None → FiringEndsWell (decide v (level_at library t.now t.depth) t S).items
  decide_well (satisfied found) none = follow_well (rule_at library t.rule).action_coupling found none
  decide_well unsatisfied none = refl
  decide_well (faulty c) none = fault_vetoes none

  step_well : (s : Step) → (take_step s (level_at library t.now t.depth) t S).vetoed_by ≡ None → FiringEndsWell (take_step s (level_at library t.now t.depth) t S).items
  step_well condition_step none = decide_well (verdict S.objects (task_environment t) (rule_at library t.rule).condition) none
  step_well (action_step found) none = action_well (act_node t.rule t.place) (act_says t.rule t.place) found none

pub closed_firings_veto : ClosedFiringsVeto
closed_firings_veto library t is_closed S none = step_well library t is_closed S t.step none

-- ---- groups and tasks

none_ended : (v : Option Veto) → end_of v ≡ done → v ≡ None
none_ended None e = refl
none_ended (Some v) e = cc

none_vetoed : (v : Option Veto) → veto_end v ≡ done → v ≡ None
none_vetoed None e = refl
none_vetoed (Some v) e = cc

module _ (library : Library) where
  one_well : (t : Task) (ts : List Task) (v : Option Veto) (f : Firing) (rest : State → Siblings) → (v ≡ None → (rule_at library t.rule).closed ≡ true → FiringEndsWell f.items)
      → ((S : State) → (rest S).vetoed_by ≡ None → AreClosedWell library ts (rest S).firings)
      → (after_firing true v f rest).vetoed_by ≡ None → AreClosedWell library (t ∷ ts) (after_firing true v f rest).firings
  one_well t ts (Some v) f rest first later none = cc
  one_well t ts None f rest first later none = (first refl, later f.state none)

  group_well : (ts : List Task) (S : State) → (siblings (fire_task library) true ts S).vetoed_by ≡ None → AreClosedWell library ts (siblings (fire_task library) true ts S).firings
  group_well [] S none = tt
  group_well (t ∷ ts) S none =
      one_well t ts (fire_task library S t).vetoed_by (fire_task library S t) (siblings (fire_task library) true ts)
      (λ unvetoed is_closed. closed_firings_veto library t is_closed S unvetoed) (λ S' later. group_well ts S' later) none

pub closed_groups_abort : ClosedGroupsAbort
closed_groups_abort library ts S e = group_well library ts S (none_ended (siblings (fire_task library) true ts S).vetoed_by e)

pub closed_tasks_abort : ClosedTasksAbort
closed_tasks_abort library t is_closed S e = closed_firings_veto library t is_closed S (none_vetoed (fire_task library S t).vetoed_by e)
