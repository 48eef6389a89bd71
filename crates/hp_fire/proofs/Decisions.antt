-- A task's firing before its action runs.
use Rattle.std.proofs.Common.{◌≡◌, refl, sym, subst, [], ◌∷◌, None}
use Rattle.hp_model.specs.Values.{Cause}
use Rattle.hp_model.specs.Conditions.{Findings, Verdict, unsatisfied, faulty, verdict}
use Rattle.hp_model.specs.Rules.{Library, Coupling, immediate, deferred, separate, dependent, exclusive, rule_at}
use Rattle.hp_model.specs.State.{State}
use Rattle.hp_model.specs.Tree.{condition_step, action_step, Task, Node, without_action, with_fault, with_action, with_later_action, fire_node, act_node}
use Rattle.hp_model.specs.Firing.{Firing, level_at, task_environment, action_task, fault_veto, follow, decide, take_step, run_action, fire_task}
use Rattle.hp_model.specs.Soundness.{FiringAnswer}
use Rattle.hp_model.specs.Answers.{FaithfulFiring, Finds, standing, handing_on}
use Rattle.hp_model.proofs.Faithful.{finds_more}
use Rattle.hp_model.proofs.FaithfulFirings.{faithful_inert, faithful_deferring, faithful_condition}
use Rattle.hp_value.specs.declared.occurrence.Coupling.{Coupling as RustCoupling}
use Rattle.hp_value.specs.declared.occurrence.Coupling.TheVariants.{Immediate, Deferred, Separate, Dependent, Exclusive}
use Rattle.hp_value.specs.Mapped.{coupling}
use Rattle.hp_view.specs.Seeing.{Seeing, written, OnlyReads}
use Rattle.hp_view.proofs.Views.{GoesOn-same, GoesOn-then}
use Rattle.hp_view.proofs.Reading.{GoesOn-only}
use Rattle.hp_fire.specs.declared.deciding.Decision.{Decision}
use Rattle.hp_fire.specs.declared.deciding.Decision.TheVariants.{Over, Acts}
use Rattle.hp_fire.specs.Runs.{RunsFiring}
use Rattle.hp_fire.specs.Decides.{ThenActs, DecidesFor, Decides, standing_in}
use Rattle.hp_fire.proofs.Steps.{only_written, grows}

-- ---- a satisfied condition

pub follow_now : (library : Library) (t : Task) (found : Findings) (place : Coupling) (node : Node) (view : Seeing) → place ≡ immediate → node ≡ fire_node t.rule t.place with_action
    → ThenActs library (follow place (level_at library t.now t.depth) t found) t view view node found
follow_now library t found place node view is named =
    subst (λ p. ThenActs library (follow p (level_at library t.now t.depth) t found) t view view node found) (sym is)
    (subst (λ n. ThenActs library (follow immediate (level_at library t.now t.depth) t found) t view view n found) (sym named)
    (record { goes_on = GoesOn-same view; then_action = λ more_reads p. p }))

pub follow_later : (library : Library) (t : Task) (found : Findings) (place : Coupling) (o : FiringAnswer) (view : Seeing) → (place ≡ immediate → ⊥)
    → o ≡ handing_on (fire_node t.rule t.place with_later_action) (action_task place t found ∷ []) → RunsFiring library (follow place (level_at library t.now t.depth) t found) view view o
follow_later library t found place o view apart is =
    subst (RunsFiring library (follow place (level_at library t.now t.depth) t found) view view) (sym is) (by place apart)
  where
    by : (p : Coupling) → (p ≡ immediate → ⊥)
        → RunsFiring library (follow p (level_at library t.now t.depth) t found) view view (handing_on (fire_node t.rule t.place with_later_action) (action_task p t found ∷ []))
    by immediate h = absurd (h refl)
    by deferred h = record { goes_on = GoesOn-same view; faithful = faithful_deferring (fire_node t.rule t.place with_later_action) (action_task deferred t found ∷ []) }
    by separate h = record { goes_on = GoesOn-same view; faithful = faithful_deferring (fire_node t.rule t.place with_later_action) (action_task separate t found ∷ []) }
    by dependent h = record { goes_on = GoesOn-same view; faithful = faithful_deferring (fire_node t.rule t.place with_later_action) (action_task dependent t found ∷ []) }
    by exclusive h = record { goes_on = GoesOn-same view; faithful = faithful_deferring (fire_node t.rule t.place with_later_action) (action_task exclusive t found ∷ []) }

-- ---- conditions

-- one that isn't satisfied
pub unsatisfied_over : (library : Library) (t : Task) (o : FiringAnswer) (view : Seeing) → o ≡ standing (fire_node t.rule t.place without_action) None
    → RunsFiring library (decide unsatisfied (level_at library t.now t.depth) t) view view o
unsatisfied_over library t o view is =
    subst (RunsFiring library (decide unsatisfied (level_at library t.now t.depth) t) view view) (sym is)
    (record { goes_on = GoesOn-same view; faithful = faithful_inert (fire_node t.rule t.place without_action) None })

pub faulty_over : (library : Library) (t : Task) (c : Cause) (o : FiringAnswer) (view : Seeing)
    → o ≡ standing (fire_node t.rule t.place (with_fault c)) (fault_veto (rule_at library t.rule).closed t.rule)
    → RunsFiring library (decide (faulty c) (level_at library t.now t.depth) t) view view o
faulty_over library t c o view is =
    subst (RunsFiring library (decide (faulty c) (level_at library t.now t.depth) t) view view) (sym is)
    (record { goes_on = GoesOn-same view; faithful = faithful_inert (fire_node t.rule t.place (with_fault c)) (fault_veto (rule_at library t.rule).closed t.rule) })

-- the action is to run, by a verdict which was found by reads alone
condition_acts : (library : Library) (t : Task) (v : Verdict) {old new : Seeing} {node : Node} {found : Findings} → t.step ≡ condition_step → OnlyReads old new
    → Finds library (λ S. verdict S.objects (task_environment t) (rule_at library t.rule).condition) new.reads (written new) v
    → ThenActs library (decide v (level_at library t.now t.depth) t) t new new node found → ThenActs library (λ S. fire_task library S t) t old new node found
condition_acts library t v {old} {new} step only finds p = record {
  goes_on = GoesOn-only only;
  then_action = λ {more} {after} {f} more_reads q.
      subst (λ s. FaithfulFiring library (λ S. take_step s (level_at library t.now t.depth) t S) more (written old) after f) (sym step)
      (subst (λ w. FaithfulFiring library (take_step condition_step (level_at library t.now t.depth) t) more w after f) (only_written only)
      (faithful_condition (level_at library t.now t.depth) t v (finds_more more_reads finds) (p.then_action more_reads q)));
}

-- by its verdict, which was found by reads alone
pub condition_decides : (library : Library) (t : Task) (v : Verdict) (old new : Seeing) (d : Decision) → t.step ≡ condition_step → OnlyReads old new
    → Finds library (λ S. verdict S.objects (task_environment t) (rule_at library t.rule).condition) new.reads (written new) v
    → DecidesFor library (decide v (level_at library t.now t.depth) t) t new new d → Decides library t old new d
condition_decides library t v old new (Over o) step only finds p = record {
  goes_on = GoesOn-only only;
  faithful = subst (λ s. FaithfulFiring library (λ S. take_step s (level_at library t.now t.depth) t S) new.reads (written old) (written new) (standing_in o)) (sym step)
      (subst (λ w. FaithfulFiring library (take_step condition_step (level_at library t.now t.depth) t) new.reads w (written new) (standing_in o)) (only_written only)
      (faithful_condition (level_at library t.now t.depth) t v finds p.faithful));
}
condition_decides library t v old new (Acts node found) step only finds p = condition_acts library t v step only finds p

-- ---- actions

pub action_acts : (library : Library) (t : Task) (found : Findings) (view : Seeing) → t.step ≡ action_step found
    → ThenActs library (λ S. fire_task library S t) t view view (act_node t.rule t.place) found
action_acts library t found view step = record {
  goes_on = GoesOn-same view;
  then_action = λ {more} {after} {f} more_reads p.
      subst (λ s. FaithfulFiring library (λ S. take_step s (level_at library t.now t.depth) t S) more (written view) after f) (sym step) p;
}

-- the action has run
pub acts_runs : {library : Library} {fire : State → Firing} {t : Task} {v w z : Seeing} {node : Node} {found : Findings} {f : FiringAnswer} → ThenActs library fire t v w node found
    → RunsFiring library (run_action node (level_at library t.now t.depth) t found) w z f → RunsFiring library fire v z f
acts_runs acts r = record { goes_on = GoesOn-then acts.goes_on r.goes_on; faithful = acts.then_action (grows r.goes_on) r.faithful }

-- ---- modes

pub apart_from_immediate : (p : RustCoupling) → (p ≡ Immediate → ⊥) → coupling p ≡ immediate → ⊥
apart_from_immediate Immediate apart e = apart refl
apart_from_immediate Deferred apart e = cc
apart_from_immediate Separate apart e = cc
apart_from_immediate Dependent apart e = cc
apart_from_immediate Exclusive apart e = cc
