-- What remains of a firing.
use Rattle.std.specs.Prelude.{List, map, option_map}
use Rattle.hp_model.specs.Rules.{Library}
use Rattle.hp_model.specs.State.{State}
use Rattle.hp_model.specs.Conditions.{Findings, Verdict, verdict}
use Rattle.hp_model.specs.Tree.{Task, Node}
use Rattle.hp_model.specs.Tree as T
use Rattle.hp_model.specs.Firing.{Firing, level_at, task_environment, decide, run_action, fire_task}
use Rattle.hp_model.specs.Cells.{Read, Changes}
use Rattle.hp_model.specs.Soundness.{FiringAnswer}
use Rattle.hp_model.specs.Answers.{FaithfulFiring, Finds}
use Rattle.hp_model.specs.Rules.{rule_at}
use Rattle.hp_model.proofs.Faithful.{Grows}
use Rattle.hp_query.specs.declared.entry.Findings.{Findings as RustFindings}
use Rattle.hp_query.specs.Mapped.{findings}
use Rattle.hp_value.specs.Mapped.{veto}
use Rattle.hp_rule.specs.Mapped.{task, detached}
use Rattle.hp_tree.specs.Mapped.{what}
use Rattle.hp_view.specs.Seeing.{Seeing, written, GoesOn, OnlyReads}
use Rattle.hp_fire.specs.declared.deciding.Standing.{Standing}
use Rattle.hp_fire.specs.declared.deciding.Decision.{Decision}
use Rattle.hp_fire.specs.declared.deciding.Decision.TheVariants.{Over, Acts}
use Rattle.hp_fire.specs.declared.deciding.Found.{Found}
use Rattle.hp_fire.specs.declared.deciding.Found.TheVariants.{Own, Shared}
use Rattle.hp_fire.specs.Runs.{RunsFiring}

-- the firing is the action's result, once that has run
pub record ThenActs (library : Library) (fire : State → Firing) (t : Task) (old new : Seeing) (node : Node) (found : Findings) : Type 0 where
  pub goes_on : GoesOn old new
  pub then_action : {more : List Read} {after : Changes} {f : FiringAnswer} → Grows new.reads more
      → FaithfulFiring library (run_action node (level_at library t.now t.depth) t found) more (written new) after f
      → FaithfulFiring library fire more (written old) after f

-- what the condition found
abbrev pub found_in : Found → RustFindings
found_in (Own f) = f
found_in (Shared f) = f.value

-- a firing that has only its node, perhaps a veto, and the tasks that it passes on
abbrev pub standing_in : Standing → FiringAnswer
standing_in s =
    record {
      vetoed_by = option_map veto s.veto;
      queued = map task s.queued.items;
      detached = map detached s.detached.items;
      items = T.node (what s.what) T.committed T.no_items T.no_items;
    }

-- the firing is over, or its action remains to run
abbrev pub DecidesFor : Library → (State → Firing) → Task → Seeing → Seeing → Decision → Type 0
DecidesFor library fire t old new (Over s) = RunsFiring library fire old new (standing_in s)
DecidesFor library fire t old new (Acts node found) = ThenActs library fire t old new (what node) (findings (found_in found))

-- the same for a task's own firing
abbrev pub Decides : Library → Task → Seeing → Seeing → Decision → Type 0
Decides library t old new d = DecidesFor library (λ S. fire_task library S t) t old new d

-- the same for a verdict on the condition, on each view
abbrev pub Follows : Library → Task → Verdict → Decision → Type 0
Follows library t v d = (view : Seeing) → DecidesFor library (decide v (level_at library t.now t.depth) t) t view view d

-- the verdict was found by reads alone: it holds in each state that agrees with them
pub record FindsVerdict (library : Library) (t : Task) (old new : Seeing) (v : Verdict) : Type 0 where
  pub only : OnlyReads old new
  pub finds : Finds library (λ S. verdict S.objects (task_environment t) (rule_at library t.rule).condition) new.reads (written new) v
