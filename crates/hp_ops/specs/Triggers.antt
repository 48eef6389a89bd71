-- What a signal promises, and the statement that fires a rule.
use Rattle.std.specs.Prelude.{◌≡◌, ⊤, ℕ, suc, ◌<◌, List, ◌∷◌, map, Result, Ok, Err}
use Rattle.std.specs.Global.{Vec}
use Rattle.hp_model.specs.Occurrences.{Primitive}
use Rattle.hp_model.specs.Rules.{Library}
use Rattle.hp_model.specs.State.{Status, absent, rule_state, extended}
use Rattle.hp_model.specs.Tree.{Task}
use Rattle.hp_model.specs.Transactions.{abort_by}
use Rattle.hp_model.specs.Firing.{level_at, triggered, signal_in, fired_task, start_fired}
use Rattle.hp_model.specs.Soundness.{Faithful}
use Rattle.hp_model.specs.Answers.{FaithfulWork, Finds, ended}
use Rattle.hp_model.proofs.FaithfulFirings.{AreAt}
use Rattle.hp_value.specs.declared.halt.Halt.{Halt}
use Rattle.hp_value.specs.declared.halt.Halt.TheVariants.{Cause as ByCause, Memory}
use Rattle.hp_value.specs.Mapped.{cause}
use Rattle.hp_rule.specs.declared.task.Task.{Task as RustTask}
use Rattle.hp_rule.specs.Mapped.{task}
use Rattle.hp_view.specs.Seeing.{Seeing, written, ReadsMore}

-- all rules that the occurrence concerns have been notified, and these are the tasks of those that it triggers
pub record IsTriggered (library : Library) (now depth : ℕ) (p : Primitive) (old new : Seeing) (tasks : List Task) : Type 0 where
  pub heard : Faithful library (λ S. triggered (level_at library now depth) (extended p S)) (extended p) new.reads (written old) (written new) tasks
  pub at : AreAt (suc depth) tasks
  -- a task isn't too deep
  pub within : (t : Task) (ts : List Task) → tasks ≡ t ∷ ts → depth < library.depth_limit

-- the tasks that a signal triggers, or the cause for which it aborts the transaction around it; if memory ran out,
-- nothing is written
abbrev pub Triggers : Library → (now depth : ℕ) → Primitive → Seeing → Seeing → Result (Vec RustTask) Halt → Type 0
Triggers library now depth p old new (Ok tasks) = IsTriggered library now depth p old new (map task tasks.items)
Triggers library now depth p old new (Err (ByCause c)) = FaithfulWork library (signal_in (level_at library now depth) p) new.reads (written old) (written new) (ended (abort_by (cause c)))
Triggers library now depth p old new (Err Memory) = ReadsMore old new

-- a rule that exists is fired without an occurrence, and this is its task
pub record IsFired (library : Library) (now depth n : ℕ) (w : Seeing) (t : Task) : Type 0 where
  pub status : Status
  pub finds : Finds library (λ S. (rule_state S n).status) w.reads (written w) status
  pub there : status ≡ absent → ⊥
  pub is : t ≡ fired_task (level_at library now depth) n
  pub within : depth < library.depth_limit

-- the task, or the cause for which the statement aborts the transaction around it, unless memory ran out
abbrev pub Fires : Library → (now depth n : ℕ) → Seeing → Result RustTask Halt → Type 0
Fires library now depth n w (Ok t) = IsFired library now depth n w (task t)
Fires library now depth n w (Err (ByCause c)) =
    FaithfulWork library (λ S. start_fired (rule_state S n).status (level_at library now depth) n S) w.reads (written w) (written w) (ended (abort_by (cause c)))
Fires library now depth n w (Err Memory) = ⊤
