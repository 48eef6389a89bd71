-- The function that a group of firings is passed: it fires a task on a view, and counts the work.
use Rattle.std.specs.Prelude.{◌≡◌, ℕ, ◌<◌, ◌^◌, Result, IfOk}
use Rattle.std.specs.declared.alloc.AllocError.{AllocError}
use denote.Ref.{Bor, MutBor}
use denote.Param.Members.{Shared}
use Rattle.hp_model.specs.Rules.{Library}
use Rattle.hp_model.specs.Firing.{fire_task}
use Rattle.hp_rule.specs.declared.task.Task.{Task}
use Rattle.hp_rule.specs.Mapped.{task}
use Rattle.hp_view.specs.Seeing.{Seeing}
use Rattle.hp_attempt.specs.declared.outcome.Outcome.{Outcome}
use Rattle.hp_attempt.specs.Mapped.{firing}
use Rattle.hp_fire.specs.declared.speculate.past.Effort.{Effort}
use Rattle.hp_fire.specs.Runs.{RunsFiring}

module _ {F : Type 0} (g : Shared F (MutBor Seeing × (Bor Task × (Bor Effort × (ℕ × Unit {0})))) (Result Outcome AllocError × (MutBor Seeing × Unit {0}))) (f : F) where
  -- f may be called with this task, on each view
  abbrev pub MayFire : Task → Type 0
  MayFire t = (v : MutBor Seeing) (p : Bor Task) (e : Bor Effort) (width : ℕ) → p.now ≡ t → g.pre f (v, (p, (e, (width, tt))))

  -- what f does with a task is the task's firing
  abbrev pub Fires : Library → Type 0
  Fires library = (v : MutBor Seeing) (p : Bor Task) (e : Bor Effort) (width : ℕ) (r : Result Outcome AllocError) (v' : MutBor Seeing) → width < 2 ^ 64
      → g.post f (v, (p, (e, (width, tt)))) (r, (v', tt))
      → IfOk r (λ o. RunsFiring library (λ S. fire_task library S (task p.now)) v.now v'.now (firing o))
