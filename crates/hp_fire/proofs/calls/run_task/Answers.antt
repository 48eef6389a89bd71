use Rattle.std.proofs.Common.{ap, ◌∙◌, subst, IfOk}
use Rattle.std.proofs.lemmas.Result.{IfOk-weaker}
use Rattle.hp_model.specs.Cells.{Holds}
use Rattle.hp_model.specs.Soundness.{IsSound}
use Rattle.hp_rule.specs.Mapped.{library}
use Rattle.hp_store.specs.Stack.{Stack, cells_in}
use Rattle.hp_attempt.specs.Mapped.{attempt}
use Rattle.hp_fire.proofs.calls.run_task.Goals as goal

pub returns-clause-sound : goal.returns-clause-sound
returns-clause-sound g c =
    IfOk-weaker c.attempt_on.result _ _ (λ a sound.
    subst (λ l. IsSound (library l) (attempt a)) (ap (λ r. r.now) c.new-engine.ensures.lib)
    (sound (library c.new-engine.result.lib.now) c.in_ok-view.view c.in_ok-view.ensures.writes c.in_ok-outcome.ensures))
    c.attempt_on.ensures.sound

pub returns-clause-reads_held : goal.returns-clause-reads_held
returns-clause-reads_held g c =
    subst (λ (s : Stack). IfOk c.attempt_on.result (λ a. Holds (cells_in s) a.reads)) (c.in_ok-outcome.ensures.goes_on.base ∙ c.in_ok-view.ensures.base) c.attempt_on.ensures.reads_held

pub returns-clause-task : goal.returns-clause-task
returns-clause-task g c = c.attempt_on.ensures.task
