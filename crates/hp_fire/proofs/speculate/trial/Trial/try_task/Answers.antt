use Rattle.std.proofs.Common.{rules, ◌≡◌, ◌<◌, ◌^◌, ◌∙◌, subst, Ok, IfOk}
use Rattle.std.proofs.lemmas.Result.{IfOk-weaker}
use Rattle.hp_model.specs.Cells.{Holds}
use Rattle.hp_model.specs.Firing.{fire_task}
use Rattle.hp_rule.specs.Mapped.{library, task}
use Rattle.hp_store.specs.Stack.{Stack, cells_in}
use Rattle.hp_attempt.specs.Mapped.{firing}
use Rattle.hp_fire.specs.Runs.{RunsFiring}
use Rattle.hp_fire.proofs.speculate.trial.Trial.try_task.Goals as goal

pub returns-clause-sound : goal.returns-clause-sound
returns-clause-sound g c =
    let lib = library c.args.self.now.lib.now in
    let fits : c.args.self.now.width < 2 ^ 64 = search rules in
    let is : c.fire.result ≡ Ok c.in_ok-outcome.outcome = search rules in
    let fired = subst (λ r. IfOk r (λ o. RunsFiring (library c.args.self.now.lib.now) (λ S. fire_task (library c.args.self.now.lib.now) S (task c.args.task.now))
    c.in_ok-view.view c.fire.new.arg2 (firing o))) is (c.requires.firings _ _ _ _ _ _ fits c.fire.ensures) in
    IfOk-weaker c.attempt_on.result _ _ (λ a sound. sound lib c.in_ok-view.view c.in_ok-view.ensures.writes fired) c.attempt_on.ensures.sound

pub returns-clause-reads_held : goal.returns-clause-reads_held
returns-clause-reads_held g c =
    let fits : c.args.self.now.width < 2 ^ 64 = search rules in
    let is : c.fire.result ≡ Ok c.in_ok-outcome.outcome = search rules in
    let fired : RunsFiring (library c.args.self.now.lib.now) (λ S. fire_task (library c.args.self.now.lib.now) S (task c.args.task.now)) c.in_ok-view.view
    c.fire.new.arg2 (firing c.in_ok-outcome.outcome) =
    subst (λ r. IfOk r (λ o. RunsFiring (library c.args.self.now.lib.now) (λ S. fire_task (library c.args.self.now.lib.now) S (task c.args.task.now))
    c.in_ok-view.view c.fire.new.arg2 (firing o))) is (c.requires.firings _ _ _ _ _ _ fits c.fire.ensures) in
    subst (λ (s : Stack). IfOk c.attempt_on.result (λ a. Holds (cells_in s) a.reads)) (fired.goes_on.base ∙ c.in_ok-view.ensures.base) c.attempt_on.ensures.reads_held
