use Rattle.std.proofs.Common.{sym, subst}
use Rattle.hp_model.specs.Cascade.{task_work}
use Rattle.hp_model.proofs.FaithfulTops.{faithful_task_work}
use Rattle.hp_rule.specs.Mapped.{library, task}
use Rattle.hp_fire.specs.Runs.{Runs}
use Rattle.hp_top.proofs.runner.Runner.run_detached.Goals as goal
use Rattle.hp_top.proofs.runner.Runner.run_detached.Goals as goal

pub returns : goal.returns
returns g c =
    let L = library c.args.self.now.engine.lib.now in
    let t = task c.args.task.now in
    c.in_ok-top.ensures.runs c.args.view.now (task_work L t) (sym c.enter-mark.ensures)
    (subst (λ a. Runs L (task_work L t) c.args.view.now c.run_firing.new.view a) (sym c.task_course-course.ensures)
    (record { goes_on = c.in_ok-outcome.ensures.goes_on; faithful = faithful_task_work t c.in_ok-outcome.ensures.faithful }))
