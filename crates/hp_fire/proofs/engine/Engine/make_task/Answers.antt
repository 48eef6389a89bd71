use Rattle.std.proofs.Common.{subst, map}
use Rattle.std.proofs.lemmas.Result.{err_from_is_err_and}
use Rattle.hp_model.specs.Firing.{start}
use Rattle.hp_rule.specs.Mapped.{library, task}
use Rattle.hp_fire.specs.Runs.{Runs}
use Rattle.hp_fire.specs.Statements.{below_at}
use Rattle.hp_fire.proofs.Stating.{fire_halt, fire_runs}
use Rattle.hp_fire.proofs.engine.Engine.make_task.Goals as goal

pub returns-in_err-task-clause-starts : goal.returns-in_err-task-clause-starts
returns-in_err-task-clause-starts g c = λ context.
    let p = err_from_is_err_and c.from_residual.result c.from_residual.ensures.1 in
    rw (p.1, p.2)
    (fire_halt c.args.self.now.lib.now context c.args.time c.args.depth c.args.rule c.in_err-task.field-0.0 c.args.view.now c.fire.new.view c.fire.ensures.only c.in_err-task.ensures.fires)

pub returns-clause-starts : goal.returns-clause-starts
returns-clause-starts g c = λ context. record {
  then_runs = λ {last} {a} r.
      fire_runs context c.fire.ensures.only c.in_ok-task.ensures.fires
      (subst (λ ts. Runs (library c.args.self.now.lib.now) (start (below_at c.args.self.now.lib.now c.args.depth) (map task ts)) c.fire.new.view last a) c.in_ok-tasks.ensures r);
}
