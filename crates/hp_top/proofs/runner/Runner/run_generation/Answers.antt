use Rattle.std.proofs.Common.{rules, subst, ◌+◌, drop, map}
use Rattle.std.proofs.lemmas.List.{drop_all}
use Rattle.hp_model.specs.Answers.{GenerationAnswer}
use Rattle.hp_rule.specs.Mapped.{library, task, detached}
use Rattle.hp_tree.specs.Mapped.{top_report}
use Rattle.hp_top.proofs.Cascading.{GenerationLeft, generation_ran, generation_all}
use Rattle.hp_ops.proofs.Worlds.{split_at}
use Rattle.hp_top.proofs.runner.Runner.run_generation.Goals as goal

pub loop-task-preserved : goal.loop-task-preserved
loop-task-preserved g c =
    let tasks = c.args.tasks.now in
    let i = c.loop-task.task-index in
    generation_ran c.task-item.result (drop i tasks) (drop (i + 1) tasks) c.loop-task.tops.items c.push.new.self.items c.loop-task.detached.items c.append.new.self.items c.in_ok-top.top
    (split_at tasks i c.task-item.result c.loop-task-test.true c.task-item.is) (search rules) (search rules) c.loop-task.invariant c.in_ok-top.ensures

pub returns : goal.returns
returns g c =
    let now : GenerationAnswer = record { transactions = map top_report c.loop-task.tops.items; detached = map detached c.loop-task.detached.items } in
    generation_all (subst (λ ts. GenerationLeft (library c.args.self.now.engine.lib.now) (map task c.args.tasks.now) (map task ts) c.args.view.now c.loop-task.view now)
    (drop_all c.loop-task.task-index c.args.tasks.now c.loop-task-test.false) c.loop-task.invariant)
