use Rattle.std.proofs.Common.{map, drop}
use Rattle.hp_rule.specs.Mapped.{library, task, detached}
use Rattle.hp_tree.specs.Mapped.{top_report}
use Rattle.hp_top.proofs.Cascading.{GenerationLeft}
use Rattle.hp_top.proofs.runner.Runner.run_generation.Given as goal

-- some tasks have run
abbrev pub invariant-loop-task : goal.invariant-loop-task
invariant-loop-task g l =
    GenerationLeft (library l.self.engine.lib.now) (map task l.tasks) (map task (drop l.task-index l.tasks)) l.fn.view l.view
    (record { transactions = map top_report l.tops.items; detached = map detached l.detached.items })
