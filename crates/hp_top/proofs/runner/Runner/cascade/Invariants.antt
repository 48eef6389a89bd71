use Rattle.std.proofs.Common.{map, ◌-◌}
use Rattle.hp_model.specs.Cascade.{most_rounds}
use Rattle.hp_rule.specs.Mapped.{library, task}
use Rattle.hp_tree.specs.Mapped.{top_report}
use Rattle.hp_top.proofs.Cascading.{CascadeLeft}
use Rattle.hp_top.proofs.runner.Runner.cascade.Given as goal

-- the first generations have run
abbrev pub invariant-loop : goal.invariant-loop
invariant-loop g l =
    CascadeLeft (library l.self.engine.lib.now) (map task l.fn.tasks.items) (most_rounds (library l.self.engine.lib.now) - l.counter) (map task l.next.items)
    l.fn.view l.view (map top_report l.reports.items)
