use Rattle.std.proofs.Common.{◌-◌}
use Rattle.hp_model.specs.Cascade.{most_rounds}
use Rattle.hp_rule.specs.Mapped.{library}
use Rattle.hp_fire.specs.Mapped.{course}
use Rattle.hp_top.proofs.Coursing.{RoundsLeft}
use Rattle.hp_top.proofs.runner.Runner.run_rounds.Given as goal

-- the first rounds are done
abbrev pub invariant-loop : goal.invariant-loop
invariant-loop g l = RoundsLeft (library l.self.engine.lib.now) (most_rounds (library l.self.engine.lib.now)) (most_rounds (library l.self.engine.lib.now) - l.counter)
    l.fn.view l.view (course l.fn.begun) (course l.course)
