use Rattle.std.proofs.Common.{◌-◌, length, map}
use Rattle.std.specs.Prelude.{option_map}
use Rattle.hp_value.specs.Mapped.{veto}
use Rattle.hp_rule.specs.Mapped.{library, task}
use Rattle.hp_attempt.specs.Fronts.{AreSound}
use Rattle.hp_fire.specs.Groups.{IsSoFar, IsCounted}
use Rattle.hp_fire.proofs.speculate.group.Group.run.Given as goal

abbrev pub invariant-loop-view : goal.invariant-loop-view
invariant-loop-view g l =
    IsCounted l.progress × AreSound (library l.self.engine.lib.now) l.progress.pending.attempts.items
    × IsSoFar (library l.self.engine.lib.now) l.self.stop_at_veto (map task l.self.tasks.now) l.fn.view l.view l.progress.settled.outcomes.items (option_map veto l.progress.settled.end)

abbrev pub decreases-loop-view : goal.decreases-loop-view
decreases-loop-view g l = length l.self.tasks.now - length l.progress.settled.outcomes.items
