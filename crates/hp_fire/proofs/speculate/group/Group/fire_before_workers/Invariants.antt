use Rattle.std.proofs.Common.{◌≡◌, None, length, map}
use Rattle.std.specs.Prelude.{option_map}
use Rattle.hp_value.specs.Mapped.{veto}
use Rattle.hp_rule.specs.Mapped.{library, task}
use Rattle.hp_fire.specs.Groups.{IsSoFar}
use Rattle.hp_fire.proofs.speculate.group.Group.fire_before_workers.Given as goal

abbrev pub invariant-loop-task : goal.invariant-loop-task
invariant-loop-task g l =
    IsSoFar (library l.self.engine.lib.now) l.self.stop_at_veto (map task l.self.tasks.now) l.fn.view l.view l.settled.outcomes.items (option_map veto l.settled.end)
    × (l.settled.end ≡ None) × (length l.settled.outcomes.items ≡ l.task-index)
