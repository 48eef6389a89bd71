use Rattle.std.proofs.Common.{◌≡◌, map}
use Rattle.hp_model.specs.Cascade as model
use Rattle.hp_rule.specs.Mapped.{task, detached}
use Rattle.hp_top.proofs.generations.due.Given as goal

-- the due ones among the tasks so far
abbrev pub invariant-loop-one : goal.invariant-loop-one
invariant-loop-one l = map task l.tasks.items ≡ model.due (map detached l.yielded)
