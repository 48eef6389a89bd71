use Rattle.std.proofs.Common.{◌≡◌, drop, map}
use Rattle.std.specs.List.{list_all}
use Rattle.hp_model.specs.Rules.{is_immediate}
use Rattle.hp_model.specs.Tree.{Task}
use Rattle.hp_rule.specs.Mapped.{task}
use Rattle.hp_fire.proofs.placing.are_immediate.Given as goal

abbrev pub invariant-loop-task : goal.invariant-loop-task
invariant-loop-task l = list_all (λ (t : Task). is_immediate t.place) (map task (drop l.task-index l.tasks)) ≡ list_all (λ (t : Task). is_immediate t.place) (map task l.tasks)
