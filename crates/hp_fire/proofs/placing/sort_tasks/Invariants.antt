use Rattle.std.proofs.Common.{◌≡◌, ◌++◌, map}
use Rattle.std.specs.Prelude.{filter}
use Rattle.hp_model.specs.Rules.{is_immediate}
use Rattle.hp_model.specs.Tree.{Task}
use Rattle.hp_model.specs.Transactions.{deferred_of, detached_of, unreleased}
use Rattle.hp_rule.specs.Mapped.{task, detached}
use Rattle.hp_fire.proofs.placing.sort_tasks.Given as goal

-- those so far of each kind, and those of the rest, are those of all
abbrev pub invariant-loop-task : goal.invariant-loop-task
invariant-loop-task l =
    let rest = map task l.task-iterator.rest.items in
    let all = map task l.fn.tasks.items in
    (map task l.immediate.items ++ filter (λ (t : Task). is_immediate t.place) rest ≡ filter (λ (t : Task). is_immediate t.place) all)
    × ((map task l.queued.items ++ deferred_of rest ≡ deferred_of all)
    × (map detached l.detached.items ++ map unreleased (detached_of rest) ≡ map unreleased (detached_of all)))
