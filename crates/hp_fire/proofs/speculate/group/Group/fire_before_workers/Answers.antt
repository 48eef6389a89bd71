use Rattle.std.proofs.Common.{rules, arith, ◌≡◌, ap, ◌∙◌, ◌+◌, [], ◌∷◌, None, drop, length, length-append, map}
use Rattle.std.proofs.lemmas.List.{drop-map}
use Rattle.std.specs.Prelude.{option_map}
use Rattle.hp_value.specs.Mapped.{veto}
use Rattle.hp_rule.specs.Mapped.{task}
use Rattle.hp_ops.proofs.Worlds.{split_at}
use Rattle.hp_fire.proofs.Helping.{so_far_starts, so_far_ran}
use Rattle.hp_fire.proofs.speculate.group.Group.fire_before_workers.Goals as goal

pub returns-then-starts_workers-clause-so_far : goal.returns-then-starts_workers-clause-so_far
returns-then-starts_workers-clause-so_far g c = c.loop-task.invariant.0

pub loop-task-init : goal.loop-task-init
loop-task-init g c =
    let none = c.in_ok-settled.ensures.0 in (
      so_far_starts c.in_ok-settled.settled.outcomes.items (option_map veto c.in_ok-settled.settled.end) none (ap (option_map veto) c.in_ok-settled.ensures.1),
      c.in_ok-settled.ensures.1,
      ap length none,
    )

pub returns-then-is_some-clause-so_far : goal.returns-then-is_some-clause-so_far
returns-then-is_some-clause-so_far g c =
    let tasks = c.args.self.now.tasks.now in
    let at = c.loop-task.invariant.2 in
    let here = ap (λ n. drop n (map task tasks)) at ∙ drop-map task c.loop-task.task-index tasks
    ∙ ap (map task) (split_at tasks c.loop-task.task-index c.task-item.result c.loop-task-test.true c.task-item.is) in
    so_far_ran c.loop-task.settled.outcomes.items c.add.new.self.outcomes.items (option_map veto c.loop-task.settled.end) (option_map veto c.add.new.self.end)
    (task c.task-item.result) _ c.in_ok-outcome.outcome (ap (option_map veto) c.loop-task.invariant.1) here
    c.in_ok-add.ensures.outcomes c.in_ok-add.ensures.end c.loop-task.invariant.0 c.in_ok-outcome.ensures

pub loop-task-preserved : goal.loop-task-preserved
loop-task-preserved g c =
    let tasks = c.args.self.now.tasks.now in
    let at = c.loop-task.invariant.2 in
    let here = ap (λ n. drop n (map task tasks)) at ∙ drop-map task c.loop-task.task-index tasks
    ∙ ap (map task) (split_at tasks c.loop-task.task-index c.task-item.result c.loop-task-test.true c.task-item.is) in
    let none : c.add.new.self.end ≡ None = search rules in
    let one = ap length c.in_ok-add.ensures.outcomes ∙ length-append c.loop-task.settled.outcomes.items (c.in_ok-outcome.outcome ∷ []) in
    let long : length c.add.new.self.outcomes.items ≡ c.loop-task.task-index + 1 = omega (arith, one, at) in (
      so_far_ran c.loop-task.settled.outcomes.items c.add.new.self.outcomes.items (option_map veto c.loop-task.settled.end) (option_map veto c.add.new.self.end)
          (task c.task-item.result) _ c.in_ok-outcome.outcome (ap (option_map veto) c.loop-task.invariant.1) here
          c.in_ok-add.ensures.outcomes c.in_ok-add.ensures.end c.loop-task.invariant.0 c.in_ok-outcome.ensures,
      none,
      long,
    )
