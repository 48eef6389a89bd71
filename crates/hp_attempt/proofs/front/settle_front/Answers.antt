use Rattle.std.proofs.Common.{sym, ap, ◌∙◌, ◌+◌, [], ◌∷◌, ◌++◌, length, length-append, drop, map}
use Rattle.hp_rule.specs.Mapped.{task}
use Rattle.hp_model.proofs.FaithfulFirings.{goes_on}
use Rattle.hp_view.proofs.Views.{GoesOn-same, GoesOn-then}
use Rattle.hp_attempt.specs.Mapped.{veto_in}
use Rattle.hp_attempt.proofs.Fronting.{none_yet, takes_none, no_outcomes, takes_same, takes_unpushed, on_err, front_end, front_ordered, ended, step, halting, not_halting, tasks_left}
use Rattle.hp_attempt.proofs.front.settle_front.Goals as goal

pub loop-task-init : goal.loop-task-init
loop-task-init c = record {
  count = ap length c.new-outcomes.ensures.items;
  left = ap (λ os. drop (length os) c.args.attempts.items) (sym c.new-outcomes.ensures.items);
  on = GoesOn-same c.args.view.now;
  taken = takes_none c.args.attempts.items c.new-outcomes.result.items c.args.view.now c.new-outcomes.ensures.items;
  are = no_outcomes c.args.attempts.items c.new-outcomes.result.items c.new-outcomes.ensures.items;
  so_far = none_yet c.args.stop_at_veto (map task c.args.tasks.now) c.args.attempts.items c.new-outcomes.result.items c.args.view.now c.new-outcomes.ensures.items;
}

pub returns-in_default-clause-longest : goal.returns-in_default-clause-longest
returns-in_default-clause-longest c =
    let next = ap (λ n. drop n (map task c.args.tasks.now)) c.loop-task.invariant.count ∙ tasks_left task c.args.tasks.now c.loop-task.task-index
    c.task-item.result c.loop-task-test.true c.task-item.is in
    (ended c.args.stop_at_veto (map task c.args.tasks.now) c.args.attempts.items c.loop-task.outcomes.items c.in_ok-outcome.field-0 (task c.task-item.result)
    (drop (c.loop-task.task-index + 1) (map task c.args.tasks.now)) c.loop-task.attempts.items c.settle_first.new.attempts.items
    c.loop-task.invariant.so_far c.loop-task.invariant.taken next c.in_ok-outcome.ensures.left c.in_default.is).longest

pub returns-in_default-clause-for_states : goal.returns-in_default-clause-for_states
returns-in_default-clause-for_states c =
    let next = ap (λ n. drop n (map task c.args.tasks.now)) c.loop-task.invariant.count ∙ tasks_left task c.args.tasks.now c.loop-task.task-index
    c.task-item.result c.loop-task-test.true c.task-item.is in
    (ended c.args.stop_at_veto (map task c.args.tasks.now) c.args.attempts.items c.loop-task.outcomes.items c.in_ok-outcome.field-0 (task c.task-item.result)
    (drop (c.loop-task.task-index + 1) (map task c.args.tasks.now)) c.loop-task.attempts.items c.settle_first.new.attempts.items
    c.loop-task.invariant.so_far c.loop-task.invariant.taken next c.in_ok-outcome.ensures.left c.in_default.is).front

pub returns-in_default-clause-front : goal.returns-in_default-clause-front
returns-in_default-clause-front c = front_ordered (returns-in_default-clause-for_states c)

pub returns-then-stops-clause-left : goal.returns-then-stops-clause-left
returns-then-stops-clause-left c =
    let next = ap (λ n. drop n (map task c.args.tasks.now)) c.loop-task.invariant.count ∙ tasks_left task c.args.tasks.now c.loop-task.task-index
    c.task-item.result c.loop-task-test.true c.task-item.is in
    let s = step c.args.stop_at_veto (map task c.args.tasks.now) c.args.attempts.items c.loop-task.outcomes.items c.push.new.self.items c.in_ok-outcome.field-0
    c.in-Some.outcome (task c.task-item.result)
    (drop (c.loop-task.task-index + 1) (map task c.args.tasks.now)) c.loop-task.attempts.items c.settle_first.new.attempts.items
    c.loop-task.invariant.so_far c.loop-task.invariant.taken c.loop-task.invariant.are next c.loop-task.invariant.left c.in_ok-outcome.ensures.taken
    c.in-Some.is c.settle_first.ensures.goes_on c.in_ok-push.ensures.items in
    s.left

pub returns-then-stops-clause-longest : goal.returns-then-stops-clause-longest
returns-then-stops-clause-longest c =
    let next = ap (λ n. drop n (map task c.args.tasks.now)) c.loop-task.invariant.count ∙ tasks_left task c.args.tasks.now c.loop-task.task-index
    c.task-item.result c.loop-task-test.true c.task-item.is in
    let s = step c.args.stop_at_veto (map task c.args.tasks.now) c.args.attempts.items c.loop-task.outcomes.items c.push.new.self.items c.in_ok-outcome.field-0
    c.in-Some.outcome (task c.task-item.result)
    (drop (c.loop-task.task-index + 1) (map task c.args.tasks.now)) c.loop-task.attempts.items c.settle_first.new.attempts.items
    c.loop-task.invariant.so_far c.loop-task.invariant.taken c.loop-task.invariant.are next c.loop-task.invariant.left c.in_ok-outcome.ensures.taken
    c.in-Some.is c.settle_first.ensures.goes_on c.in_ok-push.ensures.items in
    s.longest (halting (goes_on c.args.stop_at_veto (veto_in c.in-Some.outcome)) c.stops_at-stops.result c.stops_at-stops.ensures c.if-stops.true) _ _

pub returns-then-stops-clause-for_states : goal.returns-then-stops-clause-for_states
returns-then-stops-clause-for_states c =
    let next = ap (λ n. drop n (map task c.args.tasks.now)) c.loop-task.invariant.count ∙ tasks_left task c.args.tasks.now c.loop-task.task-index
    c.task-item.result c.loop-task-test.true c.task-item.is in
    let s = step c.args.stop_at_veto (map task c.args.tasks.now) c.args.attempts.items c.loop-task.outcomes.items c.push.new.self.items c.in_ok-outcome.field-0
    c.in-Some.outcome (task c.task-item.result)
    (drop (c.loop-task.task-index + 1) (map task c.args.tasks.now)) c.loop-task.attempts.items c.settle_first.new.attempts.items
    c.loop-task.invariant.so_far c.loop-task.invariant.taken c.loop-task.invariant.are next c.loop-task.invariant.left c.in_ok-outcome.ensures.taken
    c.in-Some.is c.settle_first.ensures.goes_on c.in_ok-push.ensures.items in
    s.last (halting (goes_on c.args.stop_at_veto (veto_in c.in-Some.outcome)) c.stops_at-stops.result c.stops_at-stops.ensures c.if-stops.true)

pub returns-then-stops-clause-front : goal.returns-then-stops-clause-front
returns-then-stops-clause-front c = front_ordered (returns-then-stops-clause-for_states c)

pub loop-task-preserved : goal.loop-task-preserved
loop-task-preserved c =
    let next = ap (λ n. drop n (map task c.args.tasks.now)) c.loop-task.invariant.count ∙ tasks_left task c.args.tasks.now c.loop-task.task-index
    c.task-item.result c.loop-task-test.true c.task-item.is in
    let s = step c.args.stop_at_veto (map task c.args.tasks.now) c.args.attempts.items c.loop-task.outcomes.items c.push.new.self.items c.in_ok-outcome.field-0
    c.in-Some.outcome (task c.task-item.result)
    (drop (c.loop-task.task-index + 1) (map task c.args.tasks.now)) c.loop-task.attempts.items c.settle_first.new.attempts.items
    c.loop-task.invariant.so_far c.loop-task.invariant.taken c.loop-task.invariant.are next c.loop-task.invariant.left c.in_ok-outcome.ensures.taken
    c.in-Some.is c.settle_first.ensures.goes_on c.in_ok-push.ensures.items in
    record {
      count = ap length c.in_ok-push.ensures.items ∙ length-append c.loop-task.outcomes.items (c.in-Some.outcome ∷ []) ∙ ap (λ n. n + 1) c.loop-task.invariant.count;
      left = s.left;
      on = GoesOn-then c.loop-task.invariant.on c.settle_first.ensures.goes_on;
      taken = s.taken;
      are = s.are;
      so_far = s.more (not_halting (goes_on c.args.stop_at_veto (veto_in c.in-Some.outcome)) c.stops_at-stops.result c.stops_at-stops.ensures c.if-stops.false);
    }

pub returns-clause-for_states : goal.returns-clause-for_states
returns-clause-for_states c = front_end c.loop-task.invariant.so_far

pub returns-clause-front : goal.returns-clause-front
returns-clause-front c = front_ordered (returns-clause-for_states c)

pub returns-in_default-clause-taken : goal.returns-in_default-clause-taken
returns-in_default-clause-taken c =
    let next = ap (λ n. drop n (map task c.args.tasks.now)) c.loop-task.invariant.count ∙ tasks_left task c.args.tasks.now c.loop-task.task-index
    c.task-item.result c.loop-task-test.true c.task-item.is in
    (ended c.args.stop_at_veto (map task c.args.tasks.now) c.args.attempts.items c.loop-task.outcomes.items c.in_ok-outcome.field-0 (task c.task-item.result)
    (drop (c.loop-task.task-index + 1) (map task c.args.tasks.now)) c.loop-task.attempts.items c.settle_first.new.attempts.items
    c.loop-task.invariant.so_far c.loop-task.invariant.taken next c.in_ok-outcome.ensures.left c.in_default.is).taken

pub returns-then-stops-clause-taken : goal.returns-then-stops-clause-taken
returns-then-stops-clause-taken c =
    let next = ap (λ n. drop n (map task c.args.tasks.now)) c.loop-task.invariant.count ∙ tasks_left task c.args.tasks.now c.loop-task.task-index
    c.task-item.result c.loop-task-test.true c.task-item.is in
    let s = step c.args.stop_at_veto (map task c.args.tasks.now) c.args.attempts.items c.loop-task.outcomes.items c.push.new.self.items c.in_ok-outcome.field-0
    c.in-Some.outcome (task c.task-item.result)
    (drop (c.loop-task.task-index + 1) (map task c.args.tasks.now)) c.loop-task.attempts.items c.settle_first.new.attempts.items
    c.loop-task.invariant.so_far c.loop-task.invariant.taken c.loop-task.invariant.are next c.loop-task.invariant.left c.in_ok-outcome.ensures.taken
    c.in-Some.is c.settle_first.ensures.goes_on c.in_ok-push.ensures.items in
    s.taken

pub returns-then-stops-clause-outcomes : goal.returns-then-stops-clause-outcomes
returns-then-stops-clause-outcomes c =
    let next = ap (λ n. drop n (map task c.args.tasks.now)) c.loop-task.invariant.count ∙ tasks_left task c.args.tasks.now c.loop-task.task-index
    c.task-item.result c.loop-task-test.true c.task-item.is in
    let s = step c.args.stop_at_veto (map task c.args.tasks.now) c.args.attempts.items c.loop-task.outcomes.items c.push.new.self.items c.in_ok-outcome.field-0
    c.in-Some.outcome (task c.task-item.result)
    (drop (c.loop-task.task-index + 1) (map task c.args.tasks.now)) c.loop-task.attempts.items c.settle_first.new.attempts.items
    c.loop-task.invariant.so_far c.loop-task.invariant.taken c.loop-task.invariant.are next c.loop-task.invariant.left c.in_ok-outcome.ensures.taken
    c.in-Some.is c.settle_first.ensures.goes_on c.in_ok-push.ensures.items in
    s.are

pub returns-in_err-outcome-clause-err : goal.returns-in_err-outcome-clause-err
returns-in_err-outcome-clause-err c =
    let n = length c.loop-task.outcomes.items in
    on_err c.from_residual.result (n, takes_same n c.args.attempts.items c.args.view.now c.loop-task.invariant.taken c.in_err-outcome.ensures.err)

pub returns-in_err-push-clause-err : goal.returns-in_err-push-clause-err
returns-in_err-push-clause-err c =
    let outcomes = c.loop-task.outcomes.items in
    on_err c.from_residual-in_err-push.result (
      length (outcomes ++ c.in-Some.outcome ∷ []),
      takes_unpushed c.args.attempts.items outcomes c.in_ok-outcome.field-0 c.in-Some.outcome (task c.task-item.result) c.loop-task.attempts.items c.settle_first.new.attempts.items
          c.args.view.now c.loop-task.view c.settle_first.new.view
          c.loop-task.invariant.taken c.loop-task.invariant.left c.in_ok-outcome.ensures.taken c.in-Some.is,
    )
