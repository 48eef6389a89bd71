use Rattle.std.proofs.Common.{◌≡◌, drop, length, map}
use Rattle.hp_rule.specs.Mapped.{task}
use Rattle.hp_view.specs.Seeing.{GoesOn}
use Rattle.hp_attempt.specs.Fronts.{TakesSome, AreOutcomes}
use Rattle.hp_attempt.proofs.Fronting.{SoFar}
use Rattle.hp_attempt.proofs.front.settle_front.Given as goal

abbrev pub invariant-loop-task : goal.invariant-loop-task
invariant-loop-task l = record {
  count : length l.outcomes.items ≡ l.task-index;
  left : l.attempts.items ≡ drop (length l.outcomes.items) l.fn.attempts.items;
  on : GoesOn l.fn.view l.view;
  taken : TakesSome (length l.outcomes.items) l.fn.attempts.items l.fn.view l.view;
  are : AreOutcomes l.outcomes.items l.fn.attempts.items;
  so_far : SoFar l.stop_at_veto (map task l.tasks) l.fn.attempts.items l.outcomes.items l.fn.view l.view;
}
