use Rattle.std.proofs.Common.{◌≡◌, ◌≤◌, ◌-◌, drop}
use lib.Pointwise.{pointwise}
use Rattle.hp_value.specs.Same.{occurrence_same}
use Rattle.hp_detect.proofs.queue.agree.Given as goal

-- both are equal so far
abbrev pub invariant-loop-at : goal.invariant-loop-at
invariant-loop-at l = (l.at ≤ l.count) × (pointwise occurrence_same (drop l.at l.one) (drop l.at l.other) ≡ pointwise occurrence_same l.one l.other)

abbrev pub decreases-loop-at : goal.decreases-loop-at
decreases-loop-at l = l.count - l.at
