use Rattle.std.proofs.Common.{◌-◌, map}
use Rattle.hp_model.specs.Decode.{names_moment}
use Rattle.hp_rule.specs.Mapped.{rule}
use Rattle.hp_script.proofs.Moments.{SoFar}
use Rattle.hp_script.proofs.moment.due_moments.Given as goal

abbrev pub invariant-loop-moment : goal.invariant-loop-moment
invariant-loop-moment l = SoFar (names_moment (map rule l.rules)) l.fn.after l.until l.now l.moments.items

abbrev pub decreases-loop-moment : goal.decreases-loop-moment
decreases-loop-moment l = l.until - l.now
