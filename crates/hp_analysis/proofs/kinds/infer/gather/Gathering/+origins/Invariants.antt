use Rattle.std.proofs.Common.{◌+◌, ◌*◌}
use Rattle.hp_value.specs.Mapped.{expression}
use Rattle.hp_value.proofs.Sizes.{operators}
use Rattle.hp_analysis.proofs.kinds.infer.gather.Gathering.+origins.Given as goal

-- three times the number of operators, and more for a call of an operator's own function

abbrev pub decreases-origin_of : goal.decreases-origin_of
decreases-origin_of l = 3 * operators (expression l.expr.now)

abbrev pub decreases-want : goal.decreases-want
decreases-want l = 3 * operators (expression l.expr.now) + 1

abbrev pub decreases-want_both : goal.decreases-want_both
decreases-want_both l = 3 * (operators (expression l.left.now) + operators (expression l.right.now)) + 2

abbrev pub decreases-want_alike : goal.decreases-want_alike
decreases-want_alike l = 3 * (operators (expression l.left.now) + operators (expression l.right.now)) + 1
