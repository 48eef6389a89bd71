use Rattle.std.proofs.Common.{◌+◌, ◌*◌}
use Rattle.hp_value.specs.Mapped.{expression}
use Rattle.hp_value.proofs.Sizes.{operators}
use Rattle.hp_analysis.proofs.calm.+measure.Given as goal

-- twice the number of operators, and one more for a call of an operator's own function

abbrev pub decreases-measure : goal.decreases-measure
decreases-measure l = 2 * operators (expression l.expr.now)

abbrev pub decreases-measure_arithmetic : goal.decreases-measure_arithmetic
decreases-measure_arithmetic l = 2 * (operators (expression l.left.now) + operators (expression l.right.now)) + 1

abbrev pub decreases-measure_both : goal.decreases-measure_both
decreases-measure_both l = 2 * (operators (expression l.left.now) + operators (expression l.right.now)) + 1
