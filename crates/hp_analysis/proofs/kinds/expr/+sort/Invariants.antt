use Rattle.std.proofs.Common.{◌+◌, ◌*◌}
use Rattle.hp_value.specs.Mapped.{expression}
use Rattle.hp_value.proofs.Sizes.{operators}
use Rattle.hp_analysis.proofs.kinds.expr.+sort.Given as goal

-- three times the number of operators, and more for a call of an operator's own function

abbrev pub decreases-sort_of : goal.decreases-sort_of
decreases-sort_of l = 3 * operators (expression l.expr.now)

abbrev pub decreases-operand_sort : goal.decreases-operand_sort
decreases-operand_sort l = 3 * operators (expression l.operand.now) + 1

abbrev pub decreases-operands_sort : goal.decreases-operands_sort
decreases-operands_sort l = 3 * (operators (expression l.left.now) + operators (expression l.right.now)) + 2

abbrev pub decreases-comparison_sort : goal.decreases-comparison_sort
decreases-comparison_sort l = 3 * (operators (expression l.left.now) + operators (expression l.right.now)) + 1
