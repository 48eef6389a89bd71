use Rattle.std.proofs.Common.{◌+◌, ◌*◌}
use Rattle.hp_script.proofs.expression.+expression.Given as goal

abbrev pub decreases-expression_within : goal.decreases-expression_within
decreases-expression_within l = 4 * l.levels

abbrev pub decreases-operand_at : goal.decreases-operand_at
decreases-operand_at l = 4 * l.levels + 1

abbrev pub decreases-operands_at : goal.decreases-operands_at
decreases-operands_at l = 4 * l.levels + 2

abbrev pub decreases-expression_from : goal.decreases-expression_from
decreases-expression_from l = 4 * l.levels + 3
