use Rattle.std.proofs.Common.{◌+◌, ◌*◌}
use Rattle.hp_rule.proofs.check.expr.+expr.Given as goal

abbrev pub decreases-check_levels : goal.decreases-check_levels
decreases-check_levels l = 2 * l.levels

abbrev pub decreases-check_operands : goal.decreases-check_operands
decreases-check_operands l = 2 * l.levels + 1
