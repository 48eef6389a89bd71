use Rattle.std.proofs.Common.{◌+◌, ◌*◌}
use Rattle.hp_print.proofs.expression.+expression.Given as goal

abbrev pub decreases-expression : goal.decreases-expression
decreases-expression l = 8 * l.levels

abbrev pub decreases-enclosed : goal.decreases-enclosed
decreases-enclosed l = 8 * l.levels + 1

abbrev pub decreases-operand : goal.decreases-operand
decreases-operand l = 8 * l.levels + 2

abbrev pub decreases-operation : goal.decreases-operation
decreases-operation l = 8 * l.levels + 3

abbrev pub decreases-inverted : goal.decreases-inverted
decreases-inverted l = 8 * l.levels + 3

abbrev pub decreases-negated : goal.decreases-negated
decreases-negated l = 8 * l.levels + 3

abbrev pub decreases-of_one : goal.decreases-of_one
decreases-of_one l = 8 * l.levels + 4

abbrev pub decreases-of_two : goal.decreases-of_two
decreases-of_two l = 8 * l.levels + 4

abbrev pub decreases-of_form : goal.decreases-of_form
decreases-of_form l = 8 * l.levels + 5
