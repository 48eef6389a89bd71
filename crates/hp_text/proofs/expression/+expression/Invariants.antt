use Rattle.std.proofs.Common.{◌+◌, ◌*◌}
use Rattle.hp_text.proofs.expression.+expression.Given as goal

abbrev pub decreases-expression : goal.decreases-expression
decreases-expression l = 100 * (16 * l.levels)

abbrev pub decreases-conjunction : goal.decreases-conjunction
decreases-conjunction l = 100 * (16 * l.inner + 11)

abbrev pub decreases-negation : goal.decreases-negation
decreases-negation l = 100 * (16 * l.inner + 10)

abbrev pub decreases-comparison : goal.decreases-comparison
decreases-comparison l = 100 * (16 * l.inner + 9)

abbrev pub decreases-sum : goal.decreases-sum
decreases-sum l = 100 * (16 * l.inner + 8)

abbrev pub decreases-sum_from : goal.decreases-sum_from
decreases-sum_from l = 100 * (16 * l.inner + 7) + l.operators

abbrev pub decreases-product : goal.decreases-product
decreases-product l = 100 * (16 * l.inner + 6)

abbrev pub decreases-product_from : goal.decreases-product_from
decreases-product_from l = 100 * (16 * l.inner + 5) + l.operators

abbrev pub decreases-unary : goal.decreases-unary
decreases-unary l = 100 * (16 * l.inner + 4)

abbrev pub decreases-after_minus : goal.decreases-after_minus
decreases-after_minus l = 100 * (16 * l.inner + 3)

abbrev pub decreases-primary : goal.decreases-primary
decreases-primary l = 100 * (16 * l.inner + 2)

abbrev pub decreases-marked_primary : goal.decreases-marked_primary
decreases-marked_primary l = 100 * (16 * l.inner + 1)
