use Rattle.std.proofs.Common.{◌+◌, ◌*◌}
use Rattle.hp_value.specs.Mapped.{expression}
use Rattle.hp_value.proofs.Sizes.{operators}
use Rattle.hp_value.proofs.+operand.Given as goal

-- Three times the number of operators: a boolean may be looked for as an operand, and an operator's own function looks
-- for its operands.

abbrev pub decreases-expr::Expr::operand : goal.decreases-expr::Expr::operand
decreases-expr::Expr::operand l = 3 * operators (expression l.self.now)

abbrev pub decreases-expr::Expr::is_true : goal.decreases-expr::Expr::is_true
decreases-expr::Expr::is_true l = 3 * operators (expression l.self.now) + 1

abbrev pub decreases-eval::calculation : goal.decreases-eval::calculation
decreases-eval::calculation l = 3 * (operators (expression l.a.now) + operators (expression l.b.now)) + 2

abbrev pub decreases-eval::is_comparison_true : goal.decreases-eval::is_comparison_true
decreases-eval::is_comparison_true l = 3 * (operators (expression l.a.now) + operators (expression l.b.now)) + 2

abbrev pub decreases-eval::are_both_true : goal.decreases-eval::are_both_true
decreases-eval::are_both_true l = 3 * (operators (expression l.a.now) + operators (expression l.b.now)) + 2

abbrev pub decreases-eval::is_either_true : goal.decreases-eval::is_either_true
decreases-eval::is_either_true l = 3 * (operators (expression l.a.now) + operators (expression l.b.now)) + 2

abbrev pub decreases-eval::negation : goal.decreases-eval::negation
decreases-eval::negation l = 3 * operators (expression l.a.now) + 2

abbrev pub decreases-eval::inversion : goal.decreases-eval::inversion
decreases-eval::inversion l = 3 * operators (expression l.a.now) + 2
