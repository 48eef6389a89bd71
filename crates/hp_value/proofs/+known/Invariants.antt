use Rattle.std.proofs.Common.{◌+◌, ◌*◌}
use Rattle.hp_value.specs.Mapped.{expression}
use Rattle.hp_value.proofs.Sizes.{operators}
use Rattle.hp_value.proofs.+known.Given as goal

-- twice the number of operators, plus one for a call of the function of an operator

abbrev pub decreases-expr::Expr::known_integer : goal.decreases-expr::Expr::known_integer
decreases-expr::Expr::known_integer l = 2 * operators (expression l.self.now)

abbrev pub decreases-eval::known_result : goal.decreases-eval::known_result
decreases-eval::known_result l = 2 * (operators (expression l.a.now) + operators (expression l.b.now)) + 1

abbrev pub decreases-eval::known_negation : goal.decreases-eval::known_negation
decreases-eval::known_negation l = 2 * operators (expression l.a.now) + 1
