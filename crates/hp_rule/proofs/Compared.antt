-- Lists of expressions, of assignments and of statements are compared as what they stand for.
use Rattle.std.proofs.Common.{◌≡◌, refl, ap, ◌&&◌, List, [], ◌∷◌, map}
use lib.Pointwise.{pointwise}
use Rattle.std.specs.Ordering.{on}
use Rattle.hp_value.specs.declared.expr.Expr.{Expr}
use Rattle.hp_value.specs.Mapped.{expression}
use Rattle.hp_value.specs.SameExpressions.{expression_same}
use Rattle.hp_value.proofs.Lists.{pointwise_map}
use Rattle.hp_rule.specs.declared.stmt.Assignment.{Assignment}
use Rattle.hp_rule.specs.declared.stmt.Stmt.{Stmt}
use Rattle.hp_rule.specs.contracts.stmt.AssignmentPartialEq.TheImpl as assignments
use Rattle.hp_rule.specs.Statements.{assignment, statement, body_in}
use Rattle.hp_rule.specs.SameStatements.{assignment_same, statement_same, body_same}

pub expressions_same : (as' bs : List Expr) → pointwise (on expression expression_same) as' bs ≡ pointwise expression_same (map expression as') (map expression bs)
expressions_same = pointwise_map expression expression_same

pub assignments_same : (ps qs : List Assignment) → pointwise assignments.ghosts.eq ps qs ≡ pointwise assignment_same (map assignment ps) (map assignment qs)
assignments_same [] [] = refl
assignments_same [] (q ∷ qs) = refl
assignments_same (p ∷ ps) [] = refl
assignments_same (p ∷ ps) (q ∷ qs) = ap (λ b. assignments.ghosts.eq p q && b) (assignments_same ps qs)

pub bodies_same : (a b : List Stmt) → pointwise (on statement statement_same) a b ≡ body_same (body_in a) (body_in b)
bodies_same [] [] = refl
bodies_same [] (t ∷ b) = refl
bodies_same (s ∷ a) [] = refl
bodies_same (s ∷ a) (t ∷ b) = ap (λ x. statement_same (statement s) (statement t) && x) (bodies_same a b)
