use Rattle.std.proofs.Common.{ap, arith}
use Rattle.hp_value.specs.Mapped.{expression}
use Rattle.hp_value.proofs.Sizes.{operators}
use Rattle.hp_value.proofs.+operand.Goals as goal

-- each operand has fewer operators than the whole

pub expr::Expr::operand-calculation-requires : goal.expr::Expr::operand-calculation-requires
expr::Expr::operand-calculation-requires t c = (
  omega (
    arith,
    ap (λ e. operators (expression e)) c.in-Arithmetic.is,
    ap (λ e. operators (expression e)) c.deref-in-Arithmetic.ensures,
    ap (λ e. operators (expression e)) c.deref.ensures,
  ),
  tt,
)

pub expr::Expr::operand-is_comparison_true-requires : goal.expr::Expr::operand-is_comparison_true-requires
expr::Expr::operand-is_comparison_true-requires t c = (
  omega (
    arith,
    ap (λ e. operators (expression e)) c.in-Comparison.is,
    ap (λ e. operators (expression e)) c.deref-in-Comparison.ensures,
    ap (λ e. operators (expression e)) c.deref-in-Comparison-2.ensures,
  ),
  tt,
)

pub expr::Expr::operand-negation-requires : goal.expr::Expr::operand-negation-requires
expr::Expr::operand-negation-requires t c = (omega (arith, ap (λ e. operators (expression e)) c.in-Negated.is, ap (λ e. operators (expression e)) c.deref-in-Negated.ensures), tt)

pub expr::Expr::operand-inversion-requires : goal.expr::Expr::operand-inversion-requires
expr::Expr::operand-inversion-requires t c = (omega (arith, ap (λ e. operators (expression e)) c.in-Not.is, ap (λ e. operators (expression e)) c.deref-in-Not.ensures), tt)

pub expr::Expr::operand-are_both_true-requires : goal.expr::Expr::operand-are_both_true-requires
expr::Expr::operand-are_both_true-requires t c = (
  omega (
    arith,
    ap (λ e. operators (expression e)) c.in-And.is,
    ap (λ e. operators (expression e)) c.deref-in-And.ensures,
    ap (λ e. operators (expression e)) c.deref-in-And-2.ensures,
  ),
  tt,
)

pub expr::Expr::operand-is_either_true-requires : goal.expr::Expr::operand-is_either_true-requires
expr::Expr::operand-is_either_true-requires t c = (
  omega (
    arith,
    ap (λ e. operators (expression e)) c.in-Or.is,
    ap (λ e. operators (expression e)) c.deref-in-Or.ensures,
    ap (λ e. operators (expression e)) c.deref-in-Or-2.ensures,
  ),
  tt,
)

pub expr::Expr::is_true-is_comparison_true-requires : goal.expr::Expr::is_true-is_comparison_true-requires
expr::Expr::is_true-is_comparison_true-requires t c = (
  omega (
    arith,
    ap (λ e. operators (expression e)) c.in-Comparison.is,
    ap (λ e. operators (expression e)) c.deref.ensures,
    ap (λ e. operators (expression e)) c.deref-in-Comparison.ensures,
  ),
  tt,
)

pub expr::Expr::is_true-inversion-requires : goal.expr::Expr::is_true-inversion-requires
expr::Expr::is_true-inversion-requires t c = (omega (arith, ap (λ e. operators (expression e)) c.in-Not.is, ap (λ e. operators (expression e)) c.deref-in-Not.ensures), tt)

pub expr::Expr::is_true-are_both_true-requires : goal.expr::Expr::is_true-are_both_true-requires
expr::Expr::is_true-are_both_true-requires t c = (
  omega (
    arith,
    ap (λ e. operators (expression e)) c.in-And.is,
    ap (λ e. operators (expression e)) c.deref-in-And.ensures,
    ap (λ e. operators (expression e)) c.deref-in-And-2.ensures,
  ),
  tt,
)

pub expr::Expr::is_true-is_either_true-requires : goal.expr::Expr::is_true-is_either_true-requires
expr::Expr::is_true-is_either_true-requires t c = (
  omega (
    arith,
    ap (λ e. operators (expression e)) c.in-Or.is,
    ap (λ e. operators (expression e)) c.deref-in-Or.ensures,
    ap (λ e. operators (expression e)) c.deref-in-Or-2.ensures,
  ),
  tt,
)
