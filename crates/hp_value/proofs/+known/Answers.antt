use Rattle.std.proofs.Common.{ap, arith}
use Rattle.hp_value.specs.Mapped.{expression}
use Rattle.hp_value.proofs.Sizes.{operators}
use Rattle.hp_value.proofs.+known.Goals as goal

-- each operand has fewer operators than the whole

pub expr::Expr::known_integer-known_result-requires : goal.expr::Expr::known_integer-known_result-requires
expr::Expr::known_integer-known_result-requires t c = (
  omega (
    arith,
    ap (λ e. operators (expression e)) c.in-Arithmetic.is,
    ap (λ e. operators (expression e)) c.deref-in-Arithmetic.ensures,
    ap (λ e. operators (expression e)) c.deref.ensures,
  ),
  tt,
)

pub expr::Expr::known_integer-known_negation-requires : goal.expr::Expr::known_integer-known_negation-requires
expr::Expr::known_integer-known_negation-requires t c = (omega (arith, ap (λ e. operators (expression e)) c.in-Negated.is, ap (λ e. operators (expression e)) c.deref-in-Negated.ensures), tt)
