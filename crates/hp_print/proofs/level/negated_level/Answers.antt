use Rattle.std.proofs.Common.{sym}
use Rattle.hp_print.proofs.Beginnings.{negated_integer, negated_other}
use Rattle.hp_print.proofs.level.negated_level.Goals as goal

pub returns-in-Some : goal.returns-in-Some
returns-in-Some c n = negated_integer n _ _ (sym c.in-Some.ensures)

pub returns-in-None : goal.returns-in-None
returns-in-None c n = negated_other n _ _ (sym c.in-None.ensures) (c.level.ensures n)
