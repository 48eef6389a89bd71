use Rattle.std.proofs.Common.{rules, sym}
use Rattle.hp_print.proofs.Beginnings.{level_in_form, level_of_integer, level_of_literal}
use Rattle.hp_print.proofs.level.level.Goals as goal

pub returns-in-Some : goal.returns-in-Some
returns-in-Some c n = level_in_form n _ _ _ (sym c.in-Some.ensures) c.level_of_form.ensures

pub returns-in-Some-as_i64 : goal.returns-in-Some-as_i64
returns-in-Some-as_i64 c n = level_of_integer n _ _ _ (sym c.in-Some-as_i64.ensures) (search rules)

pub returns-in-None-as_i64 : goal.returns-in-None-as_i64
returns-in-None-as_i64 c n = level_of_literal n _ (sym c.in-None.ensures) (sym c.in-None-as_i64.ensures)
