-- The statements that lie inside a statement.
use Rattle.std.proofs.Common.{◌≡◌, refl, ap}
use mathlib.Core.Former.{Count}
use Rattle.hp_model.specs.Rules as R
use Rattle.hp_rule.specs.declared.stmt.Stmt.{Row_of-Stmt, end_of-Stmt, more_of-Stmt, items-the_row-Stmt}
use Rattle.hp_rule.specs.Statements.{statement, row_body, body_in}

-- they map as the statements of their list
pub row_body_lem : (m : Count) (k : Row_of-Stmt m) → row_body k ≡ body_in (items-the_row-Stmt m k)
row_body_lem m end_of-Stmt = refl
row_body_lem m (more_of-Stmt {n = j} s rest) = ap (R.◌then◌ (statement s)) (row_body_lem j rest)
