use Rattle.std.proofs.Common.{◌≡◌, ◌+◌, ◌*◌, drop}
use Rattle.hp_rule.specs.Statements.{body_in}
use Rattle.hp_model.specs.Checked.{statement_check, statements_check}
use Rattle.hp_rule.specs.Named.{names_in}
use Rattle.hp_rule.specs.Places.{steps}
use Rattle.hp_rule.specs.Scopes.{scope_of}
use Rattle.hp_rule.proofs.check.statement.+statement.Given as goal

abbrev pub decreases-check_statement : goal.decreases-check_statement
decreases-check_statement l = 4 * l.levels

abbrev pub decreases-check_body : goal.decreases-check_body
decreases-check_body l = 4 * l.levels + 1

abbrev pub decreases-check_if : goal.decreases-check_if
decreases-check_if l = 4 * l.levels + 2

abbrev pub decreases-check_each : goal.decreases-check_each
decreases-check_each l = 4 * l.levels + 2

abbrev pub decreases-check_for : goal.decreases-check_for
decreases-check_for l = 4 * l.levels + 2

abbrev pub decreases-check_with : goal.decreases-check_with
decreases-check_with l = 4 * l.levels + 2

abbrev pub decreases-check_sub : goal.decreases-check_sub
decreases-check_sub l = 4 * l.levels + 2

abbrev pub decreases-check_let : goal.decreases-check_let
decreases-check_let l = 4 * l.levels + 2

abbrev pub decreases-check_parts : goal.decreases-check_parts
decreases-check_parts l = 4 * l.levels + 3

-- the rest of the body passes or fails as the whole body does
abbrev pub invariant-check_body-loop-i : goal.invariant-check_body-loop-i
invariant-check_body-loop-i l =
    statements_check (statement_check (scope_of l.context.scope) l.levels) (names_in l.context.names) (steps l.context.place) l.i (body_in (drop l.i l.body))
    ≡ statements_check (statement_check (scope_of l.context.scope) l.levels) (names_in l.context.names) (steps l.context.place) 0 (body_in l.body)
