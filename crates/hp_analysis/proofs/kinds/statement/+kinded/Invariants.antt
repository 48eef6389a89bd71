use Rattle.std.proofs.Common.{◌≡◌, ◌++◌, drop}
use Rattle.hp_rule.specs.Places.{steps}
use Rattle.hp_rule.specs.Statements.{body_in}
use Rattle.hp_analysis.specs.Findings.{body_findings}
use Rattle.hp_analysis.specs.Kinded.{findings}
use Rattle.hp_analysis.specs.Scopes.{library, declared, scope_in, queries}
use Rattle.hp_analysis.proofs.kinds.statement.+kinded.Given as goal

-- what was found and what is still to find is all
abbrev pub invariant-find_in_body-loop-i : goal.invariant-find_in_body-loop-i
invariant-find_in_body-loop-i l =
    findings l.notes.items ++ body_findings (library l.scope) (declared l.scope) (scope_in l.scope) (queries l.scope) (steps l.place) l.i (body_in (drop l.i l.body))
    ≡ findings l.fn.notes.items ++ body_findings (library l.scope) (declared l.scope) (scope_in l.scope) (queries l.scope) (steps l.place) 0 (body_in l.body)
