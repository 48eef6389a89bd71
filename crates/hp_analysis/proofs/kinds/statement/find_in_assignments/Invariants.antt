use Rattle.std.proofs.Common.{◌≡◌, ◌++◌, drop, map}
use Rattle.hp_value.specs.Mapped.{field}
use Rattle.hp_rule.specs.Statements.{assignment}
use Rattle.hp_rule.specs.Places.{steps}
use Rattle.hp_analysis.specs.Findings.{assignments_findings}
use Rattle.hp_analysis.specs.Kinded.{findings}
use Rattle.hp_analysis.specs.Scopes.{library, declared, scope_in}
use Rattle.hp_analysis.proofs.kinds.statement.find_in_assignments.Given as goal

-- what was found and what is still to find is all
abbrev pub invariant-loop-i : goal.invariant-loop-i
invariant-loop-i l =
    findings l.notes.items ++ assignments_findings (library l.scope) (declared l.scope) (scope_in l.scope) (map field l.fields) (steps l.place) l.i (map assignment (drop l.i l.pairs))
    ≡ findings l.fn.notes.items ++ assignments_findings (library l.scope) (declared l.scope) (scope_in l.scope) (map field l.fields) (steps l.place) 0 (map assignment l.pairs)
