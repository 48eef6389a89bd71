use Rattle.std.proofs.Common.{◌≡◌, ◌++◌, drop, map}
use Rattle.hp_value.specs.Mapped.{expression}
use Rattle.hp_rule.specs.Places.{steps}
use Rattle.hp_analysis.specs.Findings.{arguments_findings}
use Rattle.hp_analysis.specs.Kinded.{sort, findings}
use Rattle.hp_analysis.specs.Scopes.{library, declared, scope_in}
use Rattle.hp_analysis.proofs.kinds.statement.find_in_arguments.Given as goal

-- what was found and what is still to find is all
abbrev pub invariant-loop-i : goal.invariant-loop-i
invariant-loop-i l =
    findings l.notes.items ++ arguments_findings (library l.scope) (declared l.scope) (scope_in l.scope) (steps l.place) l.i (map sort l.demands) (map expression (drop l.i l.arguments))
    ≡ findings l.fn.notes.items ++ arguments_findings (library l.scope) (declared l.scope) (scope_in l.scope) (steps l.place) 0 (map sort l.signature) (map expression l.arguments)
