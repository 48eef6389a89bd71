use Rattle.std.proofs.Common.{◌≡◌, ◌++◌, drop, map}
use Rattle.hp_rule.specs.Places.{steps}
use Rattle.hp_rule.specs.Statements.{rule}
use Rattle.hp_rule.specs.Libraries as libraries
use Rattle.hp_analysis.specs.Declarations.{declared}
use Rattle.hp_analysis.specs.Findings.{rules_findings}
use Rattle.hp_analysis.specs.Kinded.{findings}
use Rattle.hp_analysis.proofs.kinds.rule.find_in_rules.Given as goal

-- what was found and what is still to find is all
abbrev pub invariant-loop-n : goal.invariant-loop-n
invariant-loop-n l =
    findings l.notes.items ++ rules_findings (libraries.library l.base.library.now) (declared l.base.declared.now) (steps l.place) l.n (map rule (drop l.n l.rules))
    ≡ findings l.fn.notes.items ++ rules_findings (libraries.library l.base.library.now) (declared l.base.declared.now) (steps l.place) 0 (map rule l.rules)
