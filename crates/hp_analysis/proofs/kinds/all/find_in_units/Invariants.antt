use Rattle.std.proofs.Common.{◌≡◌, ◌++◌, ◌+◌, map, drop}
use Rattle.hp_rule.specs.Libraries as libraries
use Rattle.hp_rule.specs.Mapped.{unit}
use Rattle.hp_analysis.specs.Declarations.{declared}
use Rattle.hp_analysis.specs.FoundKinds.{kind_findings}
use Rattle.hp_analysis.specs.KindFindings.{units_findings}
use Rattle.hp_analysis.proofs.kinds.all.find_in_units.Given as goal

-- what was found and what is still to find is all
abbrev pub invariant-loop-n : goal.invariant-loop-n
invariant-loop-n l =
    kind_findings l.all.items ++ units_findings (libraries.library l.library) (declared l.declaration) (l.n + 1) (map unit (drop l.n l.units))
    ≡ kind_findings l.fn.all.items ++ units_findings (libraries.library l.library) (declared l.declaration) 1 (map unit l.units)
