use Rattle.std.proofs.Common.{◌≡◌, ◌++◌, map, drop, flat_map}
use Rattle.hp_rule.specs.Libraries as libraries
use Rattle.hp_rule.specs.Mapped.{unit}
use Rattle.hp_analysis.specs.Declarations.{declared}
use Rattle.hp_analysis.specs.Findings.{unit_findings}
use Rattle.hp_analysis.specs.Kinded.{findings}
use Rattle.hp_checked.proofs.faults.units_findings.Given as goal

-- what was found and what is still to find is all
abbrev pub invariant-loop-begun : goal.invariant-loop-begun
invariant-loop-begun l =
    findings l.all.items ++ flat_map (unit_findings (libraries.library l.library) (declared l.declaration)) (map unit (drop l.begun-index l.units))
    ≡ flat_map (unit_findings (libraries.library l.library) (declared l.declaration)) (map unit l.units)
