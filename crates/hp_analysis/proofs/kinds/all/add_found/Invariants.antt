use Rattle.std.proofs.Common.{◌≡◌, ◌++◌, map}
use Rattle.hp_analysis.specs.FoundKinds.{kind_findings}
use Rattle.hp_analysis.specs.KindFindings.{in_unit}
use Rattle.hp_analysis.specs.Kinded.{findings}
use Rattle.hp_analysis.proofs.kinds.all.add_found.Given as goal

-- what was added and what is still to add is all
abbrev pub invariant-loop-finding : goal.invariant-loop-finding
invariant-loop-finding l =
    kind_findings l.all.items ++ map (in_unit l.unit) (findings l.finding-iterator.rest.items)
    ≡ kind_findings l.fn.all.items ++ map (in_unit l.unit) (findings l.fn.found.items)
