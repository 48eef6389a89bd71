use Rattle.std.proofs.Common.{◌≡◌, ◌++◌}
use Rattle.hp_analysis.specs.Kinded.{findings}
use Rattle.hp_checked.proofs.faults.add_found.Given as goal

-- what was added and what is still to add is all
abbrev pub invariant-loop-finding : goal.invariant-loop-finding
invariant-loop-finding l = findings l.all.items ++ findings l.finding-iterator.rest.items ≡ findings l.fn.all.items ++ findings l.fn.found.items
