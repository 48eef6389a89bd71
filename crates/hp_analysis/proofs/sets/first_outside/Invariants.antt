use Rattle.std.proofs.Common.{◌≡◌, drop}
use Rattle.hp_analysis.specs.Sets.{outside_from}
use Rattle.hp_analysis.proofs.sets.first_outside.Given as goal

-- it is among the rest
abbrev pub invariant-loop-n : goal.invariant-loop-n
invariant-loop-n l = outside_from l.other l.n (drop l.n l.set) ≡ outside_from l.other 0 l.set
