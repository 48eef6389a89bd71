use Rattle.std.proofs.Common.{◌≡◌, drop}
use Rattle.hp_analysis.specs.Reached.{united_from}
use Rattle.hp_analysis.proofs.sets.unite.Given as goal

-- the rest of the other set is still to be added
abbrev pub invariant-loop-n : goal.invariant-loop-n
invariant-loop-n l = united_from l.n (drop l.n l.other) l.set.items ≡ united_from 0 l.other l.initial.set.items
