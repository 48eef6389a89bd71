use Rattle.std.proofs.Common.{◌≡◌, drop}
use Rattle.hp_analysis.specs.Sets.{marked}
use Rattle.hp_analysis.proofs.sets.mark_all.Given as goal

-- the rest of the rules are still to be added
abbrev pub invariant-loop-number : goal.invariant-loop-number
invariant-loop-number l = marked (drop l.number-index l.numbers) l.set.items ≡ marked l.numbers l.initial.set.items
