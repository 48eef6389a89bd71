use Rattle.std.proofs.Common.{map, Bool}
use Rattle.std.specs.Global.{Vec}
use Rattle.hp_analysis.proofs.Reaching.{missing, LeadsTo}
use Rattle.hp_analysis.proofs.sets.spread.Given as goal

-- the closure of the set so far is that of the set at the start
abbrev pub invariant-loop-triggered : goal.invariant-loop-triggered
invariant-loop-triggered l = LeadsTo (map (λ (s : Vec Bool). s.items) l.after) l.initial.set.items l.set.items

abbrev pub decreases-loop-triggered : goal.decreases-loop-triggered
decreases-loop-triggered l = missing l.set.items
