use Rattle.std.proofs.Common.{◌≡◌, ◌++◌, map, drop, Bool}
use Rattle.std.specs.Global.{Vec}
use Rattle.hp_analysis.specs.Sets.{is_within}
use Rattle.hp_analysis.proofs.sets.within_each.Given as goal

-- what is known so far, and of the rest of the sets, is the whole table
abbrev pub invariant-loop-set : goal.invariant-loop-set
invariant-loop-set l =
    l.table.items ++ map (λ (set : Vec Bool). is_within l.other set.items) (drop l.set-index l.sets) ≡ map (λ (set : Vec Bool). is_within l.other set.items) l.sets
