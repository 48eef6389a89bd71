use Rattle.std.proofs.Common.{◌≡◌, drop, map, Bool}
use Rattle.std.specs.Global.{Vec}
use Rattle.hp_analysis.specs.Reached.{leading_out}
use Rattle.hp_analysis.proofs.sets.leading_out.Given as goal

-- it is among the rest
abbrev pub invariant-loop-n : goal.invariant-loop-n
invariant-loop-n l =
    leading_out l.set l.n (map (λ (triggered : Vec Bool). triggered.items) (drop l.n l.after)) ≡ leading_out l.set 0 (map (λ (triggered : Vec Bool). triggered.items) l.after)
