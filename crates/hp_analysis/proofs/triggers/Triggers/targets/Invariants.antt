use Rattle.std.proofs.Common.{◌≡◌, ◌++◌, length, map, drop, Bool}
use Rattle.std.specs.Global.{Vec}
use Rattle.hp_model.specs.Idle.{idle_from}
use Rattle.hp_rule.specs.Statements.{rule}
use Rattle.hp_analysis.specs.Graphs.{seen}
use Rattle.hp_analysis.specs.Sets.{targets}
use Rattle.hp_analysis.specs.Reached.{has}
use Rattle.hp_analysis.proofs.triggers.Triggers.targets.Given as goal

-- the sets so far, with those of the rest of the rules, are all
abbrev pub invariant-loop-n : goal.invariant-loop-n
invariant-loop-n l =
    let library = seen l.self in
    map (λ (set : Vec Bool). set.items) l.sets.items ++ map (targets library) (idle_from (has l.self.present.items) (length library.classes) l.n (map rule (drop l.n l.rule-items))) ≡ map
    (targets library) library.rules
