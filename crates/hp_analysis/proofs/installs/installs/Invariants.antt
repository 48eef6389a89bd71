use Rattle.std.proofs.Common.{◌≡◌, ◌++◌, map, drop, Bool}
use Rattle.std.specs.Global.{Vec}
use Rattle.hp_rule.specs.Libraries as libraries
use Rattle.hp_rule.specs.Statements.{rule}
use Rattle.hp_analysis.specs.Sets.{installs}
use Rattle.hp_analysis.proofs.installs.installs.Given as goal

-- the sets so far, with those of the rest of the rules, are all
abbrev pub invariant-loop-rule : goal.invariant-loop-rule
invariant-loop-rule l =
    let library = libraries.library l.library in
    map (λ (set : Vec Bool). set.items) l.sets.items ++ map (installs library) (map rule (drop l.rule-index l.rule-items)) ≡ map (installs library) library.rules
