use Rattle.std.proofs.Common.{◌≡◌, ◌++◌, map, drop}
use Rattle.hp_rule.specs.Libraries as libraries
use Rattle.hp_rule.specs.Statements.{rule}
use Rattle.hp_analysis.proofs.sets.filled.Given as goal

-- the places so far, with those of the rest of the rules, are all
abbrev pub invariant-loop : goal.invariant-loop
invariant-loop l = l.set.items ++ map (λ r. l.member) (map rule (drop l.index l.items)) ≡ map (λ r. l.member) (libraries.library l.library).rules
