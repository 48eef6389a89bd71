use Rattle.std.proofs.Common.{◌≡◌, map, drop}
use Rattle.std.specs.Prelude.{is_none}
use Rattle.std.specs.List.{list_all}
use Rattle.hp_rule.specs.Statements.{rule}
use Rattle.hp_analysis.specs.Guards.{opening}
use Rattle.hp_analysis.proofs.guards.have_no_opening.Given as goal

-- the rest has no opening as all rules have none
abbrev pub invariant-loop-rule : goal.invariant-loop-rule
invariant-loop-rule l = list_all (λ r. is_none (opening r)) (map rule (drop l.rule-index l.rules)) ≡ list_all (λ r. is_none (opening r)) (map rule l.rules)
