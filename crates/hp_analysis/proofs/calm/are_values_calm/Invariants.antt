use Rattle.std.proofs.Common.{◌≡◌, drop, map}
use Rattle.std.specs.List.{list_all}
use Rattle.hp_model.specs.Rules.{Assignment}
use Rattle.hp_model.specs.Kinds.{is_calm}
use Rattle.hp_rule.specs.Statements.{assignment}
use Rattle.hp_analysis.proofs.calm.are_values_calm.Given as goal

-- the rest is calm as all are
abbrev pub invariant-loop-pair : goal.invariant-loop-pair
invariant-loop-pair l = list_all (λ (a : Assignment). is_calm a.value) (map assignment (drop l.pair-index l.pairs)) ≡ list_all (λ (a : Assignment). is_calm a.value) (map assignment l.pairs)
