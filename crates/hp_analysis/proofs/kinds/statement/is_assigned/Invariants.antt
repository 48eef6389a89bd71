use Rattle.std.proofs.Common.{◌≡◌, drop, map, bytes_eq}
use Rattle.std.specs.List.{list_any}
use Rattle.hp_rule.specs.Statements.{assignment}
use Rattle.hp_model.specs.Rules.{Assignment}
use Rattle.hp_analysis.proofs.kinds.statement.is_assigned.Given as goal

-- the rest sets the field if one of all does
abbrev pub invariant-loop-pair : goal.invariant-loop-pair
invariant-loop-pair l =
    list_any (λ (a : Assignment). bytes_eq l.name a.field) (map assignment (drop l.pair-index l.pairs)) ≡ list_any (λ (a : Assignment). bytes_eq l.name a.field) (map assignment l.pairs)
