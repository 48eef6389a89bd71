use Rattle.std.proofs.Common.{◌≡◌, drop, map}
use Rattle.hp_value.specs.Mapped.{field}
use Rattle.hp_rule.specs.Statements.{assignment}
use Rattle.hp_model.specs.Kinds.{all_assigned}
use Rattle.hp_analysis.proofs.kinds.statement.are_all_assigned.Given as goal

-- the rest of the fields are assigned if all are
abbrev pub invariant-loop-defined : goal.invariant-loop-defined
invariant-loop-defined l = all_assigned (map field (drop l.defined-index l.fields)) (map assignment l.pairs) ≡ all_assigned (map field l.fields) (map assignment l.pairs)
