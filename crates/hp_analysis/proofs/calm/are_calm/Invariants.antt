use Rattle.std.proofs.Common.{◌≡◌, drop, map}
use Rattle.std.specs.List.{list_all}
use Rattle.hp_value.specs.Mapped.{expression}
use Rattle.hp_model.specs.Kinds.{is_calm}
use Rattle.hp_analysis.proofs.calm.are_calm.Given as goal

-- the rest is calm as all are
abbrev pub invariant-loop-expr : goal.invariant-loop-expr
invariant-loop-expr l = list_all is_calm (map expression (drop l.expr-index l.exprs)) ≡ list_all is_calm (map expression l.exprs)
