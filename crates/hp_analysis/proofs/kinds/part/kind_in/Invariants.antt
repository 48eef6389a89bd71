use Rattle.std.proofs.Common.{◌≡◌, drop, map}
use Rattle.hp_value.specs.Mapped.{field}
use Rattle.hp_model.specs.Firing.{kind_in}
use Rattle.hp_analysis.proofs.kinds.part.kind_in.Given as goal

-- the rest of the fields has the kind that all have
abbrev pub invariant-loop-defined : goal.invariant-loop-defined
invariant-loop-defined l = kind_in (map field (drop l.defined-index l.fields)) l.name ≡ kind_in (map field l.fields) l.name
