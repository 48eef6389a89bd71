use Rattle.std.proofs.Common.{◌≡◌, drop, map}
use Rattle.hp_model.specs.Firing as model
use Rattle.hp_value.specs.Mapped.{field}
use Rattle.hp_ops.proofs.rows.kind_in.Given as goal

-- what is still to be searched gives the same answer as the whole
abbrev pub invariant-loop-f : goal.invariant-loop-f
invariant-loop-f l = model.kind_in (map field (drop l.f-index l.fields)) l.name ≡ model.kind_in (map field l.fields) l.name
