use Rattle.std.proofs.Common.{◌≡◌, map, take}
use Rattle.hp_value.specs.Mapped.{primitive}
use Rattle.hp_detect.proofs.parts.followed.Given as goal

-- the parts so far are copied
abbrev pub invariant-loop-part : goal.invariant-loop-part
invariant-loop-part l = map primitive l.parts.items ≡ map primitive (take l.part-index l.first)
