use Rattle.std.proofs.Common.{◌≡◌, map, take}
use Rattle.hp_value.specs.Mapped.{occurrence}
use Rattle.hp_detect.proofs.chunk.copied.Given as goal

-- the occurrences so far are shared
abbrev pub invariant-loop-o : goal.invariant-loop-o
invariant-loop-o l = map (λ o. occurrence o.value) l.all.items ≡ map (λ o. occurrence o.value) (take l.o-index l.occurrences)
