-- What a chunk keeps.
use Rattle.std.specs.Prelude.{List, [], map, Option, Some, None}
use Rattle.std.specs.declared.sync.Arc.{Arc}
use Rattle.std.specs.declared.vec.Vec.{Vec}
use Rattle.std.specs.declared.alloc.Global.{Global}
use Rattle.hp_model.specs.Occurrences as M
use Rattle.hp_value.specs.declared.occurrence.Occurrence.{Occurrence}
use Rattle.hp_value.specs.Mapped.{occurrence}

abbrev pub kept_in : Option (Arc (Vec (Arc Occurrence Global) Global) Global) → List M.Occurrence
kept_in None = []
kept_in (Some kept) = map (λ o. occurrence o.value) kept.value.items
