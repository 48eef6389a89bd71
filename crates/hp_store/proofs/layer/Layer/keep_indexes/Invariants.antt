use Rattle.std.proofs.Common.{◌≡◌}
use Rattle.hp_store.proofs.layer.Layer.keep_indexes.Given as goal

abbrev pub invariant-loop-index : goal.invariant-loop-index
invariant-loop-index l = l.self ≡ l.initial.self
