use Rattle.std.proofs.Common.{◌<◌, length}
use Rattle.hp_store.proofs.shared.fold_from.Given as goal

abbrev pub invariant-loop-from : goal.invariant-loop-from
invariant-loop-from l = l.from < length l.layers

abbrev pub decreases-loop-from : goal.decreases-loop-from
decreases-loop-from l = l.from
