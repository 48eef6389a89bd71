use Rattle.std.proofs.Common.{◌≡◌, ◌++◌, length}
use Rattle.hp_store.specs.Parts.{keys_left}
use Rattle.hp_store.proofs.parts.add.Given as goal

abbrev pub invariant-loop-key : goal.invariant-loop-key
invariant-loop-key l = l.keys.items ++ keys_left l.more ≡ l.initial.keys.items ++ keys_left l.initial.more

abbrev pub decreases-loop-key : goal.decreases-loop-key
decreases-loop-key l = length (keys_left l.more)
