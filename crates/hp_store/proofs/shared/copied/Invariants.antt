use Rattle.std.proofs.Common.{◌≡◌, take}
use Rattle.hp_store.proofs.shared.copied.Given as goal

abbrev pub invariant-loop-shared : goal.invariant-loop-shared
invariant-loop-shared l = l.copies.items ≡ take l.shared-index l.layers
