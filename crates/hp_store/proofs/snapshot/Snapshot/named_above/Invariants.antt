use Rattle.std.proofs.Common.{◌≡◌, true, IfSome}
use Rattle.hp_model.specs.Cells.{is_above}
use Rattle.hp_store.proofs.snapshot.Snapshot.named_above.Given as goal

abbrev pub invariant-loop-shared : goal.invariant-loop-shared
invariant-loop-shared l = IfSome l.least (λ key. is_above l.bound key ≡ true)
