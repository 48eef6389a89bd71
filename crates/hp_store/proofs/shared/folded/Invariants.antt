use Rattle.std.proofs.Common.{◌≡◌, take}
use Rattle.hp_model.specs.Cells.{Cell}
use Rattle.hp_store.specs.Changes.{changes, changes_in}
use Rattle.hp_store.proofs.shared.folded.Given as goal

abbrev pub invariant-loop-shared : goal.invariant-loop-shared
invariant-loop-shared l = (q : Cell) → changes l.all q ≡ changes_in (take l.shared-index l.layers) q
