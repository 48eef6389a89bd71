use Rattle.std.proofs.Common.{◌≡◌, length}
use Rattle.hp_value.specs.Mapped.{cell}
use Rattle.hp_store.specs.Changes.{changes_in}
use Rattle.hp_store.proofs.shared.newest.Given as goal

abbrev pub invariant-loop-last : goal.invariant-loop-last
invariant-loop-last l = changes_in l.rest (cell l.cell) ≡ changes_in l.layers (cell l.cell)

abbrev pub decreases-loop-last : goal.decreases-loop-last
decreases-loop-last l = length l.rest
