use Rattle.hp_store.specs.Changes.{class_entries}
use Rattle.hp_store.specs.Keys.{merged}
use Rattle.hp_store.proofs.Merging.{Merges}
use Rattle.hp_store.proofs.layer.Layer.keys_over.Given as goal

abbrev pub invariant-loop-cell : goal.invariant-loop-cell
invariant-loop-cell l = Merges (merged l.fn.keys.items (class_entries l.class l.self)) l.merged.items l.rest l.cell-iterator
