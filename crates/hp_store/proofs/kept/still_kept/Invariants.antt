use Rattle.hp_model.specs.Cells.{Cells, over}
use Rattle.hp_store.specs.Changes.{changes}
use Rattle.hp_store.specs.Kept.{AreKept}
use Rattle.hp_store.proofs.kept.still_kept.Given as goal

abbrev pub invariant-loop-list : goal.invariant-loop-list
invariant-loop-list l = (base : Cells) → AreKept base l.lists → AreKept (over base (changes l.layer)) l.kept.items
