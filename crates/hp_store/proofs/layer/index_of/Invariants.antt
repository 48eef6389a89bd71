use Rattle.hp_store.proofs.Noted.{Notes}
use Rattle.hp_store.proofs.layer.index_of.Given as goal

abbrev pub invariant-loop-cell : goal.invariant-loop-cell
invariant-loop-cell l = Notes l.index l.named.entries l.cell-iterator
