use Rattle.std.proofs.Common.{◌≤◌, length}
use Rattle.hp_model.specs.Cells.{Cells, AreObjects}
use Rattle.hp_store.proofs.Overlaid.{Tells, Walks}
use Rattle.hp_store.proofs.layer.Layer.objects_over.Given as goal

abbrev pub invariant-loop-cell : goal.invariant-loop-cell
invariant-loop-cell l = record {
  within : l.from ≤ length l.keys;
  walks : (base : Cells) → AreObjects base l.class l.objects → Walks base l.class l.objects l.self l.merged l.from l.cell-iterator;
  tells : Tells l.class l.self l.cell-iterator;
}
