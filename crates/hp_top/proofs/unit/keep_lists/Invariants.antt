use Rattle.std.proofs.Common.{◌≡◌, List, ◌++◌, map}
use Rattle.hp_model.specs.Cells.{Read}
use Rattle.hp_view.specs.Mapped.{read}
use Rattle.hp_top.proofs.unit.keep_lists.Given as goal

abbrev pub invariant-loop-seen : goal.invariant-loop-seen
invariant-loop-seen l = record {
  passed : List Read;
  split : l.reads ≡ passed ++ map read l.seen-iterator;
  same : l.store ≡ l.initial.store;
}
