use Rattle.std.proofs.Common.{◌≡◌, List, ◌++◌, map}
use Rattle.hp_model.specs.Cells.{Read, ReadsHold}
use Rattle.hp_view.specs.Mapped.{read}
use Rattle.hp_view.specs.Seeing.{now_in}
use Rattle.hp_attempt.proofs.holding.first_failed.Given as goal

abbrev pub invariant-loop-seen : goal.invariant-loop-seen
invariant-loop-seen l = record {
  passed : List Read;
  split : l.reads ≡ passed ++ map read l.seen-iterator;
  held : ReadsHold (now_in l.view) passed;
}
