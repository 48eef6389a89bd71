use Rattle.std.proofs.Common.{take}
use Rattle.std.specs.Prelude.{All}
use Rattle.hp_model.specs.Cells.{object_cell}
use Rattle.hp_view.specs.Adding.{AddsReads, IsOfClass}
use Rattle.hp_view.specs.Seeing.{written, now_in, OnlyReads, GoesOn, Shows}
use Rattle.hp_view.proofs.view.View.read_rows.Given as goal

abbrev pub invariant-loop-key : goal.invariant-loop-key
invariant-loop-key l = record {
  only : OnlyReads l.fn.self l.self;
  on : GoesOn l.fn.self l.self;
  adds : AddsReads (IsOfClass (written l.fn.self) l.class) l.fn.self.reads l.self.reads;
  shows : All (λ key. Shows l.self (object_cell l.class key) (now_in l.fn.self (object_cell l.class key))) (take l.key-index l.keys);
}
