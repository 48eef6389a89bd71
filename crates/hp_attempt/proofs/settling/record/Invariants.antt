use Rattle.std.proofs.Common.{map}
use Rattle.hp_model.specs.Cells.{Cells, Read, Holds, ReadsHold, over}
use Rattle.hp_view.specs.Mapped.{read}
use Rattle.hp_view.specs.Seeing.{GoesOn, OnlyReads, written, now_in}
use Rattle.hp_view.specs.Adding.{AddsReads}
use Rattle.hp_attempt.specs.Holding.{IsForAny}
use Rattle.hp_attempt.proofs.settling.record.Given as goal

abbrev pub invariant-loop-seen : goal.invariant-loop-seen
invariant-loop-seen l = record {
  only : OnlyReads l.fn.view l.view;
  on : GoesOn l.fn.view l.view;
  adds : AddsReads (IsForAny (written l.fn.view) l.reads) l.fn.view.reads l.view.reads;
  into : (r : Read) → IsForAny (written l.fn.view) (map read l.seen-iterator) r → IsForAny (written l.fn.view) l.reads r;
  left : ReadsHold (now_in l.fn.view) (map read l.seen-iterator);
  covers : (base : Cells) → Holds base l.view.reads → ReadsHold (over base (written l.view)) (map read l.seen-iterator) → ReadsHold (over base (written l.view)) l.reads;
}
