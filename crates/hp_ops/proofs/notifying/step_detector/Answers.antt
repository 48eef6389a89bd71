use Rattle.std.proofs.Common.{sym, subst}
use Rattle.hp_value.specs.Mapped.{primitive}
use Rattle.hp_model.specs.Cells.{detector_cell}
use Rattle.hp_detect.specs.Mapped.{event as event_of}
use Rattle.hp_ops.specs.Notified.{StepsOn}
use Rattle.hp_ops.proofs.Adding.{adds_read}
use Rattle.hp_ops.proofs.Notices.{detector_stepped}
use Rattle.hp_ops.proofs.notifying.step_detector.Goals as goal

pub returns-clause-steps : goal.returns-clause-steps
returns-clause-steps c =
    subst (λ o. StepsOn (event_of c.args.event.now) (primitive c.args.prim.now) c.args.number c.read.new.self o c.in_ok-occurrence.next) (sym c.in_ok-made.ensures)
    (detector_stepped _ c.in_ok-occurrence.next c.in_ok-read.ensures.only c.in_ok-read.ensures.shows c.peek-known.ensures c.in_ok-occurrence.ensures)

pub returns-clause-reads : goal.returns-clause-reads
returns-clause-reads c = adds_read (detector_cell c.args.number) c.in_ok-read.ensures.reads
