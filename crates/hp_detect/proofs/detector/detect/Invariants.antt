use Rattle.hp_detect.specs.Mapped.{event}
use Rattle.hp_detect.proofs.Along.{GoesAlong}
use Rattle.hp_detect.proofs.detector.detect.Given as goal

abbrev pub invariant-loop-prim : goal.invariant-loop-prim
invariant-loop-prim l = GoesAlong (event l.expr.value) l.signalled l.prim-index l.detector l.answers.items
