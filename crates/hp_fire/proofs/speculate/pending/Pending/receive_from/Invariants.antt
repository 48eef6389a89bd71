use Rattle.rtrb.specs.Ring.{received}
use Rattle.hp_model.specs.Rules.{Library}
use Rattle.hp_attempt.specs.Fronts.{AreSound}
use Rattle.hp_fire.specs.Channels.{IsOf}
use Rattle.hp_fire.proofs.speculate.pending.Pending.receive_from.Given as goal

abbrev pub invariant-loop : goal.invariant-loop
invariant-loop l =
    ((library : Library) → IsOf library (received l.fn.receiver) → IsOf library (received l.receiver))
    × ((library : Library) → IsOf library (received l.fn.receiver) → AreSound library l.fn.self.attempts.items → AreSound library l.self.attempts.items)
