use Rattle.std.proofs.Common.{◌≡◌}
use Rattle.hp_model.specs.Rules.{Library}
use Rattle.hp_attempt.specs.Fronts.{AreSound}
use Rattle.hp_fire.specs.Groups.{AreOf}
use Rattle.hp_fire.proofs.speculate.pending.Pending.receive_all.Given as goal

abbrev pub invariant-loop-worker : goal.invariant-loop-worker
invariant-loop-worker l =
    (l.receivers.len ≡ l.worker-end)
    × ((library : Library) → AreOf library l.fn.receivers.items → AreOf library l.receivers.items)
    × ((library : Library) → AreOf library l.fn.receivers.items → AreSound library l.fn.self.attempts.items → AreSound library l.self.attempts.items)
