use Rattle.std.proofs.Common.{◌≡◌}
use Rattle.hp_model.specs.Rules.{Library}
use Rattle.hp_attempt.specs.Fronts.{AreSound}
use Rattle.hp_fire.proofs.speculate.pending.Pending.drop_first_and_stale.Given as goal

abbrev pub invariant-loop-slot : goal.invariant-loop-slot
invariant-loop-slot l =
    (l.self.attempts.len ≡ l.slot-end) × ((library : Library) → AreSound library l.fn.self.attempts.items → AreSound library l.self.attempts.items)
