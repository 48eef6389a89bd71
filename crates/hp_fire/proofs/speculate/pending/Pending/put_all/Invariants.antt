use Rattle.std.specs.Prelude.{All}
use Rattle.hp_model.specs.Rules.{Library}
use Rattle.hp_attempt.specs.Fronts.{AreSound}
use Rattle.hp_fire.specs.Groups.{AreSoundTries}
use Rattle.hp_fire.proofs.speculate.pending.Pending.put_all.Given as goal

abbrev pub invariant-loop-tries : goal.invariant-loop-tries
invariant-loop-tries l =
    (library : Library) → AreSound library l.fn.self.attempts.items → All (λ tries. AreSoundTries library tries.items) l.fn.found.items
    → AreSound library l.self.attempts.items × All (λ tries. AreSoundTries library tries.items) l.tries-iterator.rest.items
