use Rattle.hp_model.specs.Rules.{Library}
use Rattle.hp_attempt.specs.Fronts.{AreSound}
use Rattle.hp_fire.specs.Groups.{AreSoundTries}
use Rattle.hp_fire.proofs.speculate.pending.Pending.put_each.Given as goal

abbrev pub invariant-loop-tried : goal.invariant-loop-tried
invariant-loop-tried l =
    (library : Library) → AreSound library l.fn.self.attempts.items → AreSoundTries library l.fn.tries.items → AreSound library l.self.attempts.items
    × AreSoundTries library l.tried-iterator.rest.items
