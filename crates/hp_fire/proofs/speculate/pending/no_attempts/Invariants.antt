use Rattle.hp_model.specs.Rules.{Library}
use Rattle.hp_attempt.specs.Fronts.{AreSound}
use Rattle.hp_fire.proofs.speculate.pending.no_attempts.Given as goal

abbrev pub invariant-loop : goal.invariant-loop
invariant-loop l = (library : Library) → AreSound library l.attempts.items
