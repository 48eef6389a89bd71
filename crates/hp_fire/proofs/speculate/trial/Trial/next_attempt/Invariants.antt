use Rattle.std.proofs.Common.{◌≡◌}
use Rattle.hp_fire.specs.Groups.{IsWorker}
use Rattle.hp_fire.specs.Starts.{OnlyLearns}
use Rattle.hp_fire.proofs.speculate.trial.Trial.next_attempt.Given as goal

abbrev pub invariant-loop : goal.invariant-loop
invariant-loop g l = IsWorker l.worker × (l.worker.wave ≡ l.fn.worker.wave) × OnlyLearns l.fn.worker.pass l.worker.pass
