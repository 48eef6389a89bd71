use Rattle.std.proofs.Common.{◌≡◌}
use Rattle.hp_rule.specs.Mapped.{library}
use Rattle.hp_fire.specs.Groups.{AreOf, IsWorker, ComesInWave}
use Rattle.hp_fire.proofs.speculate.trial.Trial.accept_each.Given as goal

abbrev pub invariant-loop : goal.invariant-loop
invariant-loop g l =
    ComesInWave (library l.self.lib.now) l.fn.worker.wave.now l.fn.view l.fn.progress l.view l.progress
    × AreOf (library l.self.lib.now) l.receivers.items × IsWorker l.worker × (l.worker.wave ≡ l.fn.worker.wave)
    × (l.progress.counts.waves ≡ l.fn.progress.counts.waves)
