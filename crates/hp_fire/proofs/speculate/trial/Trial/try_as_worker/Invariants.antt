use Rattle.std.proofs.Common.{◌≡◌}
use Rattle.rtrb.specs.Ring.{sent}
use Rattle.hp_rule.specs.Mapped.{library}
use Rattle.hp_fire.specs.Channels.{IsOf, IsFrom}
use Rattle.hp_fire.specs.Groups.{AreSoundTries, IsWorker}
use Rattle.hp_fire.proofs.speculate.trial.Trial.try_as_worker.Given as goal

abbrev pub invariant-loop : goal.invariant-loop
invariant-loop g l =
    AreSoundTries (library l.self.lib.now) l.found.items × IsOf (library l.self.lib.now) (sent l.sender) × IsFrom l.fn.wave.snapshot l.fn.wave.done (sent l.sender)
    × IsWorker l.worker × (l.worker.wave.now ≡ l.fn.wave)
