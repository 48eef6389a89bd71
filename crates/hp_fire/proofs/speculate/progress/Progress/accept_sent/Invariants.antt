use Rattle.hp_model.specs.Rules.{Library}
use Rattle.hp_attempt.specs.Fronts.{AreSound}
use Rattle.hp_fire.specs.Groups.{AreOf, Comes, IsAcceptedWithin}
use Rattle.std.proofs.Common.{◌≡◌, map}
use Rattle.hp_rule.specs.Mapped.{task}
use Rattle.hp_fire.proofs.speculate.progress.Progress.accept_sent.Given as goal

abbrev pub invariant-loop : goal.invariant-loop
invariant-loop l =
    record {
      accepted : IsAcceptedWithin l.self;
      waves : l.self.counts.waves ≡ l.fn.self.counts.waves;
      channels : (library : Library) → AreOf library l.fn.receivers.items → AreOf library l.receivers.items;
      comes : (library : Library) → AreOf library l.fn.receivers.items → AreSound library l.fn.self.pending.attempts.items
          → Comes library l.wave.stop_at_veto (map task l.wave.tasks.now) l.fn.view l.fn.self l.view l.self;
    }
