use Rattle.std.specs.Prelude.{All}
use Rattle.hp_rule.specs.Mapped.{library}
use Rattle.hp_board.specs.Deal.{IsSeatOf}
use Rattle.hp_fire.specs.Groups.{IsJob, AreOf}
use Rattle.hp_fire.proofs.speculate.wave.jobs_for.Given as goal

abbrev pub invariant-loop-seat : goal.invariant-loop-seat
invariant-loop-seat l =
    All (IsSeatOf l.wave.board.deal) l.seat-iterator.rest.items × All (IsJob (library l.lib) l.wave) l.jobs.items × AreOf (library l.lib) l.receivers.items
