use Rattle.std.proofs.Common.{sym, subst}
use Rattle.hp_attempt.specs.Fronts.{AreSound}
use Rattle.hp_fire.proofs.Helping.{sound_none}
use Rattle.hp_fire.proofs.speculate.pending.no_attempts.Goals as goal

pub loop-preserved : goal.loop-preserved
loop-preserved c = λ library. subst (AreSound library) (sym c.in_ok-push_back.ensures.items) (sound_none library c.loop.attempts.items (c.loop.invariant library))
