use Rattle.std.proofs.Common.{sym, subst}
use Rattle.hp_attempt.specs.Fronts.{AreSound}
use Rattle.hp_fire.proofs.speculate.pending.Pending.put.Goals as goal

pub returns-clause-sound : goal.returns-clause-sound
returns-clause-sound c = λ library sound is. c.set_attempt.ensures.sound library (subst (λ a. AreSound library a.items) (sym c.set_cost.ensures) sound) is
