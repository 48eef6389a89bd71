use Rattle.std.proofs.Common.{Some}
use Rattle.hp_fire.proofs.Helping.{sound_set}
use Rattle.hp_fire.proofs.speculate.pending.Pending.set_attempt.Goals as goal

pub returns-then-slot-len-clause-sound : goal.returns-then-slot-len-clause-sound
returns-then-slot-len-clause-sound c = λ library sound is. sound_set library c.args.self.now.attempts.items c.args.slot (Some c.args.attempt) sound is
