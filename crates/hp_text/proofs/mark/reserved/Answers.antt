use Rattle.std.proofs.Common.{arith}
use Rattle.hp_text.proofs.Lengths.{none}
use Rattle.hp_text.proofs.mark.reserved.Goals as goal

pub returns-in_default : goal.returns-in_default
returns-in_default c = none c.args.word.now (λ low high. omega (arith, c.in_default))
