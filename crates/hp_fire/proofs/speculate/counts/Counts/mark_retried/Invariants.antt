use Rattle.std.proofs.Common.{◌≡◌}
use Rattle.hp_fire.proofs.speculate.counts.Counts.mark_retried.Given as goal

abbrev pub invariant-loop-slot : goal.invariant-loop-slot
invariant-loop-slot l = l.self ≡ record l.fn.self { retried = l.self.retried }
