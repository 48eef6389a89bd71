use Rattle.std.proofs.Common.{◌≡◌, vec_items, None, replicate}
use Rattle.hp_board.proofs.machine.nones.Given as goal

abbrev pub invariant-loop : goal.invariant-loop
invariant-loop g l = vec_items l.all ≡ replicate l.counter None
