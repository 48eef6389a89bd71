use Rattle.std.proofs.Common.{◌≡◌}
use Rattle.hp_fire.proofs.speculate.extents.share_beneath.Given as goal

abbrev pub invariant-loop-class : goal.invariant-loop-class
invariant-loop-class l = l.view ≡ l.fn.view
