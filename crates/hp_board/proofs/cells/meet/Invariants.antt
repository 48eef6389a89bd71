use Rattle.std.proofs.Common.{ℕ, ◌<◌}
use Rattle.hp_board.specs.Passes.{AgreeAt}
use Rattle.hp_board.proofs.cells.meet.Given as goal

abbrev pub invariant-loop-i : goal.invariant-loop-i
invariant-loop-i g l = (k : ℕ) → k < l.i → AgreeAt l.one l.other k
