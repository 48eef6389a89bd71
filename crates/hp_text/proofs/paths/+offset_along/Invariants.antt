use Rattle.std.proofs.Common.{length}
use Rattle.hp_text.proofs.paths.+offset_along.Given as goal

abbrev pub decreases-offset_along : goal.decreases-offset_along
decreases-offset_along l = length l.steps.now
