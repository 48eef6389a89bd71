use Rattle.std.proofs.Common.{length}
use Rattle.hipac_check.proofs.walk.+offset_along.Given as goal

abbrev pub decreases-offset_along : goal.decreases-offset_along
decreases-offset_along l = length l.along.now
