use Rattle.std.proofs.Common.{length}
use Rattle.hipac_check.proofs.lines.+put_chain.Given as goal

abbrev pub decreases-put_chain : goal.decreases-put_chain
decreases-put_chain l = length l.chain.now
