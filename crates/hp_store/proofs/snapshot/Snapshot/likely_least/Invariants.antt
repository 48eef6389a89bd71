use Rattle.hp_store.proofs.Topmost.{left_above}
use Rattle.hp_store.proofs.snapshot.Snapshot.likely_least.Given as goal

abbrev pub decreases-loop-key : goal.decreases-loop-key
decreases-loop-key l = left_above l.bound
