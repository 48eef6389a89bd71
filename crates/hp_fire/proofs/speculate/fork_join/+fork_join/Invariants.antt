use Rattle.std.proofs.Common.{◌+◌, ◌*◌, length}
use Rattle.hp_fire.proofs.speculate.fork_join.+fork_join.Given as goal

abbrev pub decreases-rest : goal.decreases-rest
decreases-rest g l = 2 * length l.jobs.items + 1

abbrev pub decreases-on_threads : goal.decreases-on_threads
decreases-on_threads g l = 2 * length l.jobs.items
