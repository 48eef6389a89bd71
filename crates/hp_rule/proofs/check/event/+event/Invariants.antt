use Rattle.std.proofs.Common.{◌+◌, ◌*◌}
use Rattle.hp_rule.proofs.check.event.+event.Given as goal

abbrev pub decreases-check_event : goal.decreases-check_event
decreases-check_event l = 2 * l.levels

abbrev pub decreases-check_arms : goal.decreases-check_arms
decreases-check_arms l = 2 * l.levels + 1
