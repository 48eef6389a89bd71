use Rattle.std.proofs.Common.{◌+◌, ◌*◌}
use Rattle.hp_script.proofs.event.+event.Given as goal

abbrev pub decreases-event_within : goal.decreases-event_within
decreases-event_within l = 3 * l.levels

abbrev pub decreases-part_at : goal.decreases-part_at
decreases-part_at l = 3 * l.levels + 1

abbrev pub decreases-parts_at : goal.decreases-parts_at
decreases-parts_at l = 3 * l.levels + 2
