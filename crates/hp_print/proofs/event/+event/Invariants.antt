use Rattle.std.proofs.Common.{◌+◌, ◌*◌}
use Rattle.hp_print.proofs.event.+event.Given as goal

abbrev pub decreases-event : goal.decreases-event
decreases-event l = 6 * l.levels

abbrev pub decreases-enclosed : goal.decreases-enclosed
decreases-enclosed l = 6 * l.levels + 1

abbrev pub decreases-left_part : goal.decreases-left_part
decreases-left_part l = 6 * l.levels + 2

abbrev pub decreases-right_part : goal.decreases-right_part
decreases-right_part l = 6 * l.levels + 2

abbrev pub decreases-joined : goal.decreases-joined
decreases-joined l = 6 * l.levels + 3

abbrev pub decreases-closure : goal.decreases-closure
decreases-closure l = 6 * l.levels + 3

abbrev pub decreases-of_two : goal.decreases-of_two
decreases-of_two l = 6 * l.levels + 4
