use Rattle.std.proofs.Common.{◌+◌, ◌*◌}
use Rattle.hp_text.proofs.event.+event.Given as goal

abbrev pub decreases-event : goal.decreases-event
decreases-event l = 100 * (4 * l.levels)

abbrev pub decreases-event_from : goal.decreases-event_from
decreases-event_from l = 100 * (4 * l.inner + 3) + l.operators

abbrev pub decreases-simple_event : goal.decreases-simple_event
decreases-simple_event l = 100 * (4 * l.inner + 2)

abbrev pub decreases-marked_event : goal.decreases-marked_event
decreases-marked_event l = 100 * (4 * l.inner + 1)

abbrev pub decreases-closure : goal.decreases-closure
decreases-closure l = 100 * (4 * l.inner + 1)
