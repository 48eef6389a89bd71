use Rattle.hp_board.proofs.GroupMoves.{opens}
use Rattle.hp_board.proofs.machine.Group.new.Goals as goal

pub returns : goal.returns
returns g c base changes =
    opens base changes
    (record { drawn = c.in_ok-with_capacity.field-0; seen = c.in_ok-nones.field-0; posted = c.in_ok-nones-2.field-0; settlings = c.in_ok-with_capacity-2.field-0 })
    _ c.in_ok-with_capacity.ensures.items c.in_ok-nones.ensures c.in_ok-nones-2.ensures c.in_ok-with_capacity-2.ensures.items
