use Rattle.hp_tree.specs.Mapped.{items_in}
use Rattle.hp_fire.specs.Mapped.{course}
use Rattle.hp_top.proofs.Ended.{closes_top}
use Rattle.hp_top.proofs.closing.close.Goals as goal

pub returns : goal.returns
returns c =
    closes_top c.args.mark (course c.args.course) _ c.in_ok-end_transaction.ensures.closes
    (λ i. record { ending = c.ending.ensures i; items = items_in c.args.course.items.items; detached = c.in_ok-detached.ensures i })
