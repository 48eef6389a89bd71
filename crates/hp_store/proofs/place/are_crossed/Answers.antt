use Rattle.std.proofs.Common.{ap, ◌∙◌}
use Rattle.std.specs.Ordering.{is_gt}
use Rattle.hp_store.proofs.Placed.{crossed}
use Rattle.hp_store.proofs.place.are_crossed.Goals as goal

pub returns-in-Some-Some-clause-crossed : goal.returns-in-Some-Some-clause-crossed
returns-in-Some-Some-clause-crossed c = crossed c.args.low c.args.high c.in-Some-Some.low c.in-Some-Some.high c.is_gt.result (c.is_gt.ensures ∙ ap is_gt c.cmp.ensures)
    c.in-Some-Some.is-0 c.in-Some-Some.is-1
