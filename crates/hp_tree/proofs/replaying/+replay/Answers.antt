use Rattle.std.proofs.Common.{rules}
use Rattle.hp_tree.specs.declared.node.Item.TheViews.{the_lemmas}
use Rattle.hp_tree.proofs.Trees.{row_items_lem, item_replayed}
use Rattle.hp_tree.proofs.replaying.+replay.Goals as goal

pub replay_item-returns-in_ok-replay_items-in-Node : goal.replay_item-returns-in_ok-replay_items-in-Node
replay_item-returns-in_ok-replay_items-in-Node t c = search (rules, the_lemmas, row_items_lem)

pub replay_items-loop-item-preserved : goal.replay_items-loop-item-preserved
replay_items-loop-item-preserved t c =
    item_replayed c.args.items.now c.loop-item.item-index c.item-item.result _ _ _
    c.loop-item-test.true c.item-item.is c.in_ok-replay_item.ensures c.loop-item.invariant
