use Rattle.std.proofs.Common.{rules}
use Rattle.hp_tree.specs.Mapped.{values_behind}
use Rattle.hp_tree.specs.declared.node.Item.TheViews.{the_lemmas}
use Rattle.hp_tree.proofs.Trees.{row_items_lem, item_added}
use Rattle.hp_tree.proofs.emitted.+emits.Goals as goal

pub add_emit-returns-in_ok-add_emits-in-Node : goal.add_emit-returns-in_ok-add_emits-in-Node
add_emit-returns-in_ok-add_emits-in-Node t c = search (rules, the_lemmas, row_items_lem)

pub add_emits-loop-item-preserved : goal.add_emits-loop-item-preserved
add_emits-loop-item-preserved t c =
    item_added c.args.items.now c.loop-item.item-index c.item-item.result _ (values_behind c.add_emit.new.values.items) _
    c.loop-item-test.true c.item-item.is c.in_ok-add_emit.ensures c.loop-item.invariant
