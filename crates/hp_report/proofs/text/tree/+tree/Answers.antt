use Rattle.std.proofs.Common.{rules, ◌≡◌, ◌∙◌, ◌++◌, ap, sym, string_bytes, ◌+◌}
use Rattle.hp_model.specs.Tree.{no_items, node}
use Rattle.hp_model.specs.Report.{tree_text}
use Rattle.hp_tree.specs.declared.node.Item.TheViews.{the_lemmas}
use Rattle.hp_tree.proofs.Trees.{row_items_lem}
use Rattle.hp_report.specs.Mapped as model
use Rattle.hp_report.proofs.TreeLines.{item_put, node_put}
use Rattle.hp_report.proofs.text.tree.+tree.Goals as goal

pub put_item-returns-in_ok-put_items-in-Node : goal.put_item-returns-in_ok-put_items-in-Node
put_item-returns-in_ok-put_items-in-Node t c =
    let library = model.library_of c.args.names.now in
    let what = model.what c.in-Node.node.what in
    let end = model.ending c.in-Node.node.end in
    let inside = model.items_in c.in-Node.node.items.items in
    let deeper : c.in_ok-inner-in-Node.inner ≡ c.args.indent + 2 = search rules in
    let is : model.before c.args.item.now no_items ≡ node what end inside no_items = search (rules, the_lemmas, row_items_lem) in
    node_put library c.args.indent c.in_ok-inner-in-Node.inner what end inside (string_bytes c.args.out.now) (string_bytes c.put_node_line.new.out) _
    c.in_ok-put_node_line-in-Node.ensures deeper
    (c.in_ok-put_items-in-Node.ensures ∙ ap (λ is. string_bytes c.put_node_line.new.out ++ tree_text library c.in_ok-inner-in-Node.inner (model.items_in is)) c.deref.ensures.value)
    ∙ ap (λ items. string_bytes c.args.out.now ++ tree_text library c.args.indent items) (sym is)

pub put_items-loop-item-preserved : goal.put_items-loop-item-preserved
put_items-loop-item-preserved t c =
    item_put (model.library_of c.args.names.now) c.args.indent c.args.items.now c.loop-item.item-index c.item-item.result _ _ _
    c.loop-item-test.true c.item-item.is c.in_ok-put_item.ensures c.loop-item.invariant
