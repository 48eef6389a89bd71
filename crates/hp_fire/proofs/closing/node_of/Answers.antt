use Rattle.std.proofs.Common.{rules}
use Rattle.hp_tree.specs.declared.node.Item.TheViews.{the_lemmas}
use Rattle.hp_tree.proofs.Trees.{row_items_lem}
use Rattle.hp_fire.proofs.closing.node_of.Goals as goal

pub returns : goal.returns
returns c = search (rules, the_lemmas, row_items_lem)
