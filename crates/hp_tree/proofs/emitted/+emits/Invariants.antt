use Rattle.std.proofs.Common.{◌≡◌, ◌++◌, drop}
use Rattle.hp_model.specs.Tree.{emits}
use Rattle.hp_tree.specs.Mapped.{items_in, values_behind}
use Rattle.hp_tree.proofs.emitted.+emits.Given as goal

-- the values added so far, followed by those to come, are all
abbrev pub invariant-add_emits-loop-item : goal.invariant-add_emits-loop-item
invariant-add_emits-loop-item l =
    values_behind l.values.items ++ emits (items_in (drop l.item-index l.items)) ≡ values_behind l.fn.values.items ++ emits (items_in l.items)
