use Rattle.std.proofs.Common.{◌≡◌, ◌++◌, string_bytes, drop}
use Rattle.hp_model.specs.Report.{tree_text}
use Rattle.hp_report.specs.Mapped.{library_of, items_in}
use Rattle.hp_report.proofs.text.tree.+tree.Given as goal

-- what was written and what is still to write is all
abbrev pub invariant-put_items-loop-item : goal.invariant-put_items-loop-item
invariant-put_items-loop-item l =
    string_bytes l.out ++ tree_text (library_of l.names) l.indent (items_in (drop l.item-index l.items))
    ≡ string_bytes l.fn.out ++ tree_text (library_of l.names) l.indent (items_in l.items)
