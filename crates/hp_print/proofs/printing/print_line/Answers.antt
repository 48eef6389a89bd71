use Rattle.std.proofs.Common.{Some, []}
use Rattle.hp_print.proofs.Finished.{item_printed, item_refused}
use Rattle.hp_print.proofs.printing.print_line.Goals as goal

pub returns-then-writer : goal.returns-then-writer
returns-then-writer c =
    item_refused _ _ _ _ _ _ _ _ _ c.new-writer.ensures.refused c.new-writer.ensures.text c.new-writer.ensures.line c.new-writer.ensures.last c.if-writer.true (c.in_ok-item.ensures (Some []))

pub returns : goal.returns
returns c =
    item_printed _ _ _ _ _ _ _ _ _ c.new-writer.ensures.refused c.new-writer.ensures.text c.new-writer.ensures.line c.new-writer.ensures.last c.if-writer.false (c.in_ok-item.ensures (Some []))
