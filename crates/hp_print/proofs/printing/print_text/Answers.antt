use Rattle.std.proofs.Common.{Some, []}
use Rattle.hp_print.proofs.Finished.{script_printed, script_refused}
use Rattle.hp_print.proofs.printing.print_text.Goals as goal

pub returns-then-writer : goal.returns-then-writer
returns-then-writer c =
    script_refused _ _ _ _ _ _ _ _ _ c.new-writer.ensures.refused c.new-writer.ensures.text c.new-writer.ensures.line c.new-writer.ensures.last c.if-writer.true (c.in_ok-script.ensures (Some []))

pub returns : goal.returns
returns c =
    script_printed _ _ _ _ _ _ _ _ _ _ c.new-writer.ensures.refused c.new-writer.ensures.text c.new-writer.ensures.line c.new-writer.ensures.last
    c.if-writer.false c.in_ok-push_str.ensures.bytes (c.in_ok-script.ensures (Some []))
