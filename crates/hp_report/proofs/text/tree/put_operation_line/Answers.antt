use Rattle.std.proofs.Common.{codes}
use Rattle.hp_report.proofs.Lines.{word_put}
use Rattle.hp_report.proofs.text.tree.put_operation_line.Goals as goal

pub returns : goal.returns
returns c =
    word_put c.args.indent (codes "op") _ _ _ _ _ _
    c.in_ok-put_indent.ensures c.in_ok-push_str.ensures.bytes c.in_ok-put_operation.ensures c.in_ok-push_str-2.ensures.bytes
