use Rattle.std.proofs.Common.{◌≡◌, ◌++◌, string_bytes, drop}
use Rattle.hp_model.specs.Report.{row_words}
use Rattle.hp_report.specs.Text.{spaced}
use Rattle.hp_report.proofs.text.objects.put_fields.Given as goal

-- what was written and what is still to write is all
abbrev pub invariant-loop-index : goal.invariant-loop-index
invariant-loop-index l =
    string_bytes l.out ++ spaced (row_words (drop l.index l.row)) ≡ string_bytes l.fn.out ++ spaced (row_words l.row)
