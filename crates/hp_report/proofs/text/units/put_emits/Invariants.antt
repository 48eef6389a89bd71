use Rattle.std.proofs.Common.{◌≡◌, ◌++◌, string_bytes, drop}
use Rattle.hp_report.specs.Mapped.{values_behind}
use Rattle.hp_report.specs.Text.{emit_lines}
use Rattle.hp_report.proofs.text.units.put_emits.Given as goal

-- what was written and what is still to write is all
abbrev pub invariant-loop-value : goal.invariant-loop-value
invariant-loop-value l =
    string_bytes l.out ++ emit_lines (values_behind (drop l.value-index l.values)) ≡ string_bytes l.fn.out ++ emit_lines (values_behind l.values)
