use Rattle.std.proofs.Common.{◌≡◌, ◌+◌, ◌++◌, string_bytes, drop, map}
use Rattle.hp_model.specs.Report.{units_text}
use Rattle.hp_report.specs.Mapped.{library_of, unit_report}
use Rattle.hp_report.proofs.text.units.put_units.Given as goal

-- what was written and what is still to write is all
abbrev pub invariant-loop-index : goal.invariant-loop-index
invariant-loop-index l =
    string_bytes l.out ++ units_text (library_of l.names) l.with_tree (l.first + l.index) (map unit_report (drop l.index l.units))
    ≡ string_bytes l.fn.out ++ units_text (library_of l.names) l.with_tree l.first (map unit_report l.units)
