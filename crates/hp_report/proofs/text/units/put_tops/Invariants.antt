use Rattle.std.proofs.Common.{◌≡◌, ◌++◌, string_bytes, drop, map, flat_map}
use Rattle.hp_model.specs.Report.{transaction_text}
use Rattle.hp_report.specs.Mapped.{library_of, top_report}
use Rattle.hp_report.proofs.text.units.put_tops.Given as goal

-- what was written and what is still to write is all
abbrev pub invariant-loop-top : goal.invariant-loop-top
invariant-loop-top l =
    string_bytes l.out ++ flat_map (transaction_text (library_of l.names) l.with_tree l.number l.unit.moment) (map top_report (drop l.top-index l.unit.tops.items))
    ≡ string_bytes l.fn.out ++ flat_map (transaction_text (library_of l.names) l.with_tree l.number l.unit.moment) (map top_report l.unit.tops.items)
