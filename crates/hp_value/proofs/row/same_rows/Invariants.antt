use Rattle.std.proofs.Common.{◌≡◌, drop}
use Rattle.hp_value.specs.Rows.{row_of}
use Rattle.hp_value.specs.Same.{row_same}
use Rattle.hp_value.proofs.row.same_rows.Given as goal

abbrev pub invariant-loop-i : goal.invariant-loop-i
invariant-loop-i l =
    row_same (row_of (drop l.i l.fields) (drop l.i l.values)) (row_of (drop l.i l.others) (drop l.i l.other_values)) ≡ row_same (row_of l.fields l.values) (row_of l.others l.other_values)
