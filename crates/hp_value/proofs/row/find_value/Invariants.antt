use Rattle.std.proofs.Common.{◌≡◌, drop, bytes_eq}
use Rattle.std.specs.Map.{lookup}
use Rattle.hp_value.specs.Rows.{row_of}
use Rattle.hp_value.proofs.row.find_value.Given as goal

abbrev pub invariant-loop-i : goal.invariant-loop-i
invariant-loop-i l = lookup (bytes_eq l.name) (row_of (drop l.i l.fields) (drop l.i l.values)) ≡ lookup (bytes_eq l.name) (row_of l.fields l.values)
