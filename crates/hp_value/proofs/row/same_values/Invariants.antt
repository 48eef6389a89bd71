use Rattle.std.proofs.Common.{◌≡◌, drop}
use Rattle.std.specs.Ordering.{on}
use lib.Pointwise.{pointwise}
use Rattle.hp_value.specs.Rows.{value}
use Rattle.hp_value.specs.Same.{value_same}
use Rattle.hp_value.proofs.row.same_values.Given as goal

abbrev pub invariant-loop-i : goal.invariant-loop-i
invariant-loop-i l = pointwise (on value value_same) (drop l.i l.values) (drop l.i l.others) ≡ pointwise (on value value_same) l.values l.others
