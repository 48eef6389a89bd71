use Rattle.std.proofs.Common.{◌≡◌, drop}
use Rattle.std.specs.Ordering.{on}
use lib.Pointwise.{pointwise}
use Rattle.hp_value.specs.Mapped.{keyed_row}
use Rattle.hp_value.specs.Same.{values_same}
use Rattle.hp_value.proofs.objects.have_same_values.Given as goal

abbrev pub invariant-loop-i : goal.invariant-loop-i
invariant-loop-i l = pointwise (on keyed_row values_same) (drop l.i l.rows) (drop l.i l.others) ≡ pointwise (on keyed_row values_same) l.rows l.others
