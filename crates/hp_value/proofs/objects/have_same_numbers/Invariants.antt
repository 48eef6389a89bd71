use Rattle.std.proofs.Common.{◌≡◌, ◌&&◌, drop}
use Rattle.std.specs.Ordering.{int_eq}
use lib.Pointwise.{pointwise}
use Rattle.hp_value.proofs.objects.have_same_numbers.Given as goal

abbrev pub invariant-loop-i : goal.invariant-loop-i
invariant-loop-i l = (l.are_same && pointwise int_eq (drop l.i l.numbers) (drop l.i l.others)) ≡ pointwise int_eq l.numbers l.others
