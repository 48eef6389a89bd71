use Rattle.std.proofs.Common.{◌≡◌, take, map}
use Rattle.hp_value.specs.Mapped.{value}
use Rattle.hp_ops.specs.Given.{given_in}
use Rattle.hp_ops.proofs.GivenRows.{changed_values}
use Rattle.hp_ops.proofs.rows.changed_row.Given as goal

-- the values so far
abbrev pub invariant-loop-i : goal.invariant-loop-i
invariant-loop-i l = map value l.values.items ≡ changed_values (given_in l.given) (take l.i l.old)
