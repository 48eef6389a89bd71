use Rattle.std.proofs.Common.{◌≡◌, drop}
use Rattle.std.specs.Prelude.{bytes_eq}
use Rattle.std.specs.Map.{lookup}
use Rattle.hp_ops.specs.Given.{given_in}
use Rattle.hp_ops.proofs.rows.given_value.Given as goal

-- what is still to be searched gives the same answer as the whole
abbrev pub invariant-loop-g : goal.invariant-loop-g
invariant-loop-g l = lookup (bytes_eq l.name) (given_in (drop l.g-index l.given)) ≡ lookup (bytes_eq l.name) (given_in l.given)
