use Rattle.std.proofs.Common.{arith, ap, length}
use Rattle.hp_model.specs.Values.{Row}
use Rattle.hp_value.proofs.Rows.{length_row}
use Rattle.hp_value.proofs.row.Row.len.Goals as goal

pub returns : goal.returns
returns c = omega (arith, length_row c.parts.result.0.now c.parts.result.1.now, ap (λ (r : Row). length r) c.parts.ensures)
