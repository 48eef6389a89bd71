use Rattle.std.proofs.Common.{ap, ◌∙◌}
use Rattle.hp_value.specs.Rows.{values_of}
use Rattle.hp_value.proofs.Rows.{values_row}
use Rattle.hp_value.proofs.row.Row.values.Goals as goal

pub returns : goal.returns
returns c = rw c.min.ensures (values_row c.parts.result.0.now c.parts.result.1.now ∙ ap values_of c.parts.ensures)
