use Rattle.std.proofs.Common.{◌∙◌, ap₂}
use lib.Pointwise.{pointwise}
use Rattle.hp_value.specs.Rows.{value}
use Rattle.hp_value.specs.Same.{value_same}
use Rattle.hp_value.proofs.Lists.{pointwise_map}
use Rattle.hp_value.proofs.row.Row.has_values_of.Goals as goal

pub returns : goal.returns
returns c = c.same_values.ensures ∙ pointwise_map value value_same c.values.result.now c.values-2.result.now ∙ ap₂ (pointwise value_same) c.values.ensures c.values-2.ensures
