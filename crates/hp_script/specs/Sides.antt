-- A field of the row after a change, or of the row before it.
use Rattle.serde_json.specs.Data.{Data}
use Rattle.hp_model.specs.Expressions.{Expression}
use Rattle.hp_model.specs.Refusals.{Path, Decoded}
use Rattle.hp_model.specs.ExpressionGrammar.{new_field_at, old_field_at}
use Rattle.hp_script.specs.declared.leaf.Side.{Side}
use Rattle.hp_script.specs.declared.leaf.Side.TheVariants.{New, Old}

abbrev pub side_field_at : Side → Path → (part field : Data) → Decoded Expression
side_field_at New path part field = new_field_at path part field
side_field_at Old path part field = old_field_at path part field
