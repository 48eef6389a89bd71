-- What the crate's types stand for in the model, and the forms of single values.
use Rattle.std.specs.Prelude.{ℕ, List, map, Option, Some, None, option_map, option_and_then, if◌then◌else◌}
use Rattle.std.specs.Str.{is_utf8}
use Rattle.serde_json.specs.Data.{Data, null, number, boolean, string, array, object}
use Rattle.serde_json.specs.Find.{as_i64}
use Rattle.serde_json.specs.View.{view}
use Rattle.hp_model.specs.Json as J
use Rattle.hp_model.specs.NotationForms as F
use Rattle.hp_model.specs.NotationValues.{fitting}
use Rattle.hp_print.specs.declared.shape.Form.{Form}
use Rattle.hp_print.specs.declared.operator.Operator.{Operator}
use Rattle.hp_print.specs.declared.operator.Operator.TheVariants as o
use Rattle.hp_print.specs.declared.operand.Image.{Image}
use Rattle.hp_print.specs.declared.operand.Image.TheVariants as i

abbrev pub form_view : Form → J.Form
form_view f = record { word = f.word.now; parts = map view f.parts.now }

abbrev pub operator_view : Operator → F.Operator
operator_view o.Either = F.either
operator_view o.Both = F.both
operator_view o.Equal = F.equal
operator_view o.Unequal = F.unequal
operator_view o.Less = F.less
operator_view o.AtMost = F.at_most
operator_view o.Greater = F.greater
operator_view o.AtLeast = F.at_least
operator_view o.Plus = F.plus
operator_view o.Minus = F.minus
operator_view o.Times = F.times
operator_view o.Quotient = F.quotient
operator_view o.Remainder = F.remainder

abbrev pub image_view : Image → F.Image
image_view i.New = F.new_image
image_view i.Old = F.old_image

abbrev pub text_of : List ℕ → Option F.Expression
text_of s = if is_utf8 s then Some (F.text s) else None

-- the expression of a value that is no list
abbrev pub literal_of : Data → Option F.Expression
literal_of null = None
literal_of (number z) = option_map F.integer (option_and_then fitting (as_i64 z))
literal_of (boolean b) = Some (F.truth b)
literal_of (string s) = text_of s
literal_of (array ds) = None
literal_of (object ms) = None
