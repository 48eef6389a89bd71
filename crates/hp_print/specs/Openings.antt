-- Words that have a meaning of their own before they are names, and whether an expression begins with one.
use Rattle.std.specs.Prelude.{Bool, false, nat_lt, if◌then◌else◌}
use Rattle.hp_model.specs.NotationTokens.{Token}
use Rattle.hp_model.specs.NotationForms as F
use Rattle.hp_model.specs.NotationPrint.{begins_aggregate, is_let, name_token, value_token, expression_level, left_level}
use Rattle.hp_print.specs.declared.level.Opening.{Opening}
use Rattle.hp_print.specs.declared.level.Opening.TheVariants as o

abbrev pub opening_view : Opening → Token → Bool
opening_view o.Aggregate = begins_aggregate
opening_view o.Let = is_let

abbrev pub begins : Opening → F.Expression → Bool
begins opening (F.integer z) = false
begins opening (F.truth b) = false
begins opening (F.text s) = false
begins opening (F.operation op a b) = if nat_lt (expression_level a) (left_level op) then false else begins opening a
begins opening (F.inverted a) = false
begins opening (F.negated a) = false
begins opening (F.field_of x f) = opening_view opening (name_token x)
begins opening (F.key_of x) = opening_view opening (name_token x)
begins opening (F.value x) = opening_view opening (value_token x)
begins opening F.now = false
begins opening (F.image_field image i f) = false
begins opening (F.key_in i) = false
begins opening (F.time_of i) = false
begins opening (F.argument i j) = false
begins opening F.occurrence_count = false
