-- Parts of a class: when two are the same, and the number by which one is looked up.
use Rattle.std.specs.Prelude.{ℕ, Bool, true, false, ◌&&◌, Option, Some, None, bytes_eq, fold}
use Rattle.std.specs.Hash as fed
use Rattle.std.specs.Hash.DefaultHasher as sip
use Rattle.std.specs.declared.hash.DefaultHasher.{DefaultHasher}
use Rattle.hp_model.specs.Values.{Value, integer, boolean, text}
use Rattle.hp_model.specs.ClassParts.{Attribute, key_attribute, field_attribute, ClassPart}
use Rattle.hp_value.specs.Same.{value_same}

abbrev pub same_attribute : Attribute → Attribute → Bool
same_attribute key_attribute key_attribute = true
same_attribute (field_attribute f) (field_attribute g) = bytes_eq f g
same_attribute a b = false

abbrev pub same_bound : Option Value → Option Value → Bool
same_bound None None = true
same_bound (Some v) (Some w) = value_same v w
same_bound v w = false

abbrev pub same_part : ClassPart → ClassPart → Bool
same_part p q = same_attribute p.attribute q.attribute && (same_bound p.low q.low && same_bound p.high q.high)

-- ---- the number of a part: a hash of it

abbrev pub attribute_fed : Attribute → DefaultHasher → DefaultHasher
attribute_fed key_attribute h = h
attribute_fed (field_attribute f) h = fold sip.write h (fed.str f)

abbrev pub bound_fed : Option Value → DefaultHasher → DefaultHasher
bound_fed None h = h
bound_fed (Some (integer z)) h = fold sip.write h (fed.i64 z)
bound_fed (Some (boolean b)) h = h
bound_fed (Some (text s)) h = fold sip.write h (fed.str s)

unfoldable pub number_of : ClassPart → ℕ
number_of p = sip.finish (bound_fed p.high (bound_fed p.low (attribute_fed p.attribute sip.initial)))
