-- Parts of a class: the objects whose key, or whose value in a field, lies between two bounds.
use Rattle.std.specs.Prelude.{Bool, true, ◌&&◌, List, [], ◌∷◌, Option, Some, None, Ok, if◌then◌else◌}
use Rattle.hp_model.specs.Values.{Name, Value, integer, KeyedRow, Outcome, ◌>>=◌}
use Rattle.hp_model.specs.Expressions.{at_least, at_most, compare, field_in}

-- the attribute that is compared: an object's key, or its value in a field
pub data Attribute : Type 0 where
  key_attribute : Attribute
  field_attribute : Name → Attribute

abbrev pub attribute_of : Attribute → KeyedRow → Outcome Value
attribute_of key_attribute r = Ok (integer r.key)
attribute_of (field_attribute f) r = field_in r.row f

-- the objects whose attribute lies within the bounds, both inclusive; `None` means unbounded
pub record ClassPart : Type 0 where
  pub attribute : Attribute
  pub low : Option Value
  pub high : Option Value

-- compares as expressions do: a value of another kind than the bound is a fault
abbrev pub reaches : (low : Option Value) → Value → Outcome Bool
reaches None v = Ok true
reaches (Some bound) v = compare at_least v bound

abbrev pub stays_below : (high : Option Value) → Value → Outcome Bool
stays_below None v = Ok true
stays_below (Some bound) v = compare at_most v bound

abbrev pub lies_within : (low high : Option Value) → Value → Outcome Bool
lies_within low high v = do
  is_from ← reaches low v
  is_up_to ← stays_below high v
  Ok (is_from && is_up_to)

-- whether an object belongs to the part, or the fault of the comparison
abbrev pub belongs : ClassPart → KeyedRow → Outcome Bool
belongs p r = attribute_of p.attribute r >>= λ v. lies_within p.low p.high v

-- the objects of a list that belong to the part, or the first fault
abbrev pub picked : ClassPart → List KeyedRow → Outcome (List KeyedRow)
picked p [] = Ok []
picked p (r ∷ rs) = do
  keep ← belongs p r
  rest ← picked p rs
  Ok (if keep then r ∷ rest else rest)
