-- Where an index has objects.
use Rattle.std.specs.Prelude.{ℤ, ℕ, zero, suc, true, false, Bool, List, [], ◌∷◌, Option, Some, None, Ok}
use Rattle.std.specs.declared.cmp.Ordering.{Ordering}
use Rattle.hp_model.specs.Values as V
use Rattle.hp_model.specs.Values.{Name, Outcome, integer}
use Rattle.hp_model.specs.Expressions.{field_in}
use Rattle.hp_model.specs.Cells.{CellValue, row_value}
use Rattle.hp_value.specs.declared.class_part.Bounds.{Bounds}
use Rattle.hp_value.specs.declared.class_part.Bounds.TheVariants.{Numbers, Texts}
use Rattle.hp_store.specs.declared.place.Place.{Place}
use Rattle.hp_store.specs.declared.place.Place.TheVariants.{Number, Other, Text}
use Rattle.hp_store.specs.contracts.place.PlaceOrd.TheImpl as order

-- numbers, then objects without one, then texts
abbrev pub place_cmp : Place → Place → Ordering
place_cmp = order.ghosts.cmp

-- the first bytes of a text, with zeros where it has fewer
abbrev pub start : ℕ → List ℕ → List ℕ
start zero bytes = []
start (suc n) [] = 0 ∷ start n []
start (suc n) (b ∷ bs) = b ∷ start n bs

abbrev pub key_at : Place → ℤ
key_at (Number n key) = key
key_at (Other key) = key
key_at (Text bytes key) = key

-- the place of an object by its value in a field
abbrev pub place_of : ℤ → Outcome V.Value → Place
place_of key (Ok (integer n)) = Number n key
place_of key (Ok (V.text t)) = Text (start 32 t) key
place_of key o = Other key

-- where an object is, by what its cell holds
abbrev pub place_at : Name → ℤ → Option CellValue → Option Place
place_at field key (Some (row_value row)) = Some (place_of key (field_in row field))
place_at field key v = None

-- the place of a bound
abbrev pub value_place : ℤ → Option V.Value → Option Place
value_place key (Some (integer n)) = Some (Number n key)
value_place key (Some (V.text t)) = Some (Text (start 32 t) key)
value_place key v = None

-- whether a value is of another kind than bounds
abbrev pub is_other : Bounds → Place → Bool
is_other (Numbers low high) (Number n key) = false
is_other (Texts low high) (Text bytes key) = false
is_other b p = true
