-- What the crate's types stand for in the model: a function for each.
use Rattle.std.specs.Prelude.{ℕ, ℤ, Bool, true, false, List, [], map, Option, Some, None, option_map, string_bytes}
use Rattle.std.specs.declared.string.String.{String}
use Rattle.std.specs.declared.alloc.Global.{Global}
use Rattle.hp_model.specs.Values as V
use Rattle.hp_model.specs.ClassParts as P
use Rattle.hp_model.specs.Cells as C
use Rattle.hp_value.specs.declared.cell.Cell.{Cell}
use Rattle.hp_value.specs.Mapped.{cell, keyed_row, keys_of}
use Rattle.hp_store.specs.declared.value.CellValue.{CellValue}
use Rattle.hp_store.specs.Mapped.{change}
use Rattle.hp_view.specs.declared.part.FoundBounds.{FoundBounds}
use Rattle.hp_view.specs.declared.part.FoundBounds.TheVariants.{Numbers, Texts}
use Rattle.hp_view.specs.declared.part.FoundPart.{FoundPart}
use Rattle.hp_view.specs.declared.reads.Seen.{Seen}
use Rattle.hp_view.specs.declared.reads.Seen.TheVariants.{Cell as OfCell, Keys as OfKeys, Greatest as OfGreatest, Count as OfCount, Part as OfPart}
use Rattle.hp_view.specs.declared.reads.Found.{Found}
use Rattle.hp_view.specs.declared.reads.Found.TheVariants.{Value, Keys, Greatest, Count, Objects, Part}

-- a part that was found: what it compares, and its bounds
abbrev pub attribute_found : Option (String Global) → P.Attribute
attribute_found None = P.key_attribute
attribute_found (Some name) = P.field_attribute (string_bytes name)

abbrev pub low_found : FoundBounds → Option V.Value
low_found (Numbers l h) = option_map V.integer l
low_found (Texts l h) = option_map (λ s. V.text (string_bytes s)) l

abbrev pub high_found : FoundBounds → Option V.Value
high_found (Numbers l h) = option_map V.integer h
high_found (Texts l h) = option_map (λ s. V.text (string_bytes s)) h

abbrev pub part_of : FoundPart → P.ClassPart
part_of f = record { attribute = attribute_found f.field; low = low_found f.bounds; high = high_found f.bounds }

-- the part of which no bound is known
abbrev pub whole_class : P.ClassPart
whole_class = record { attribute = P.key_attribute; low = None; high = None }

-- the value that was found, the keys, the greatest key, the number of objects, the part and its objects
abbrev pub value_found : Found → Option C.CellValue
value_found (Value v) = change v
value_found (Keys keys) = None
value_found (Greatest key) = None
value_found (Count count) = None
value_found (Objects objects) = None
value_found (Part part) = None

abbrev pub keys_found : Found → List ℤ
keys_found (Value v) = []
keys_found (Keys keys) = keys.items
keys_found (Greatest key) = []
keys_found (Count count) = []
keys_found (Objects objects) = keys_of objects.value
keys_found (Part part) = []

abbrev pub greatest_found : Found → Option ℤ
greatest_found (Value v) = None
greatest_found (Keys keys) = None
greatest_found (Greatest key) = key
greatest_found (Count count) = None
greatest_found (Objects objects) = None
greatest_found (Part part) = None

abbrev pub count_found : Found → ℕ
count_found (Value v) = 0
count_found (Keys keys) = 0
count_found (Greatest key) = 0
count_found (Count count) = count
count_found (Objects objects) = 0
count_found (Part part) = 0

abbrev pub part_found : Found → P.ClassPart
part_found (Value v) = whole_class
part_found (Keys keys) = whole_class
part_found (Greatest key) = whole_class
part_found (Count count) = whole_class
part_found (Objects objects) = whole_class
part_found (Part part) = part_of part.value

abbrev pub objects_found : Found → List V.KeyedRow
objects_found (Value v) = []
objects_found (Keys keys) = []
objects_found (Greatest key) = []
objects_found (Count count) = []
objects_found (Objects objects) = []
objects_found (Part part) = map keyed_row part.value.objects.items

-- whether all objects of a class were found
abbrev pub found_whole : Found → Bool
found_whole (Value v) = false
found_whole (Keys keys) = false
found_whole (Greatest key) = false
found_whole (Count count) = false
found_whole (Objects objects) = true
found_whole (Part part) = false

-- what was read of a class
abbrev pub class_read : ℕ → Found → C.Read
class_read class (Value v) = C.keys_read class []
class_read class (Keys keys) = C.keys_read class keys.items
class_read class (Greatest key) = C.keys_read class []
class_read class (Count count) = C.keys_read class []
class_read class (Objects objects) = C.objects_read class objects.value
class_read class (Part part) = C.keys_read class []

abbrev pub read : Seen × Found → C.Read
read (OfCell q, found) = C.cell_read (cell q) (value_found found)
read (OfKeys class, found) = class_read class found
read (OfGreatest class, found) = C.greatest_read class (greatest_found found)
read (OfCount class, found) = C.count_read class (count_found found)
read (OfPart class n, found) = C.part_read class (part_found found) (objects_found found)

-- what a write replaced
abbrev pub replaced : Cell × Option (Option CellValue) → C.Cell × Option (Option C.CellValue)
replaced u = (cell u.0, option_map change u.1)
