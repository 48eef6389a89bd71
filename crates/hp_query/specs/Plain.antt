-- Plain maps of objects.
use Rattle.std.specs.Prelude.{List, map, IsTrue}
use Rattle.std.specs.List.{list_all}
use Rattle.hp_model.specs.Values.{Row, fits_64}
use Rattle.hp_model.specs.State.{Objects, object_name}
use Rattle.hp_query.specs.declared.plain.ObjectName.{ObjectName}

abbrev pub objects_in : List (ObjectName × Row) → Objects
objects_in entries = map (λ (e : ObjectName × Row). (object_name e.0.class e.0.key, e.1)) entries

-- each key has 64 bits
abbrev pub KeysFit : List (ObjectName × Row) → Type 0
KeysFit entries = IsTrue (list_all (λ (e : ObjectName × Row). fits_64 e.0.key) entries)
