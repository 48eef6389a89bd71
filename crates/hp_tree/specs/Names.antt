-- Names of objects, and their rows, in the model.
use Rattle.std.specs.Prelude.{List, map}
use Rattle.hp_model.specs.Values as V
use Rattle.hp_model.specs.State as S
use Rattle.hp_tree.specs.declared.objects.ObjectName.{ObjectName}

abbrev pub object_name : ObjectName → S.ObjectName
object_name n = record { class = n.class; key = n.key }

-- rows in ascending name order
abbrev pub objects_of : List (ObjectName × V.Row) → S.Objects
objects_of rows = map (λ (r : ObjectName × V.Row). (object_name r.0, r.1)) rows
