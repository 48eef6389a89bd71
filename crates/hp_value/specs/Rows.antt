-- Values, fields and rows in the model, and the test whether two rows are the same.
use Rattle.std.specs.Prelude.{ℤ, List, [], ◌∷◌, ◌++◌, ◌≡◌, ⊤, Option, Some, None, map, string_bytes}
use Rattle.std.specs.declared.vec.Vec.{Vec}
use Rattle.std.specs.declared.alloc.Global.{Global}
use Rattle.hp_model.specs.Values as V
use Rattle.hp_model.specs.Values.{integer, boolean, text}
use Rattle.hp_value.specs.declared.value.Value.{Value}
use Rattle.hp_value.specs.declared.value.Value.TheVariants.{Int, Bool as Truth, Text}
use Rattle.hp_value.specs.declared.value.Kind.{Kind}
use Rattle.hp_value.specs.declared.value.Kind.TheVariants.{Int as IntKind, Bool as BoolKind, Text as TextKind}
use Rattle.hp_value.specs.declared.row.Field.{Field}

abbrev pub value : Value → V.Value
value (Int z) = integer z
value (Truth b) = boolean b
value (Text s) = text (string_bytes s.value)

abbrev pub kind : Kind → V.Kind
kind IntKind = V.integer_kind
kind BoolKind = V.boolean_kind
kind TextKind = V.text_kind

abbrev pub field : Field → V.Field
field f = record { name = string_bytes f.name; kind = kind f.kind }

-- the row of these values, named by the fields
abbrev pub row_of : List Field → List Value → V.Row
row_of [] vs = []
row_of (f ∷ fs) [] = []
row_of (f ∷ fs) (v ∷ vs) = (string_bytes f.name, value v) ∷ row_of fs vs

-- a row's names with other values
abbrev pub renewed : V.Row → List V.Value → V.Row
renewed [] vs = []
renewed (f ∷ fs) [] = []
renewed (f ∷ fs) (v ∷ vs) = (f.0, v) ∷ renewed fs vs

-- a row's names, and its values
abbrev pub names_of : V.Row → List V.Name
names_of = map (λ (p : V.Name × V.Value). p.0)

abbrev pub values_of : V.Row → List V.Value
values_of = map (λ (p : V.Name × V.Value). p.1)

-- the names of the first of some objects' rows
abbrev pub first_names : List V.KeyedRow → List V.Name
first_names [] = []
first_names (o ∷ os) = names_of o.row

-- the objects' rows have these names
abbrev pub AreNamed : List V.Name → List V.KeyedRow → Type 0
AreNamed ns [] = ⊤
AreNamed ns (o ∷ os) = (names_of o.row ≡ ns) × AreNamed ns os

-- the objects' rows have the same names
abbrev pub AreAlike : List V.KeyedRow → Type 0
AreAlike os = AreNamed (first_names os) os

-- the values of all rows, one after another
abbrev pub all_values : List V.KeyedRow → List V.Value
all_values [] = []
all_values (o ∷ os) = values_of o.row ++ all_values os

-- these numbers, if there are any, are the values of all rows
abbrev pub AreValues : Option (Vec ℤ Global) → List V.KeyedRow → Type 0
AreValues None os = ⊤
AreValues (Some ns) os = map integer ns.items ≡ all_values os
