-- The names that the parts of a script may use.
use Rattle.std.specs.Prelude.{ℕ, Bool, true, false, ◌||◌, List, [], ◌∷◌, ◌++◌, map, Ok, Err, bytes_eq, if◌then◌else◌}
use Rattle.std.specs.List.{slice_index_or}
use Rattle.serde_json.specs.Data.{Data}
use Rattle.hp_model.specs.Values.{Name, Field, ClassDef, ◌>>=◌}
use Rattle.hp_model.specs.Rules.{Entry, query_entry, no_entry, let_entry, no_class}
use Rattle.hp_model.specs.Refusals.{Path, bad_name, Decoded}
use Rattle.hp_model.specs.Parts.{name_at}

abbrev pub class_names : List ClassDef → List Name
class_names classes = map (λ (c : ClassDef). c.name) classes

abbrev pub field_names : List Field → List Name
field_names fields = map (λ (f : Field). f.name) fields

-- the names of a condition's queries, each of which has a row, and those of its `let`s, each of which has a value
abbrev pub query_names : List Entry → List Name
query_names [] = []
query_names (query_entry q ∷ es) = q.name ∷ query_names es
query_names (no_entry q ∷ es) = query_names es
query_names (let_entry x a ∷ es) = query_names es

abbrev pub let_names : List Entry → List Name
let_names [] = []
let_names (query_entry q ∷ es) = let_names es
let_names (no_entry q ∷ es) = let_names es
let_names (let_entry x a ∷ es) = x ∷ let_names es

-- what a body may name besides rows and values
pub record Scope : Type 0 where
  pub classes : List ClassDef
  pub rules : List Name
  -- the queries of the rule whose action the body is; none in the body of a script
  pub queries : List Name
  pub in_action : Bool

-- the names of a class's fields
abbrev pub fields_of : Scope → (class : ℕ) → List Name
fields_of scope class = field_names (slice_index_or scope.classes class no_class).fields

-- ---- the names of rows and values: what stands around an expression, the innermost first, and then what the condition
-- names

-- the names of rows and of values are one set: a new name is none of either
pub record Names : Type 0 where
  pub rows : List Name
  pub values : List Name

abbrev pub taken : Names → List Name
taken names = names.rows ++ names.values

abbrev pub no_names : Names
no_names = record { rows = []; values = [] }

abbrev pub knowing_row : Name → Names → Names
knowing_row x names = record { rows = x ∷ names.rows; values = names.values }

abbrev pub knowing_value : Name → Names → Names
knowing_value x names = record { rows = names.rows; values = x ∷ names.values }

-- the names of a condition
abbrev pub names_of : List Entry → Names
names_of entries = record { rows = query_names entries; values = let_names entries }

-- the version of a script
pub data Version : Type 0 where
  first_version second_version fourth_version : Version

abbrev pub is_fourth : Version → Bool
is_fourth first_version = false
is_fourth second_version = false
is_fourth fourth_version = true

-- what an expression or a statement may use: the forms of its version, and the names that are known
pub record Setting : Type 0 where
  pub version : Version
  pub names : Names

abbrev pub row_setting : Name → Setting → Setting
row_setting x setting = record { version = setting.version; names = knowing_row x setting.names }

abbrev pub value_setting : Name → Setting → Setting
value_setting x setting = record { version = setting.version; names = knowing_value x setting.names }

abbrev pub is_known : List Name → Name → Bool
is_known [] x = false
is_known (newest ∷ outer) x = bytes_eq newest x || is_known outer x

-- the name of a row in scope
unfoldable pub row_at : Names → Path → Data → Decoded Name
row_at names path d = do
  x ← name_at path d
  if is_known names.rows x then Ok x else Err (bad_name path)

-- the name of a value in scope
unfoldable pub let_at : Names → Path → Data → Decoded Name
let_at names path d = do
  x ← name_at path d
  if is_known names.values x then Ok x else Err (bad_name path)

-- a new name of a row or a value
unfoldable pub new_row_at : Names → Path → Data → Decoded Name
new_row_at names path d = do
  x ← name_at path d
  if is_known (taken names) x then Err (bad_name path) else Ok x
