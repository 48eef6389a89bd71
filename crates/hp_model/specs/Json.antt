-- Scripts as JSON: the value of the bytes, as `serde_json` reads them, and the forms of values in the grammar.
use Rattle.std.specs.Prelude.{ℕ, List, [], ◌∷◌, Option, Some, None, option_map, option_and_then, bytes_eq, if◌then◌else◌}
use Rattle.std.specs.Str.{is_utf8}
use Rattle.serde_json.specs.Data.{Data, Items, no_items, item}
use Rattle.serde_json.specs.Find.{as_array, as_str}
use Rattle.serde_json.specs.Read.{read}

-- the value of the bytes, if they are a JSON text in UTF-8
abbrev pub json_of : List ℕ → Option Data
json_of bytes = if is_utf8 bytes then read bytes else None

abbrev pub listed : Items → List Data
listed no_items = []
listed (item d ds) = d ∷ listed ds

-- the items of a list
abbrev pub list_of : Data → Option (List Data)
list_of d = option_map listed (as_array d)

-- a form `[word, ..]`: its word, and the parts after it
pub record Form : Type 0 where
  pub word : List ℕ
  pub parts : List Data

abbrev pub form_in : List Data → Option Form
form_in [] = None
form_in (d ∷ ds) = option_map (λ word. record { word = word; parts = ds }) (as_str d)

abbrev pub form_of : Data → Option Form
form_of d = option_and_then form_in (list_of d)

-- a list of two
abbrev pub two_in : List Data → Option (Data × Data)
two_in (a ∷ b ∷ []) = Some (a, b)
two_in ds = None

abbrev pub pair_of : Data → Option (Data × Data)
pair_of d = option_and_then two_in (list_of d)

-- the entry of a word in a table
abbrev pub beside : {A : Type 0} → List ℕ → List (List ℕ × A) → Option A
beside word [] = None
beside word (entry ∷ entries) = if bytes_eq word entry.0 then Some entry.1 else beside word entries
