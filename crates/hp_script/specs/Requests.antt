-- What a line asks of a running rule base.
use Rattle.std.specs.Prelude.{ℕ, ℤ, nat_lt, List, [], ◌∷◌, length, codes, Option, Some, None, option_and_then, Ok, Err, bytes_eq, if◌then◌else◌}
use Rattle.serde_json.specs.Data.{Data}
use Rattle.hp_model.specs.Values.{◌>>=◌}
use Rattle.hp_model.specs.Rules.{Library}
use Rattle.hp_model.specs.Refusals.{item_at, size_limit, over_limit, Decoded}
use Rattle.hp_model.specs.Json.{Form, form_of}
use Rattle.hp_model.specs.Parts.{integer_at, place_at}
use Rattle.hp_model.specs.Scopes.{class_names}
use Rattle.hp_model.specs.Decode.{Version, Schedule, unit_at, json_at}
use Rattle.hp_script.specs.Scopes.{library_scope}

-- the part of a state that a line asks for: its objects and the statuses of its rules, a class's objects, or one object
pub data Excerpt : Type 0 where
  whole_state : Excerpt
  objects_of : (class : ℕ) → Excerpt
  object_at : (class : ℕ) → (key : ℤ) → Excerpt

-- to run an item's units, with the time after them; or to show a part of the state
pub data Request : Type 0 where
  item : Schedule → Request
  show : Excerpt → Request

-- what is to be shown, whose parts are still JSON: `["show"]`, `["show", class]`, `["show", class, key]`
pub data ShowForm : Type 0 where
  state_form : ShowForm
  class_form : (class : Data) → ShowForm
  object_form : (class key : Data) → ShowForm

abbrev pub show_form_of : List Data → Option ShowForm
show_form_of [] = Some state_form
show_form_of (class ∷ []) = Some (class_form class)
show_form_of (class ∷ key ∷ []) = Some (object_form class key)
show_form_of parts = None

abbrev pub show_form : Form → Option ShowForm
show_form f = if bytes_eq f.word (codes "show") then show_form_of f.parts else None

abbrev pub show_form_in : Data → Option ShowForm
show_form_in d = option_and_then show_form (form_of d)

-- the class is named as in a script; the key is a number
unfoldable pub excerpt_from : Library → ShowForm → Decoded Excerpt
excerpt_from library state_form = Ok whole_state
excerpt_from library (class_form class) = do
  n ← place_at (class_names library.classes) (item_at [] 1) class
  Ok (objects_of n)
excerpt_from library (object_form class key) = do
  n ← place_at (class_names library.classes) (item_at [] 1) class
  k ← integer_at (item_at [] 2) key
  Ok (object_at n k)

unfoldable pub show_of : Library → ShowForm → Decoded Request
show_of library form = do
  excerpt ← excerpt_from library form
  Ok (show excerpt)

-- no units yet, and the current time
abbrev pub nothing_since : (clock : ℕ) → Schedule
nothing_since clock = record { units = []; clock = clock }

-- an item is read as an item of a script of this version; paths begin at its own value
unfoldable pub item_of : Version → Library → (clock : ℕ) → Data → Decoded Request
item_of version library clock d = do
  schedule ← unit_at version library.rules (library_scope library) [] (nothing_since clock) d
  Ok (item schedule)

abbrev pub request_from : Version → Library → (clock : ℕ) → Data → Option ShowForm → Decoded Request
request_from version library clock d None = item_of version library clock d
request_from version library clock d (Some form) = show_of library form

unfoldable pub request_at : Version → Library → (clock : ℕ) → Data → Decoded Request
request_at version library clock d = request_from version library clock d (show_form_in d)

-- the size is checked first, as in a script
unfoldable pub request_of : Version → Library → (clock : ℕ) → List ℕ → Decoded Request
request_of version library clock bytes =
    if nat_lt 1048576 (length bytes) then Err (over_limit size_limit)
    else json_at bytes >>= request_at version library clock
