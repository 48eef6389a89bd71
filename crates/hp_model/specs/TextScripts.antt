-- Scripts in the text notation: the script that a text means, or why it is refused, and where.
use Rattle.std.specs.Prelude.{nat_lt, List, ℕ, length, Option, Some, None, unwrap_or, option_map, Result, Ok, Err, if◌then◌else◌}
use Rattle.serde_json.specs.Data.{Data}
use Rattle.hp_model.specs.Cascade as C
use Rattle.hp_model.specs.Refusals.{Path, Refusal, unreadable, wrong_shape, bad_number, bad_name, over_limit, size_limit, Decoded}
use Rattle.hp_model.specs.Decode.{decode}
use Rattle.hp_model.specs.NotationTree.{Node, Script, offset, data_of, script_data}
use Rattle.hp_model.specs.NotationPlaces.{Place, place_of, read_text, read_text_line, offset_along, place_at}

-- why a text is refused: what is refused of the value that it stands for, with the line and column where that begins.
-- A limit and an unknown version have no place. A text that stands for no value has that of its first fault
pub record PlacedRefusal : Type 0 where
  pub refusal : Refusal
  pub place : Option Place

-- the place of a refusal, given those of the values
abbrev pub refusal_place : (Path → Place) → Refusal → Option Place
refusal_place place (wrong_shape path) = Some (place path)
refusal_place place (bad_number path) = Some (place path)
refusal_place place (bad_name path) = Some (place path)
refusal_place place r = None

-- what was decoded, with places in place of paths
abbrev pub placed : {A : Type 0} → (Path → Place) → Decoded A → Result A PlacedRefusal
placed place (Ok x) = Ok x
placed place (Err r) = Err (record { refusal = r; place = refusal_place place r })

abbrev pub faulty_at : {A : Type 0} → Place → Result A PlacedRefusal
faulty_at p = Err (record { refusal = unreadable; place = Some p })

-- the place of a value of a script; that of the script, if a path leads to none
abbrev pub script_place : List ℕ → Script → Path → Place
script_place bytes s path = unwrap_or (place_at bytes s path) (place_of bytes s.at)

-- the same of a line
abbrev pub line_place : List ℕ → Node → Path → Place
line_place bytes n path = unwrap_or (option_map (place_of bytes) (offset_along path n)) (place_of bytes (offset n))

abbrev pub script_checked : {A : Type 0} → (checks : Data → Decoded A) → List ℕ → Result Script Place → Result A PlacedRefusal
script_checked checks bytes (Err fault) = faulty_at fault
script_checked checks bytes (Ok s) = placed (script_place bytes s) (checks (script_data s))

abbrev pub line_checked : {A : Type 0} → (checks : Data → Decoded A) → List ℕ → Result Node Place → Result A PlacedRefusal
line_checked checks bytes (Err fault) = faulty_at fault
line_checked checks bytes (Ok n) = placed (line_place bytes n) (checks (data_of n))

-- what the checks make of the value of a script's text; the size is checked first, and has the limit of JSON
unfoldable pub text_checked : {A : Type 0} → (checks : Data → Decoded A) → List ℕ → Result A PlacedRefusal
text_checked checks bytes =
    if nat_lt 1048576 (length bytes) then Err (record { refusal = over_limit size_limit; place = None })
    else script_checked checks bytes (read_text bytes)

-- the same of a line's text
unfoldable pub text_line_checked : {A : Type 0} → (checks : Data → Decoded A) → List ℕ → Result A PlacedRefusal
text_line_checked checks bytes =
    if nat_lt 1048576 (length bytes) then Err (record { refusal = over_limit size_limit; place = None })
    else line_checked checks bytes (read_text_line bytes)

-- the script that a text means, or the first refusal: the checks are those of JSON, in the same order
abbrev pub script_of_text : List ℕ → Result C.Script PlacedRefusal
script_of_text bytes = text_checked decode bytes
