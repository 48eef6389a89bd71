-- The grammar of events. For one value the order of checks is: its form, its level, and then its parts from left to
-- right.
use Rattle.std.specs.Prelude.{ℕ, zero, suc, List, [], ◌∷◌, codes, Option, Some, None, option_and_then, Ok, Err, bytes_eq, if◌then◌else◌}
use Rattle.serde_json.specs.Data.{Data}
use Rattle.hp_model.specs.Values.{Name, ◌>>=◌}
use Rattle.hp_model.specs.Events.{Event, pattern_event, on_create, on_update, on_delete, on_signal, on_commit, at_moment, every_moment, or_event, seq_event, closure_event}
use Rattle.hp_model.specs.Refusals.{Path, item_at, event_limit, over_limit, Decoded, shaped}
use Rattle.hp_model.specs.Json.{Form, form_of, beside}
use Rattle.hp_model.specs.Parts.{name_at, place_at, number_from}

-- an event whose parts are still JSON
pub data EventForm : Type 0 where
  create_form update_form delete_form : (class : Data) → EventForm
  signal_form : (name : Data) → EventForm
  commit_form : EventForm
  at_form : (time : Data) → EventForm
  every_form : (first period : Data) → EventForm
  or_form seq_form closure_form : (left right : Data) → EventForm

abbrev pub event_form_of_one : List ℕ → Data → Option EventForm
event_form_of_one word a = beside word
    ((codes "create", create_form a) ∷ (codes "update", update_form a) ∷ (codes "delete", delete_form a) ∷ (codes "signal", signal_form a) ∷ (codes "at", at_form a) ∷ [])

abbrev pub event_form_of_two : List ℕ → Data → Data → Option EventForm
event_form_of_two word a b = beside word
    ((codes "every", every_form a b) ∷ (codes "or", or_form a b) ∷ (codes "seq", seq_form a b) ∷ (codes "closure", closure_form a b) ∷ [])

abbrev pub event_form : List ℕ → List Data → Option EventForm
event_form word [] = if bytes_eq word (codes "commit") then Some commit_form else None
event_form word (a ∷ []) = event_form_of_one word a
event_form word (a ∷ b ∷ []) = event_form_of_two word a b
event_form word parts = None

abbrev pub event_form_at : Path → Data → Decoded EventForm
event_form_at path d = shaped path (option_and_then (λ (f : Form). event_form f.word f.parts) (form_of d))

unfoldable pub on_create_at : (classes : List Name) → Path → Data → Decoded Event
on_create_at classes path class = do
  n ← place_at classes (item_at path 1) class
  Ok (pattern_event (on_create n))

unfoldable pub on_update_at : (classes : List Name) → Path → Data → Decoded Event
on_update_at classes path class = do
  n ← place_at classes (item_at path 1) class
  Ok (pattern_event (on_update n))

unfoldable pub on_delete_at : (classes : List Name) → Path → Data → Decoded Event
on_delete_at classes path class = do
  n ← place_at classes (item_at path 1) class
  Ok (pattern_event (on_delete n))

unfoldable pub on_signal_at : Path → Data → Decoded Event
on_signal_at path name = do
  x ← name_at (item_at path 1) name
  Ok (pattern_event (on_signal x))

-- a moment of the clock, at least 0
unfoldable pub at_moment_at : Path → Data → Decoded Event
at_moment_at path time = do
  t ← number_from 0 (item_at path 1) time
  Ok (pattern_event (at_moment t))

-- the first moment, at least 0, and a period, at least 1
unfoldable pub every_moment_at : Path → Data → Data → Decoded Event
every_moment_at path first period = do
  t ← number_from 0 (item_at path 1) first
  n ← number_from 1 (item_at path 2) period
  Ok (pattern_event (every_moment t n))

-- two parts, each read by `part`
unfoldable pub parts_at : (part : Path → Data → Decoded Event) → Path → Data → Data → Decoded (Event × Event)
parts_at part path a b = do
  left ← part (item_at path 1) a
  right ← part (item_at path 2) b
  Ok (left, right)

-- the event of a form, whose parts are read by `part`
abbrev pub event_from : (classes : List Name) → (part : Path → Data → Decoded Event) → Path → EventForm → Decoded Event
event_from classes part path (create_form class) = on_create_at classes path class
event_from classes part path (update_form class) = on_update_at classes path class
event_from classes part path (delete_form class) = on_delete_at classes path class
event_from classes part path (signal_form name) = on_signal_at path name
event_from classes part path commit_form = Ok (pattern_event on_commit)
event_from classes part path (at_form time) = at_moment_at path time
event_from classes part path (every_form first period) = every_moment_at path first period
event_from classes part path (or_form a b) = do
  parts ← parts_at part path a b
  Ok (or_event parts.0 parts.1)
event_from classes part path (seq_form a b) = do
  parts ← parts_at part path a b
  Ok (seq_event parts.0 parts.1)
event_from classes part path (closure_form a b) = do
  parts ← parts_at part path a b
  Ok (closure_event parts.0 parts.1)

-- an event of at most this number of levels
unfoldable pub event_within : (classes : List Name) → ℕ → Path → Data → Decoded Event
event_within classes zero path d = event_form_at path d >>= λ form. Err (over_limit event_limit)
event_within classes (suc levels) path d = event_form_at path d >>= λ form. event_from classes (event_within classes levels) path form

abbrev pub event_at : (classes : List Name) → Path → Data → Decoded Event
event_at classes = event_within classes 16
