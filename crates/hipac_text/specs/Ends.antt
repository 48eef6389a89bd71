-- The words of the command line, and how the program ends.
use Rattle.std.specs.Prelude.{◌≡◌, ℕ, nat_lt, Bool, true, false, if◌then◌else◌, List, [], ◌∷◌, length, codes, bytes_eq}
use Rattle.std.specs.Prelude.{Option, Some, None, is_some, option_and_then, Result, Ok, Err}
use Rattle.hp_model.specs.Report.{Bytes}
use Rattle.hp_model.specs.Json.{json_of}
use Rattle.hp_model.specs.NotationPlaces.{read_text}
use Rattle.hp_model.specs.NotationValues.{print_value}
use Rattle.hp_report.specs.declared.status.Status.{Status}
use Rattle.hp_report.specs.declared.status.Status.TheVariants.{Reported, Refused}
use Rattle.hipac_text.specs.declared.words.Task.{Task}
use Rattle.hipac_text.specs.declared.words.Task.TheVariants.{Read, Print}

abbrev pub task_named : Bytes → Option Task
task_named word =
    if bytes_eq word (codes "read") then Some Read else (if bytes_eq word (codes "print") then Some Print else None)

-- the task of a command line, whose first word is the program's name
abbrev pub task_for : List Bytes → Option Task
task_for (program ∷ word ∷ []) = task_named word
task_for words = None

-- the task of some command line
abbrev pub IsTaskOfWords : Task → Type 0
IsTaskOfWords task = (words : List Bytes) × (task_for words ≡ Some task)

abbrev pub status_if : (is_answered : Bool) → Status
status_if true = Reported
status_if false = Refused

abbrev pub is_read : {A E : Type 0} → Result A E → Bool
is_read (Ok x) = true
is_read (Err e) = false

-- the bytes stand for a script that the other notation has
abbrev pub has_answer : Task → Bytes → Bool
has_answer Read bytes = is_read (read_text bytes)
has_answer Print bytes = is_some (option_and_then print_value (json_of bytes))

abbrev pub status_of : Task → Bytes → Status
status_of task bytes = if nat_lt 1048576 (length bytes) then Refused else status_if (has_answer task bytes)
