-- What bytes mean, in JSON or in the text notation; or the line that says why they are refused.
use Rattle.std.specs.Prelude.{◌≡◌, ⊤, ℕ, Bool, true, false, string_bytes, Result, Ok, Err}
use Rattle.hp_model.specs.Rules.{Library}
use Rattle.hp_model.specs.Cascade as C
use Rattle.hp_model.specs.Decode.{Version, script_of}
use Rattle.hp_model.specs.TextScripts.{text_checked, text_line_checked, script_of_text}
use Rattle.hp_model.specs.Report.{Bytes}
use Rattle.hp_model.specs.Output.{refusal_text, placed_refusal_text}
use Rattle.hp_script.specs.Timed.{TimedScript, timed_script_at, timed_script_of}
use Rattle.hp_script.specs.Requests.{Request, request_at, request_of}
use Rattle.hp_script.specs.Mapped.{refusal}
use Rattle.hp_script.specs.declared.refusal.DecodeError.{DecodeError}
use Rattle.hp_script.specs.declared.refusal.DecodeError.TheVariants as json
use Rattle.hp_notation.specs.Mapped.{placed_refusal}
use Rattle.hp_notation.specs.declared.refusal.TextError.{TextError}
use Rattle.hp_notation.specs.declared.refusal.TextError.TheVariants as text
use Rattle.hp_notation.specs.declared.reading.Unread.{Unread}
use Rattle.hp_notation.specs.declared.reading.Unread.TheVariants.{Refused, Memory}

-- what was read, or the line that says why it is refused
abbrev pub told : {A R : Type 0} → (R → Bytes) → Result A R → Result A Bytes
told line (Ok x) = Ok x
told line (Err r) = Err (line r)

abbrev pub script_in : (is_text : Bool) → Bytes → Result C.Script Bytes
script_in false bytes = told refusal_text (script_of bytes)
script_in true bytes = told placed_refusal_text (script_of_text bytes)

-- the same with the script's version, and the time after its items
abbrev pub timed_script_in : (is_text : Bool) → Bytes → Result TimedScript Bytes
timed_script_in false bytes = told refusal_text (timed_script_of bytes)
timed_script_in true bytes = told placed_refusal_text (text_checked timed_script_at bytes)

-- what a line asks of a running rule base
abbrev pub request_in : (is_text : Bool) → Version → Library → (clock : ℕ) → Bytes → Result Request Bytes
request_in false version library clock bytes = told refusal_text (request_of version library clock bytes)
request_in true version library clock bytes = told placed_refusal_text (text_line_checked (request_at version library clock) bytes)

-- the line of a refusal in JSON, unless memory ran out
abbrev pub IsJsonLine : DecodeError → Unread → Type 0
IsJsonLine (json.Refused r) (Refused line) = string_bytes line ≡ refusal_text (refusal r)
IsJsonLine json.Memory (Refused line) = ⊥
IsJsonLine error Memory = ⊤

-- the line of a refusal of a text, unless memory ran out
abbrev pub IsTextLine : TextError → Unread → Type 0
IsTextLine (text.Refused r) (Refused line) = string_bytes line ≡ placed_refusal_text (placed_refusal r)
IsTextLine text.Memory (Refused line) = ⊥
IsTextLine error Memory = ⊤

abbrev pub Fails : {B : Type 0} → Unread → Result B Bytes → Type 0
Fails (Refused line) read = read ≡ Err (string_bytes line)
Fails Memory read = ⊤

-- the result, with its value seen by f, is what the definition reads, unless memory ran out
abbrev pub Reads : {A B : Type 0} → (A → B) → Result A Unread → Result B Bytes → Type 0
Reads f (Ok x) read = read ≡ Ok (f x)
Reads f (Err e) read = Fails e read
