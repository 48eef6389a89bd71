-- Laws over the definitions.
use Rattle.std.specs.Prelude.{◌≡◌, ℕ, List, ◌++◌, Option}
use Rattle.hp_model.specs.Decode.{script_of}
use Rattle.hp_script.specs.Timed.{timed_script_of, untimed}
use Rattle.hp_model.specs.Report.{Bytes}
use Rattle.hp_lines.specs.Live.{Manner, output, Server, piece_output, after, input_output, opening_output, opened_server}

abbrev pub BytesAreLines : Type 0
BytesAreLines = (manner : Manner) (script : Option Bytes) (input : List ℕ) → opening_output manner script ++ input_output (opened_server manner script) input ≡ output manner script input

abbrev pub PiecesCompose : Type 0
PiecesCompose = (s : Server) (a b : List ℕ) → (piece_output s (a ++ b) ≡ piece_output s a ++ piece_output (after s a) b) × (after s (a ++ b) ≡ after (after s a) b)

abbrev pub ScriptsAreRead : Type 0
ScriptsAreRead = (bytes : List ℕ) → untimed (timed_script_of bytes) ≡ script_of bytes
