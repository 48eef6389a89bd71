-- The JSON values for which lines stand, in JSON or in the text notation.
use Rattle.std.specs.Prelude.{Bool, true, false, Option, Some, None, Result, Ok, Err}
use Rattle.serde_json.specs.Data.{Data}
use Rattle.hp_model.specs.Json.{json_of}
use Rattle.hp_model.specs.NotationPlaces.{Place, read_text, read_text_line}
use Rattle.hp_model.specs.NotationTree.{Node, Script, data_of, script_data}
use Rattle.hp_lines.specs.Lines.{Line}

abbrev pub script_read : Result Script Place → Option Data
script_read (Ok s) = Some (script_data s)
script_read (Err fault) = None

abbrev pub line_read : Result Node Place → Option Data
line_read (Ok n) = Some (data_of n)
line_read (Err fault) = None

-- the value of a first line, which is a script
abbrev pub script_value : (is_text : Bool) → Line → Option Data
script_value false l = json_of l
script_value true l = script_read (read_text l)

-- that of a later line
abbrev pub line_value : (is_text : Bool) → Line → Option Data
line_value false l = json_of l
line_value true l = line_read (read_text_line l)
