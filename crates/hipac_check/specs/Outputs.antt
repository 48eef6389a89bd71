-- What is written for the bytes of a script.
use Rattle.std.specs.Prelude.{List, Bool, Result, Ok, Err}
use Rattle.hp_model.specs.Report.{Bytes}
use Rattle.hp_model.specs.Cascade.{Unit, Script}
use Rattle.hp_model.specs.Kinds.{Declared}
use Rattle.hp_notation.specs.Readings.{script_in}
use Rattle.hp_analysis.specs.Checking.{Shown, findings_text}
use Rattle.hp_analysis.specs.Declarations.{Keeps}
use Rattle.hipac_check.specs.Spots.{shown_in}

-- a script that was read has findings, with their places; else there is the line that refuses it
abbrev pub check_text : (List Unit → Shown) → Result Script Bytes → (given d : Declared) → Bytes
check_text shown (Err line) given d = line
check_text shown (Ok script) given d = findings_text (shown script.units) given script d

-- what is written of the script in these bytes, JSON or a text
unfoldable pub check_output : (is_text : Bool) → Bytes → (given d : Declared) → Bytes
check_output is_text bytes given d = check_text (shown_in is_text bytes) (script_in is_text bytes) given d

-- what was written meets a demand on the text, for one declaration that has the signatures that are given: the promises
-- of the verdicts hold for each
abbrev pub IsChecked : (Bytes → Type 0) → (given : Declared) → (is_text : Bool) → Bytes → Type 0
IsChecked demand given is_text bytes = (d : Declared) × Keeps given d × demand (check_output is_text bytes given d)
