-- How the program ends.
use Rattle.std.specs.Prelude.{Bool, Result, Ok, Err}
use Rattle.hp_model.specs.Report.{Bytes}
use Rattle.hp_model.specs.Cascade.{Script}
use Rattle.hp_notation.specs.Readings.{script_in}
use Rattle.hp_report.specs.declared.status.Status.{Status}
use Rattle.hp_report.specs.declared.status.Status.TheVariants.{Reported, Refused}

abbrev pub status_for : Result Script Bytes → Status
status_for (Ok script) = Reported
status_for (Err line) = Refused

-- a script that is read is reported, anything else is refused
abbrev pub status_of : (is_text : Bool) → Bytes → Status
status_of is_text input = status_for (script_in is_text input)
