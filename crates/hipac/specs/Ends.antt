-- How runs end.
use Rattle.std.specs.Prelude.{◌≡◌, ℕ, List, Bool, true, false, Result, Ok, Err, map}
use Rattle.hp_model.specs.State.{IsOrdered}
use Rattle.hp_model.specs.Cells.{cells}
use Rattle.hp_model.specs.Cascade.{Script, evaluate}
use Rattle.hp_model.specs.Decode.{script_of}
use Rattle.hp_model.specs.TextScripts.{script_of_text}
use Rattle.hp_rule.specs.Mapped.{library}
use Rattle.hp_store.specs.Stack.{cells_in}
use Rattle.hp_report.specs.declared.report.Report.{Report}
use Rattle.hp_report.specs.Mapped.{unit_report}
use Rattle.hp_report.specs.declared.status.Status.{Status}
use Rattle.hp_report.specs.declared.status.Status.TheVariants.{Reported, Refused}

abbrev pub status_for : {R : Type 0} → Result Script R → Status
status_for (Ok script) = Reported
status_for (Err refusal) = Refused

-- a script that is read is reported, anything else is refused
abbrev pub status_of : List ℕ → (is_text : Bool) → Status
status_of input false = status_for (script_of input)
status_of input true = status_for (script_of_text input)

-- the report has the units of the script, and the cells of the state after them
pub record IsReportOf (report : Report) (script : Script) : Type 0 where
  pub library_is : library report.library.value ≡ script.library
  pub units_are : map unit_report report.units.items ≡ (evaluate script).units
  pub ordered : IsOrdered script.library (evaluate script).state
  pub cells_are : cells script.library (evaluate script).state ≡ cells_in report.store
