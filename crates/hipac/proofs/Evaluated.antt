-- A script's text, from the reports of its units and the final state.
use Rattle.std.proofs.Common.{◌≡◌, refl, sym, ap, subst, List, ℕ, Bool, true, false, Result, Ok, Err, length}
use Rattle.hp_model.specs.State.{initial_state}
use Rattle.hp_model.specs.Cascade.{Script, UnitReport, evaluate}
use Rattle.hp_model.specs.Cells.{Cells}
use Rattle.hp_model.specs.Soundness.{LeadsTo}
use Rattle.hp_model.specs.Report.{Bytes, report_text}
use Rattle.hp_model.specs.Refusals.{Decoded}
use Rattle.hp_model.specs.Decode.{script_of}
use Rattle.hp_model.specs.TextScripts.{PlacedRefusal, script_of_text}
use Rattle.hp_model.specs.Output.{refusal_text, text_of, placed_refusal_text, text_of_notation, output}
use Rattle.hp_rule.specs.Mapped.{library}
use Rattle.hp_store.specs.Stack.{cells_in}
use Rattle.hp_report.specs.declared.report.Report.{Report}
use Rattle.hp_report.specs.Mapped.{evaluation}
use Rattle.hp_report.specs.Stored.{OfEach}
use Rattle.hp_report.specs.declared.status.Status.TheVariants.{Reported, Refused}
use Rattle.hp_top.specs.Units.{RanUnits, IsOpening}
use Rattle.hp_top.proofs.AllRan.{all_ran}
use Rattle.hp_notation.specs.Readings.{told, script_in}
use Rattle.hp_notation.proofs.Told.{told_ok}
use Rattle.hipac.specs.Ends.{status_for, status_of, IsReportOf}

-- all units of the script ran, so the reports and the cells are its own
pub script_ran : (script : Script) (before after : Cells) (reports : List UnitReport)
    → IsOpening before → RanUnits script.library script.units before after reports → length reports ≡ length script.units
    → LeadsTo script.library (evaluate script).units (evaluate script).state reports after
script_ran script before after reports opening ran all =
    let library = script.library in
    all_ran library script.units before after reports (initial_state library) ran all (opening.ordered library) (opening.cells library)

-- what holds of the text of each state that has the cells holds of the script's text
pub of_script : (report : Report) (script : Script) (with_tree : Bool) (Holds : Bytes → Type 0) → IsReportOf report script
    → OfEach (library report.library.value) (cells_in report.store) (λ S. Holds (report_text (library report.library.value) with_tree (evaluation report S)))
    → Holds (text_of with_tree (Ok script))
of_script report script with_tree Holds is each =
    let e = evaluate script in
    let of_library : OfEach script.library (cells_in report.store) (λ S. Holds (report_text script.library with_tree (evaluation report S))) =
    subst (λ l. OfEach l (cells_in report.store) (λ S. Holds (report_text l with_tree (evaluation report S)))) is.library_is each in
    subst (λ us. Holds (report_text script.library with_tree (record { units = us; state = e.state }))) is.units_are (of_library.from e.state is.ordered is.cells_are)

-- the text for the bytes read is the output, and so is the line that refuses them
pub output_of_script : (input : List ℕ) (is_text with_tree : Bool) (script : Script) → script_in is_text input ≡ Ok script → text_of with_tree (Ok script) ≡ output input is_text with_tree
output_of_script input false with_tree script read = ap (text_of with_tree) (sym (told_ok refusal_text (script_of input) script read))
output_of_script input true with_tree script read = ap (text_of_notation with_tree) (sym (told_ok placed_refusal_text (script_of_text input) script read))

refused_json : (with_tree : Bool) (r : Decoded Script) (line : Bytes) → told refusal_text r ≡ Err line → line ≡ text_of with_tree r
refused_json with_tree (Ok script) line read = cc
refused_json with_tree (Err e) line read = let same : refusal_text e ≡ line = cc in sym same

refused_text : (with_tree : Bool) (r : Result Script PlacedRefusal) (line : Bytes) → told placed_refusal_text r ≡ Err line → line ≡ text_of_notation with_tree r
refused_text with_tree (Ok script) line read = cc
refused_text with_tree (Err e) line read = let same : placed_refusal_text e ≡ line = cc in sym same

pub output_of_refusal : (input : List ℕ) (is_text with_tree : Bool) (line : Bytes) → script_in is_text input ≡ Err line → line ≡ output input is_text with_tree
output_of_refusal input false with_tree line read = refused_json with_tree (script_of input) line read
output_of_refusal input true with_tree line read = refused_text with_tree (script_of_text input) line read

-- ---- how the run ends

reported : {R : Type 0} (line : R → Bytes) (r : Result Script R) (script : Script) → told line r ≡ Ok script → Reported ≡ status_for r
reported line (Ok s) script read = refl
reported line (Err e) script read = cc

refused : {R : Type 0} (line : R → Bytes) (r : Result Script R) (text : Bytes) → told line r ≡ Err text → Refused ≡ status_for r
refused line (Ok s) text read = cc
refused line (Err e) text read = refl

pub status_of_script : (input : List ℕ) (is_text : Bool) (script : Script) → script_in is_text input ≡ Ok script → Reported ≡ status_of input is_text
status_of_script input false script read = reported refusal_text (script_of input) script read
status_of_script input true script read = reported placed_refusal_text (script_of_text input) script read

pub status_of_refusal : (input : List ℕ) (is_text : Bool) (line : Bytes) → script_in is_text input ≡ Err line → Refused ≡ status_of input is_text
status_of_refusal input false line read = refused refusal_text (script_of input) line read
status_of_refusal input true line read = refused placed_refusal_text (script_of_text input) line read
