-- What the bytes of a script give is what the script gives.
use Rattle.std.proofs.Common.{◌≡◌, sym, ap, List, ℕ, Bool, Ok, Err}
use Rattle.hp_model.specs.Kinds.{Declared}
use Rattle.hp_model.specs.Cascade.{Script}
use Rattle.hp_model.specs.Report.{Bytes}
use Rattle.hp_notation.specs.Readings.{script_in}
use Rattle.hp_analysis.specs.Checking.{findings_text}
use Rattle.hipac_check.specs.Outputs.{check_text, check_output}
use Rattle.hipac_check.specs.Spots.{shown_in}

pub output_of_script : (is_text : Bool) (bytes : List ℕ) (script : Script) (given d : Declared) → script_in is_text bytes ≡ Ok script
    → findings_text (shown_in is_text bytes script.units) given script d ≡ check_output is_text bytes given d
unfolding check_output
output_of_script is_text bytes script given d told = sym (ap (λ r. check_text (shown_in is_text bytes) r given d) told)

pub output_of_refusal : (is_text : Bool) (bytes : List ℕ) (line : Bytes) (given d : Declared) → script_in is_text bytes ≡ Err line → line ≡ check_output is_text bytes given d
unfolding check_output
output_of_refusal is_text bytes line given d told = sym (ap (λ r. check_text (shown_in is_text bytes) r given d) told)
