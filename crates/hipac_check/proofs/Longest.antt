-- Reading one byte more than the longest script is enough.
use Rattle.std.proofs.Common.{◌≡◌, ℕ, List, length, take, ap, sym, ◌∙◌, Bool, true, false, Err, None, ◌<◌, inl, inr, arith, cond}
use Rattle.std.proofs.lemmas.Bool.{cases_lt, lt-ltb}
use Rattle.std.proofs.lemmas.List.{take_all, length-take-le}
use Rattle.hp_model.specs.Kinds.{Declared}
use Rattle.hp_model.specs.Decode.{decode}
use Rattle.hp_model.specs.Refusals.{over_limit, size_limit}
use Rattle.hp_model.specs.NotationPlaces.{read_text}
use Rattle.hp_model.specs.TextScripts.{PlacedRefusal, script_checked, text_checked, script_of_text}
use Rattle.hp_model.specs.Output.{placed_refusal_text}
use Rattle.hp_notation.specs.Readings.{told}
use Rattle.hp_notation.proofs.Longest.{script_in_take}
use Rattle.hipac_check.specs.Ends.{status_for, status_of}
use Rattle.hipac_check.specs.Outputs.{check_text, check_output}
use Rattle.hipac_check.specs.Spots.{shown_in}

abbrev refusal : PlacedRefusal
refusal = record { refusal = over_limit size_limit; place = None }

too_long : (bytes : List ℕ) → 1048576 < length bytes → script_of_text bytes ≡ Err refusal
unfolding text_checked
too_long bytes h = ap (λ b. cond b (Err refusal) (script_checked decode bytes (read_text bytes))) (lt-ltb _ _ h)

-- a text that is too long has the line that refuses it
long_output : (bytes : List ℕ) (given d : Declared) → 1048576 < length bytes → check_output true bytes given d ≡ placed_refusal_text refusal
unfolding check_output
long_output bytes given d h = ap (λ r. check_text (shown_in true bytes) (told placed_refusal_text r) given d) (too_long bytes h)

json_output : (input : List ℕ) (given d : Declared) → check_output false (take 1048577 input) given d ≡ check_output false input given d
unfolding check_output
json_output input given d = ap (λ r. check_text (shown_in false input) r given d) (script_in_take false input)

pub output_of_take : (is_text : Bool) (input : List ℕ) (given d : Declared) → check_output is_text (take 1048577 input) given d ≡ check_output is_text input given d
output_of_take false input given d = json_output input given d
output_of_take true input given d =
    elim (cases_lt (length input) 1048577) [
      | inl lt ↦ ap (λ bytes. check_output true bytes given d) (take_all 1048577 input (omega arith))
      | inr le ↦ long_output (take 1048577 input) given d (omega (arith, length-take-le 1048577 input le)) ∙ sym (long_output input given d (omega arith))
    ]

pub status_of_take : (is_text : Bool) (input : List ℕ) → status_of is_text (take 1048577 input) ≡ status_of is_text input
status_of_take is_text input = ap status_for (script_in_take is_text input)
