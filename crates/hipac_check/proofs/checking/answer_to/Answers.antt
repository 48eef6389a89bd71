use Rattle.std.proofs.Common.{◌≡◌, ◌∙◌, Ok, string_bytes}
use Rattle.std.proofs.lemmas.Result.{IfOk-weaker}
use Rattle.hp_notation.specs.Readings.{script_in}
use Rattle.hp_script.specs.Mapped.{script as script_of_model}
use Rattle.hp_analysis.specs.Checking.{findings_text}
use Rattle.hp_analysis.specs.Declarations.{declared}
use Rattle.hipac_check.specs.Outputs.{check_output}
use Rattle.hipac_check.specs.Spots.{shown_in}
use Rattle.hipac_check.proofs.Found.{output_of_script}
use Rattle.hipac_check.proofs.checking.answer_to.Goals as goal

pub returns-in-Ok-clause-text : goal.returns-in-Ok-clause-text
returns-in-Ok-clause-text c =
    let is_text = c.args.asked.is_text in
    let input = c.args.input.now in
    let s = script_of_model c.in-Ok.script in
    let given = declared c.args.asked.signals in
    let told : script_in is_text input ≡ Ok s = c.in-Ok.ensures.reads in
    IfOk-weaker c.script_answer.result (λ answer. string_bytes answer.text ≡ findings_text (shown_in is_text input s.units) given s (declared answer.declaration))
    (λ answer. string_bytes answer.text ≡ check_output is_text input given (declared answer.declaration))
    (λ answer h. h ∙ output_of_script is_text input s given (declared answer.declaration) told) c.script_answer.ensures.text
