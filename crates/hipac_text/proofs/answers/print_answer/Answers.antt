use Rattle.std.proofs.Common.{◌≡◌, ◌∙◌, sym, ap, Option, Some, None, is_some, true≢false}
use Rattle.std.specs.Prelude.{option_and_then}
use Rattle.std.proofs.lemmas.Result.{IfOk-weaker}
use Rattle.serde_json.specs.Data.{Data}
use Rattle.serde_json.specs.View.{view}
use Rattle.hp_model.specs.Json.{json_of}
use Rattle.hp_model.specs.NotationValues.{print_value}
use Rattle.hp_report.specs.declared.status.Status.{Status}
use Rattle.hipac_text.specs.Ends.{status_if}
use Rattle.hipac_text.specs.Outputs.{print_answer}
use Rattle.hipac_text.proofs.Parsed.{is_json, is_no_json}
use Rattle.hipac_text.proofs.answers.print_answer.Goals as goal

abbrev status_for : Option Data → Status
status_for o = status_if (is_some (option_and_then print_value o))

pub returns-in-Ok-clause-text : goal.returns-in-Ok-clause-text
returns-in-Ok-clause-text c =
    let is : json_of c.args.input.now ≡ Some (view c.in-Ok.value) = is_json _ _ c.in-Ok.ensures.ok in
    IfOk-weaker c.printed.result _ _ (λ a h. h ∙ ap print_answer (sym is)) c.printed.ensures.text

pub returns-in-Ok-clause-status : goal.returns-in-Ok-clause-status
returns-in-Ok-clause-status c =
    let is : json_of c.args.input.now ≡ Some (view c.in-Ok.value) = is_json _ _ c.in-Ok.ensures.ok in
    IfOk-weaker c.printed.result _ _ (λ a h. h ∙ ap status_for (sym is)) c.printed.ensures.status

pub returns-else-is_memory-clause-text : goal.returns-else-is_memory-clause-text
returns-else-is_memory-clause-text c =
    let is : json_of c.args.input.now ≡ None =
    is_no_json _ (c.in-Err.ensures.err (λ m. true≢false (sym (c.is_memory.ensures.1 m) ∙ c.if-is_memory.false))) in
    IfOk-weaker c.refused.result _ _ (λ a h. h ∙ ap print_answer (sym is)) c.refused.ensures.text

pub returns-else-is_memory-clause-status : goal.returns-else-is_memory-clause-status
returns-else-is_memory-clause-status c =
    let is : json_of c.args.input.now ≡ None =
    is_no_json _ (c.in-Err.ensures.err (λ m. true≢false (sym (c.is_memory.ensures.1 m) ∙ c.if-is_memory.false))) in
    IfOk-weaker c.refused.result _ _ (λ a h. h ∙ ap status_for (sym is)) c.refused.ensures.status
