use Rattle.std.proofs.Common.{◌≡◌, ◌∙◌, ap, subst, map, List, string_bytes}
use Rattle.std.specs.Prelude.{IfOk}
use Rattle.hp_model.specs.Cascade.{Unit}
use Rattle.hp_model.specs.Rules.{Library}
use Rattle.hp_rule.specs.Libraries as libraries
use Rattle.hp_rule.specs.Mapped.{unit}
use Rattle.hp_script.specs.Mapped.{script as script_of_model}
use Rattle.hp_analysis.specs.Checking.{Shown, findings_text}
use Rattle.hp_analysis.specs.Declarations.{declared}
use Rattle.hp_analysis.specs.Tables.{script}
use Rattle.hipac_check.specs.Spots.{shown, shown_in}
use Rattle.hipac_check.proofs.checking.script_answer.Goals as goal

pub returns-clause-text : goal.returns-clause-text
returns-clause-text c =
    let s = script_of_model c.args.script.now in
    let given = declared c.args.asked.signals in
    let L = libraries.library c.deref-2.result.now in
    let own = shown c.in_ok-spots.spots in
    let spots_are : own ≡ shown_in c.args.asked.is_text c.args.input.now s.units =
    c.in_ok-spots.ensures ∙ ap (λ us. shown_in c.args.asked.is_text c.args.input.now (map unit us)) c.deref.ensures.value in
    let library_is : L ≡ s.library = ap libraries.library c.deref-2.ensures in
    let units_are : map unit c.deref-3.result.now ≡ s.units = ap (map unit) c.deref-3.ensures.value in
    subst (λ (at : Shown). IfOk c.reported.result (λ answer. string_bytes answer.text ≡ findings_text at given s (declared answer.declaration))) spots_are
    (subst (λ (l : Library). IfOk c.reported.result (λ answer. string_bytes answer.text ≡ findings_text own given (script l s.units) (declared answer.declaration))) library_is
    (subst (λ (us : List Unit). IfOk c.reported.result (λ answer. string_bytes answer.text ≡ findings_text own given (script L us) (declared answer.declaration))) units_are c.reported.ensures.text))
