use Rattle.std.proofs.Common.{◌≡◌, ◌∙◌, ap, ◌++◌}
use Rattle.hp_analysis.specs.Checking.{findings_by, reached_given}
use Rattle.hp_analysis.specs.Declarations.{declared}
use Rattle.hp_analysis.specs.Outside.{raised}
use Rattle.hp_analysis.specs.Reached.{reached}
use Rattle.hipac_check.specs.Scripts.{script_of}
use Rattle.hipac_check.specs.Spots.{shown}
use Rattle.hipac_check.proofs.checking.reported.Goals as goal

pub returns-clause-text : goal.returns-clause-text
returns-clause-text c =
    let S = script_of c.args.checked.now in
    let given = declared c.args.signals in
    let d = declared c.in_ok-declaration.field-0.declaration in
    let set_is : c.in_ok-reached.reached.items ≡ reached_given given S = c.in_ok-reached.ensures ∙ ap (λ l. reached l (S.units ++ raised given)) c.in_ok-graph.ensures.graph in
    c.in_ok-text.ensures ∙ ap (λ r. findings_by (shown c.args.checked.now.spots) r S d) (c.deref.ensures.value ∙ set_is)
