use Rattle.hp_report.proofs.Exits.{if_asked, unless_fault, code_told}
use Rattle.hipac_text.specs.Ends.{status_of}
use Rattle.hipac_text.proofs.program.program.Goals as goal

pub returns-in-Ok-clause-code : goal.returns-in-Ok-clause-code
returns-in-Ok-clause-code g c =
    let remaining = g.R.Source.remaining c.args.reader.now in
    if_asked c.args.asked _ _ c.in-Ok.is (λ isnt.
    code_told (status_of c.in-Ok.task) c.run-ended.result remaining _
    c.exit_code.ensures c.run-ended.ensures.status isnt)

pub returns-in-Ok-clause-output : goal.returns-in-Ok-clause-output
returns-in-Ok-clause-output g c =
    if_asked c.args.asked _ _ c.in-Ok.is (λ isnt.
    unless_fault c.run-ended.result _ c.exit_code.ensures c.run-ended.ensures.output isnt)
