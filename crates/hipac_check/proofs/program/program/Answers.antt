use Rattle.hp_report.proofs.Exits.{if_asked, unless_fault, code_told}
use Rattle.hipac_check.specs.Ends.{status_of}
use Rattle.hipac_check.proofs.program.program.Goals as goal

pub returns-in-Ok-clause-code : goal.returns-in-Ok-clause-code
returns-in-Ok-clause-code g c =
    if_asked c.args.asked _ _ c.in-Ok.is (λ isnt. code_told (λ input. status_of c.in-Ok.asked.is_text input) c.check-ended.result (g.R.Source.remaining c.args.reader.now)
    _ c.exit_code.ensures c.check-ended.ensures.status isnt)

pub returns-in-Ok-clause-output : goal.returns-in-Ok-clause-output
returns-in-Ok-clause-output g c =
    if_asked c.args.asked _ _ c.in-Ok.is (λ isnt. unless_fault c.check-ended.result _ c.exit_code.ensures c.check-ended.ensures.output isnt)
