use Rattle.hp_live.specs.Kept.{bytes_of, declared_of}
use Rattle.hp_report.proofs.Exits.{if_asked}
use Rattle.hipac_live.proofs.Answered.{ended}
use Rattle.hipac_live.proofs.program.program.Goals as goal

pub returns-in-Ok-clause-answers : goal.returns-in-Ok-clause-answers
returns-in-Ok-clause-answers g c =
    let a = c.in-Ok.asked in
    if_asked c.args.asked _ _ c.in-Ok.is
    (ended a.options (declared_of a.given) (bytes_of a.script) c.answer-ended.result c.exit_code.result (g.R.Source.remaining c.args.reader.now) (g.W.Sink.contents c.args.writer.now)
    (g.W.Sink.contents c.answer-ended.new.writer) c.exit_code.ensures c.answer-ended.ensures.answers)
