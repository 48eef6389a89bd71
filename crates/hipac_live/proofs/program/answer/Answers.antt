use Rattle.std.proofs.Common.{rules, ◌≡◌, subst, Option, Result, Err}
use Rattle.std.specs.Prelude.{IfSome}
use Rattle.hp_report.specs.declared.fault.Fault.{Fault}
use Rattle.hp_report.specs.declared.status.Status.{Status}
use Rattle.hp_live.specs.Kept.{bytes_of, declared_of}
use Rattle.hipac_live.specs.Answered.{ForManner, Answers}
use Rattle.hipac_live.proofs.Answered.{not_begun, answered}
use Rattle.hipac_live.proofs.program.answer.Goals as goal

pub returns-in_err-start-clause-answers : goal.returns-in_err-start-clause-answers
returns-in_err-start-clause-answers g c =
    let a = c.args.asked in
    let fault = c.in_err-start.field-0.0 in
    let failed : Err fault ≡ c.from_residual.result = search rules in
    subst (λ (r : Result Status Fault). IfSome (g.R.Source.remaining c.args.reader.now) (λ input. ForManner a.options (declared_of a.given)
    (λ m. Answers m (bytes_of a.script) input r (g.W.Sink.contents c.args.writer.now) (g.W.Sink.contents c.args.writer.now)))) failed
    (not_begun a.options (declared_of a.given) (bytes_of a.script) fault (g.R.Source.remaining c.args.reader.now) (g.W.Sink.contents c.args.writer.now))

pub returns-clause-answers : goal.returns-clause-answers
returns-clause-answers g c =
    let a = c.args.asked in
    let start = c.in_ok-start.start in
    let done = answered a.options c.options_for-options.result (declared_of a.given) (declared_of start.checks) (bytes_of start.script) c.run.result (g.R.Source.remaining c.args.reader.now)
    (g.R.Source.remaining c.of.new.reader) (g.W.Sink.contents c.args.writer.now) (g.W.Sink.contents c.run.new.writer) start.ahead.items
    c.options_for-options.ensures.manner c.in_ok-start.ensures.checks c.in_ok-start.ensures.ahead c.run.ensures.output c.run.ensures.status c.run.ensures.begins in
    subst (λ (s : Option _). IfSome (g.R.Source.remaining c.args.reader.now) (λ input. ForManner a.options (declared_of a.given)
    (λ m. Answers m (bytes_of s) input c.run.result (g.W.Sink.contents c.args.writer.now) (g.W.Sink.contents c.run.new.writer)))) c.in_ok-start.ensures.script done
