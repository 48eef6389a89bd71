use Rattle.std.proofs.Common.{◌∙◌, subst, List, ℕ}
use Rattle.std.specs.Io.KnownBytes.{Appends}
use Rattle.hp_report.specs.Device.{Begins}
use Rattle.hp_analysis.specs.Declarations.{declared}
use Rattle.hipac_check.proofs.Checked.{checked_before}
use Rattle.hipac_check.proofs.checking.respond.Goals as goal

pub returns-in_err-answer-clause-begins : goal.returns-in_err-answer-clause-begins
returns-in_err-answer-clause-begins g c = checked_before (g.W.Sink.contents c.args.writer.now) (declared c.args.asked.signals) c.args.asked.is_text c.args.input.now

pub returns-in_err-write_text-clause-begins : goal.returns-in_err-write_text-clause-begins
returns-in_err-write_text-clause-begins g c =
    let text = c.as_bytes.ensures.value ∙ c.in_ok-answer.ensures.text in (
      declared c.in_ok-answer.answer.declaration,
      c.in_ok-answer.ensures.keeps,
      subst (λ (b : List ℕ). Begins (g.W.Sink.contents c.args.writer.now) (g.W.Sink.contents c.write_text.new.writer) b) text c.write_text.ensures.begins,
    )

pub returns-clause-begins : goal.returns-clause-begins
returns-clause-begins g c =
    let text = c.as_bytes.ensures.value ∙ c.in_ok-answer.ensures.text in (
      declared c.in_ok-answer.answer.declaration,
      c.in_ok-answer.ensures.keeps,
      subst (λ (b : List ℕ). Begins (g.W.Sink.contents c.args.writer.now) (g.W.Sink.contents c.write_text.new.writer) b) text c.write_text.ensures.begins,
    )

pub returns-clause-output : goal.returns-clause-output
returns-clause-output g c =
    let text = c.as_bytes.ensures.value ∙ c.in_ok-answer.ensures.text in (
      declared c.in_ok-answer.answer.declaration,
      c.in_ok-answer.ensures.keeps,
      subst (λ (b : List ℕ). Appends (g.W.Sink.contents c.args.writer.now) (g.W.Sink.contents c.write_text.new.writer) b) text c.in_ok-write_text.ensures.ok,
    )
