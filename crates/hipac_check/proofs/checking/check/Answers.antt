use Rattle.std.proofs.Common.{subst, ap, ◌∙◌, List, ℕ}
use Rattle.std.specs.Io.KnownBytes.{Appends}
use Rattle.hp_report.specs.Device.{Begins}
use Rattle.hp_analysis.specs.Declarations.{declared}
use Rattle.hipac_check.specs.Outputs.{IsChecked}
use Rattle.hipac_check.specs.Ends.{status_of}
use Rattle.hipac_check.proofs.Checked.{checked_before_all, checked_all, status_all}
use Rattle.hipac_check.proofs.checking.check.Goals as goal

pub returns-in_err-input-clause-begins : goal.returns-in_err-input-clause-begins
returns-in_err-input-clause-begins g c = checked_before_all (g.W.Sink.contents c.args.writer.now) (g.R.Source.remaining c.args.reader.now) (declared c.args.asked.signals) c.args.asked.is_text

pub returns-clause-begins : goal.returns-clause-begins
returns-clause-begins g c =
    let begins = λ (text : List ℕ). Begins (g.W.Sink.contents c.args.writer.now) (g.W.Sink.contents c.respond.new.writer) text in
    checked_all begins (declared c.args.asked.signals) c.args.asked.is_text c.in_ok-input.input.items (g.R.Source.remaining c.args.reader.now) c.in_ok-input.ensures.bytes
    (subst (λ (bytes : List ℕ). IsChecked begins (declared c.args.asked.signals) c.args.asked.is_text bytes) c.as_slice.ensures.value c.respond.ensures.begins)

pub returns-clause-output : goal.returns-clause-output
returns-clause-output g c =
    let appends = λ (text : List ℕ). Appends (g.W.Sink.contents c.args.writer.now) (g.W.Sink.contents c.respond.new.writer) text in
    checked_all appends (declared c.args.asked.signals) c.args.asked.is_text c.in_ok-input.input.items (g.R.Source.remaining c.args.reader.now) c.in_ok-input.ensures.bytes
    (subst (λ (bytes : List ℕ). IsChecked appends (declared c.args.asked.signals) c.args.asked.is_text bytes) c.as_slice.ensures.value c.in_ok-status.ensures.output)

pub returns-clause-status : goal.returns-clause-status
returns-clause-status g c =
    status_all c.args.asked.is_text c.in_ok-input.input.items c.in_ok-status.status (g.R.Source.remaining c.args.reader.now) c.in_ok-input.ensures.bytes
    (c.in_ok-status.ensures.status ∙ ap (status_of c.args.asked.is_text) c.as_slice.ensures.value)

pub returns-in_err-status-clause-begins : goal.returns-in_err-status-clause-begins
returns-in_err-status-clause-begins g c =
    let begins = λ (text : List ℕ). Begins (g.W.Sink.contents c.args.writer.now) (g.W.Sink.contents c.respond.new.writer) text in
    checked_all begins (declared c.args.asked.signals) c.args.asked.is_text c.in_ok-input.input.items (g.R.Source.remaining c.args.reader.now) c.in_ok-input.ensures.bytes
    (subst (λ (bytes : List ℕ). IsChecked begins (declared c.args.asked.signals) c.args.asked.is_text bytes) c.as_slice.ensures.value c.respond.ensures.begins)
