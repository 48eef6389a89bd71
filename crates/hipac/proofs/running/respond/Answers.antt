use Rattle.std.proofs.Common.{◌≡◌, ◌∙◌, sym, subst, List, ℕ, Ok, Err, string_bytes}
use Rattle.std.specs.Io.KnownBytes.{Appends}
use Rattle.hp_report.specs.Device.{Begins}
use Rattle.hp_script.specs.Mapped.{script as script_of_model}
use Rattle.hp_notation.specs.Readings.{script_in}
use Rattle.hipac.proofs.Evaluated.{of_script, output_of_script, output_of_refusal}
use Rattle.hipac.proofs.running.respond.Goals as goal

pub returns-in_ok-write_report-in-Ok-clause-output :
    goal.returns-in_ok-write_report-in-Ok-clause-output
returns-in_ok-write_report-in-Ok-clause-output g c =
    let script = script_of_model c.in-Ok.script in
    let told : script_in c.args.options.text c.args.input.now ≡ Ok script = rw c.in-Ok.script-is at c.in-Ok.ensures.reads in
    let text = output_of_script c.args.input.now c.args.options.text c.args.options.tree script told in
    subst (λ (b : List ℕ). Appends (g.W.Sink.contents c.args.writer.now) (g.W.Sink.contents c.write_report.new.writer) b) text
    (of_script c.in_ok-report-in-Ok.report script c.args.options.tree (λ b. Appends (g.W.Sink.contents c.args.writer.now) (g.W.Sink.contents c.write_report.new.writer) b)
    c.in_ok-report-in-Ok.ensures c.in_ok-write_report-in-Ok.ensures.ok)

pub returns-in_err-write_report-in-Ok-clause-begins :
    goal.returns-in_err-write_report-in-Ok-clause-begins
returns-in_err-write_report-in-Ok-clause-begins g c =
    let script = script_of_model c.in-Ok.script in
    let told : script_in c.args.options.text c.args.input.now ≡ Ok script = rw c.in-Ok.script-is at c.in-Ok.ensures.reads in
    let text = output_of_script c.args.input.now c.args.options.text c.args.options.tree script told in
    subst (λ (b : List ℕ). Begins (g.W.Sink.contents c.args.writer.now) (g.W.Sink.contents c.write_report.new.writer) b) text
    (of_script c.in_ok-report-in-Ok.report script c.args.options.tree (λ b. Begins (g.W.Sink.contents c.args.writer.now) (g.W.Sink.contents c.write_report.new.writer) b)
    c.in_ok-report-in-Ok.ensures c.write_report.ensures.begins)

pub returns-in_ok-write_report-in-Ok-clause-begins :
    goal.returns-in_ok-write_report-in-Ok-clause-begins
returns-in_ok-write_report-in-Ok-clause-begins g c =
    let script = script_of_model c.in-Ok.script in
    let told : script_in c.args.options.text c.args.input.now ≡ Ok script = rw c.in-Ok.script-is at c.in-Ok.ensures.reads in
    let text = output_of_script c.args.input.now c.args.options.text c.args.options.tree script told in
    subst (λ (b : List ℕ). Begins (g.W.Sink.contents c.args.writer.now) (g.W.Sink.contents c.write_report.new.writer) b) text
    (of_script c.in_ok-report-in-Ok.report script c.args.options.tree (λ b. Begins (g.W.Sink.contents c.args.writer.now) (g.W.Sink.contents c.write_report.new.writer) b)
    c.in_ok-report-in-Ok.ensures c.write_report.ensures.begins)

pub returns-in_ok-write_text-in-Err-Refused-clause-begins :
    goal.returns-in_ok-write_text-in-Err-Refused-clause-begins
returns-in_ok-write_text-in-Err-Refused-clause-begins g c =
    let told : script_in c.args.options.text c.args.input.now ≡ Err (string_bytes c.in-Err-Refused.line) = rw c.in-Err-Refused.field-0-is at c.in-Err-Refused.ensures.reads in
    let line : c.as_bytes.result.now ≡ string_bytes c.in-Err-Refused.line = rw c.in-Err-Refused.field-0-is at c.as_bytes.ensures.value in
    let text = line ∙ output_of_refusal c.args.input.now c.args.options.text c.args.options.tree (string_bytes c.in-Err-Refused.line) told in
    subst (λ (b : List ℕ). Begins (g.W.Sink.contents c.args.writer.now) (g.W.Sink.contents c.write_text.new.writer) b) text c.write_text.ensures.begins
