use Rattle.std.proofs.Common.{map, string_bytes}
use Rattle.std.specs.Io.KnownBytes.{Appends}
use Rattle.hp_store.specs.Stack.{cells_in}
use Rattle.hp_report.specs.Device.{Begins}
use Rattle.hp_report.specs.Mapped as model
use Rattle.hp_report.proofs.Endings.{where_ok, of_each_text}
use Rattle.hp_report.proofs.report.write_report.Goals as goal

pub returns-clause-ok : goal.returns-clause-ok
returns-clause-ok g c =
    let report = c.args.report.now in
    where_ok c.write_text.result (of_each_text (model.library report.library.value) (cells_in report.store) c.args.with_tree (map model.unit_report report.units.items)
    (string_bytes c.in_ok-text.text) c.as_bytes.result.now (λ b. Appends (g.W.Sink.contents c.args.writer.now) (g.W.Sink.contents c.write_text.new.writer) b)
    c.as_bytes.ensures.value c.in_ok-text.ensures) c.write_text.ensures.ok

pub returns-clause-begins : goal.returns-clause-begins
returns-clause-begins g c =
    let report = c.args.report.now in
    of_each_text (model.library report.library.value) (cells_in report.store) c.args.with_tree (map model.unit_report report.units.items)
    (string_bytes c.in_ok-text.text) c.as_bytes.result.now (λ b. Begins (g.W.Sink.contents c.args.writer.now) (g.W.Sink.contents c.write_text.new.writer) b)
    c.as_bytes.ensures.value c.in_ok-text.ensures c.write_text.ensures.begins
