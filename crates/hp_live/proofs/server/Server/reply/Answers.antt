use Rattle.std.proofs.Common.{◌∙◌, subst, List, ℕ}
use Rattle.hp_report.specs.Device.{Begins}
use Rattle.hp_live.proofs.server.Server.reply.Goals as goal

pub returns-in_err-write_text-clause-begins :
    goal.returns-in_err-write_text-clause-begins
returns-in_err-write_text-clause-begins g c d is =
    subst (λ (b : List ℕ). Begins (g.W.Sink.contents c.args.writer.now) (g.W.Sink.contents c.write_text.new.writer) b) (c.as_bytes.ensures.value ∙ c.in_ok-text.ensures.text d is)
    c.write_text.ensures.begins

pub returns-clause-begins : goal.returns-clause-begins
returns-clause-begins g c d is =
    subst (λ (b : List ℕ). Begins (g.W.Sink.contents c.args.writer.now) (g.W.Sink.contents c.write_text.new.writer) b) (c.as_bytes.ensures.value ∙ c.in_ok-text.ensures.text d is)
    c.write_text.ensures.begins
