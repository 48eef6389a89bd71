use Rattle.std.proofs.Common.{length}
use Rattle.hp_report.proofs.Known.{Sending}
use Rattle.hp_report.proofs.output.write_text.Given as goal

abbrev pub invariant-loop-rest : goal.invariant-loop-rest
invariant-loop-rest g l =
    Sending (g.W.Sink.contents l.fn.writer) (g.W.Sink.contents l.writer) (g.W.Sink.has_failed l.writer) l.text l.rest

abbrev pub decreases-loop-rest : goal.decreases-loop-rest
decreases-loop-rest g l = length l.rest
