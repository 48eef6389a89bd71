use Rattle.std.proofs.Common.{◌≡◌, length, false}
use Rattle.hp_lines.specs.Live as L
use Rattle.hp_live.specs.Kept.{IsServer}
use Rattle.hp_live.proofs.Fed.{ServedFrom}
use Rattle.hp_live.proofs.serving.serve.Given as goal

abbrev pub invariant-loop : goal.invariant-loop
invariant-loop g l = record {
  served : ServedFrom (g.R.Source.remaining l.fn.reader) (g.R.Source.remaining l.reader) (g.W.Sink.contents l.fn.writer) (g.W.Sink.contents l.writer) l.fn.server l.server;
  sound : g.R.Source.has_failed l.reader ≡ false;
  whole : g.W.Sink.has_failed l.writer ≡ false;
  unread : (d : L.Server) → IsServer l.fn.server d → d.stage ≡ L.closed → l.reader ≡ l.fn.reader;
  room : length l.buf ≡ 4096;
}
