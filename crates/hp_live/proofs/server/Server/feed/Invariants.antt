use Rattle.std.proofs.Common.{take}
use Rattle.hp_live.proofs.Fed.{Fed}
use Rattle.hp_live.proofs.server.Server.feed.Given as goal

abbrev pub invariant-loop-byte : goal.invariant-loop-byte
invariant-loop-byte g l =
    Fed (g.W.Sink.contents l.fn.writer) (g.W.Sink.contents l.writer) (g.W.Sink.has_failed l.writer) l.fn.self l.server (take l.byte-index l.piece)
