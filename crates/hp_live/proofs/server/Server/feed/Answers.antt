use Rattle.std.proofs.Common.{rules, ◌≡◌, Err, ap, sym}
use Rattle.hp_report.specs.declared.fault.Fault.TheVariants.{NoMemory}
use Rattle.hp_live.proofs.Fed.{fed_byte, begins_piece, first_of_piece}
use Rattle.hp_live.proofs.server.Server.feed.Goals as goal

pub loop-byte-preserved : goal.loop-byte-preserved
loop-byte-preserved g c =
    fed_byte _ _ _ _ _ _ _ _ c.args.piece.now c.loop-byte.byte-index c.loop-byte.invariant c.in_ok-feed_byte.ensures.output c.in_ok-feed_byte.ensures.next
    c.in_ok-feed_byte.ensures.whole c.loop-byte-test.true

pub returns-in_err-feed_byte-clause-begins : goal.returns-in_err-feed_byte-clause-begins
returns-in_err-feed_byte-clause-begins g c d is =
    begins_piece _ _ _ _ _ _ c.args.piece.now c.loop-byte.byte-index c.loop-byte.invariant c.feed_byte.ensures.begins c.loop-byte-test.true d is

pub returns-in_err-feed_byte-clause-memory : goal.returns-in_err-feed_byte-clause-memory
returns-in_err-feed_byte-clause-memory g c out d is =
    let ran_out : c.feed_byte.result ≡ Err NoMemory = search rules in
    first_of_piece _ _ _ _ _ _ c.args.piece.now c.loop-byte.byte-index c.loop-byte.invariant (ap g.W.Sink.contents (sym (c.feed_byte.ensures.memory ran_out))) d is
