use Rattle.std.proofs.Common.{rules, arith, ◌≡◌, length, refl, ap, sym, Err}
use Rattle.hp_lines.specs.Live.{after}
use Rattle.hp_lines.proofs.Kept.{begins_whole}
use Rattle.hp_live.proofs.Fed.{served_first, served_on, open_by, stops_whole, stops_piece, begins_output, begins_end, begins_fed, output_end, output_closed, closed_by}
use Rattle.hp_live.proofs.Fed.{status_closed, status_end, kept_left, whole_in_piece, whole_at_end, begun_in_piece, begun_at_end, short_piece, stays_closed}
use Rattle.hp_report.specs.declared.fault.Fault.TheVariants.{NoMemory}
use Rattle.hp_live.proofs.serving.serve.Goals as goal

pub loop-init : goal.loop-init
loop-init g c = record {
  served = served_first _ _ c.args.server;
  sound = c.requires.reader;
  whole = c.requires.writer;
  unread = λ d here shut. refl;
  room = search rules;
}

-- the script was refused

pub returns-in-Refused-clause-output : goal.returns-in-Refused-clause-output
returns-in-Refused-clause-output g c d here =
    let s = c.loop.invariant.served d here in
    output_closed _ _ _ _ d s.bytes s.taken s.out (closed_by (after d s.bytes).stage c.status.result c.in-Refused.is (c.status.ensures _ s.at.stage_is))

pub returns-in-Refused-clause-status : goal.returns-in-Refused-clause-status
returns-in-Refused-clause-status g c d here =
    let s = c.loop.invariant.served d here in
    status_closed _ _ d s.bytes s.taken (closed_by (after d s.bytes).stage c.status.result c.in-Refused.is (c.status.ensures _ s.at.stage_is))

pub returns-in-Refused-clause-begins : goal.returns-in-Refused-clause-begins
returns-in-Refused-clause-begins g c d here =
    let s = c.loop.invariant.served d here in
    begins_output _ _ _ _ d s.bytes s.taken (begins_whole _ _ _ s.out)

pub returns-in-Refused-clause-stops : goal.returns-in-Refused-clause-stops
returns-in-Refused-clause-stops g c d here = (c.loop.invariant.served d here).stops

pub returns-in-Refused-clause-unread : goal.returns-in-Refused-clause-unread
returns-in-Refused-clause-unread g c = c.loop.invariant.unread

-- a read

pub returns-in_err-server-in-Ok-clause-begins : goal.returns-in_err-server-in-Ok-clause-begins
returns-in_err-server-in-Ok-clause-begins g c d here =
    let s = c.loop.invariant.served d here in
    begins_fed _ _ _ _ _ _ d s.bytes _ s.taken c.in-Ok.ensures.bytes.0 s.out (c.feed.ensures.begins _ s.at)

pub returns-in-Err-clause-begins : goal.returns-in-Err-clause-begins
returns-in-Err-clause-begins g c d here =
    let s = c.loop.invariant.served d here in
    begins_output _ _ _ _ d s.bytes (kept_left _ _ _ s.bytes s.taken c.in-Err.ensures.bytes) (begins_whole _ _ _ s.out)

pub loop-preserved : goal.loop-preserved
loop-preserved g c =
    let room : length c.read.new.buf ≡ 4096 = omega (arith, c.read.auto.buf, c.loop.invariant.room) in
    record {
      served = λ d here.
          let s = c.loop.invariant.served d here in
          let unrefused = open_by (after d s.bytes).stage c.status.result c.in_default.not-Refused (c.status.ensures _ s.at.stage_is) in
          served_on _ _ _ _ _ _ _ _ _ _ s c.in-Ok.ensures.bytes.0 c.in_ok-server-in-Ok.ensures.output c.in_ok-server-in-Ok.ensures.next
          (stops_piece _ _ _ _ s.bytes c.read.new.buf _ s.taken c.in-Ok.ensures.bytes.0 c.in-Ok.ensures.bound.0 room unrefused);
      sound = c.in-Ok.ensures.failure;
      whole = c.in_ok-server-in-Ok.ensures.whole;
      unread = λ d here shut.
          let s = c.loop.invariant.served d here in
          let unrefused = open_by (after d s.bytes).stage c.status.result c.in_default.not-Refused (c.status.ensures _ s.at.stage_is) in
          absurd (unrefused (stays_closed d s.bytes shut));
      room = room;
    }

pub returns-in_err-server-in-Ok-clause-stops : goal.returns-in_err-server-in-Ok-clause-stops
returns-in_err-server-in-Ok-clause-stops g c d here unshut =
    let s = c.loop.invariant.served d here in
    let unrefused = open_by (after d s.bytes).stage c.status.result c.in_default.not-Refused (c.status.ensures _ s.at.stage_is) in
    let room : length c.read.new.buf ≡ 4096 = omega (arith, c.read.auto.buf, c.loop.invariant.room) in
    stops_piece _ _ _ _ s.bytes c.read.new.buf _ s.taken c.in-Ok.ensures.bytes.0 c.in-Ok.ensures.bound.0 room unrefused

pub returns-in_err-server-in-Ok-clause-unread : goal.returns-in_err-server-in-Ok-clause-unread
returns-in_err-server-in-Ok-clause-unread g c d here shut =
    let s = c.loop.invariant.served d here in
    let unrefused = open_by (after d s.bytes).stage c.status.result c.in_default.not-Refused (c.status.ensures _ s.at.stage_is) in
    absurd (unrefused (stays_closed d s.bytes shut))

pub returns-in-Err-clause-stops : goal.returns-in-Err-clause-stops
returns-in-Err-clause-stops g c d here unshut =
    let s = c.loop.invariant.served d here in
    let unrefused = open_by (after d s.bytes).stage c.status.result c.in_default.not-Refused (c.status.ensures _ s.at.stage_is) in
    stops_whole _ _ _ s.bytes (kept_left _ _ _ s.bytes s.taken c.in-Err.ensures.bytes) unrefused

pub returns-in-Err-clause-unread : goal.returns-in-Err-clause-unread
returns-in-Err-clause-unread g c d here shut =
    let s = c.loop.invariant.served d here in
    let unrefused = open_by (after d s.bytes).stage c.status.result c.in_default.not-Refused (c.status.ensures _ s.at.stage_is) in
    absurd (unrefused (stays_closed d s.bytes shut))

pub returns-in-Err-clause-at_once : goal.returns-in-Err-clause-at_once
returns-in-Err-clause-at_once g c is d here =
    let s = c.loop.invariant.served d here in
    let unrefused = open_by (after d s.bytes).stage c.status.result c.in_default.not-Refused (c.status.ensures _ s.at.stage_is) in
    (s.bytes, kept_left _ _ _ s.bytes s.taken c.in-Err.ensures.bytes, s.out, unrefused)

-- the end was found

pub returns-in_err-status-clause-begins : goal.returns-in_err-status-clause-begins
returns-in_err-status-clause-begins g c d here =
    let s = c.loop.invariant.served d here in
    begins_end _ _ _ _ _ d s.bytes s.taken (c.ended.ensures.none c.if-ended.true) s.out (c.finish.ensures.begins _ s.at)

pub returns-in_err-status-clause-stops : goal.returns-in_err-status-clause-stops
returns-in_err-status-clause-stops g c d here = (c.loop.invariant.served d here).stops

pub returns-in_err-status-clause-unread : goal.returns-in_err-status-clause-unread
returns-in_err-status-clause-unread g c = c.loop.invariant.unread

pub returns-in_err-status-clause-memory : goal.returns-in_err-status-clause-memory
returns-in_err-status-clause-memory g c is d here =
    let ran_out : c.finish.result ≡ Err NoMemory = search rules in
    whole_at_end _ _ _ _ _ _ _ (c.loop.invariant.served d here) (ap g.W.Sink.contents (sym (c.finish.ensures.memory ran_out)))

pub returns-in_err-status-clause-cut : goal.returns-in_err-status-clause-cut
returns-in_err-status-clause-cut g c is d here = begun_at_end _ _ _ _ _ _ _ (c.loop.invariant.served d here) c.finish.ensures.begins

pub returns-then-ended-clause-output : goal.returns-then-ended-clause-output
returns-then-ended-clause-output g c d here =
    let s = c.loop.invariant.served d here in
    output_end _ _ _ _ _ d s.bytes s.taken (c.ended.ensures.none c.if-ended.true) s.out (c.in_ok-status.ensures.output _ s.at)

pub returns-then-ended-clause-status : goal.returns-then-ended-clause-status
returns-then-ended-clause-status g c d here =
    let s = c.loop.invariant.served d here in
    status_end _ _ d s.bytes c.in_ok-status.status s.taken (c.ended.ensures.none c.if-ended.true) (c.in_ok-status.ensures.status _ s.at)

pub returns-then-ended-clause-begins : goal.returns-then-ended-clause-begins
returns-then-ended-clause-begins g c d here =
    let s = c.loop.invariant.served d here in
    begins_end _ _ _ _ _ d s.bytes s.taken (c.ended.ensures.none c.if-ended.true) s.out (begins_whole _ _ _ (c.in_ok-status.ensures.output _ s.at))

pub returns-then-ended-clause-stops : goal.returns-then-ended-clause-stops
returns-then-ended-clause-stops g c d here = (c.loop.invariant.served d here).stops

pub returns-then-ended-clause-unread : goal.returns-then-ended-clause-unread
returns-then-ended-clause-unread g c = c.loop.invariant.unread

-- an answer failed in a piece

pub returns-in_err-server-in-Ok-clause-memory : goal.returns-in_err-server-in-Ok-clause-memory
returns-in_err-server-in-Ok-clause-memory g c is d here =
    let room : length c.read.new.buf ≡ 4096 = omega (arith, c.read.auto.buf, c.loop.invariant.room) in
    let ran_out : c.feed.result ≡ Err NoMemory = search rules in
    whole_in_piece _ _ _ _ _ _ _ _ _ (c.loop.invariant.served d here) c.in-Ok.ensures.bytes.0 (short_piece c.read.new.buf c.in-Ok.count c.in-Ok.ensures.bound.0 room) (c.feed.ensures.memory ran_out)

pub returns-in_err-server-in-Ok-clause-cut : goal.returns-in_err-server-in-Ok-clause-cut
returns-in_err-server-in-Ok-clause-cut g c is d here =
    let room : length c.read.new.buf ≡ 4096 = omega (arith, c.read.auto.buf, c.loop.invariant.room) in
    begun_in_piece _ _ _ _ _ _ _ _ _ (c.loop.invariant.served d here) c.in-Ok.ensures.bytes.0 (short_piece c.read.new.buf c.in-Ok.count c.in-Ok.ensures.bound.0 room) c.feed.ensures.begins

-- no read is left

pub returns-clause-begins : goal.returns-clause-begins
returns-clause-begins g c d here =
    let s = c.loop.invariant.served d here in
    begins_output _ _ _ _ d s.bytes s.taken (begins_whole _ _ _ s.out)

pub returns-clause-memory : goal.returns-clause-memory
returns-clause-memory g c is d here = whole_at_end _ _ _ _ _ _ _ (c.loop.invariant.served d here) refl

pub returns-clause-stops : goal.returns-clause-stops
returns-clause-stops g c d here = (c.loop.invariant.served d here).stops

pub returns-clause-unread : goal.returns-clause-unread
returns-clause-unread g c = c.loop.invariant.unread
