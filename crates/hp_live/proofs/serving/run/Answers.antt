use Rattle.std.proofs.Common.{sym}
use Rattle.hp_lines.specs.Live.{opened_server}
use Rattle.hp_live.specs.Kept.{manner, declared_of, bytes_of}
use Rattle.hp_live.proofs.Fed.{begins_ahead, begins_of_none, begins_after, output_after, status_after, stays_closed}
use Rattle.hp_live.proofs.serving.run.Goals as goal

pub returns-in_err-server-clause-begins : goal.returns-in_err-server-clause-begins
returns-in_err-server-clause-begins g c =
    let start = c.args.start in
    begins_of_none (manner c.args.options (declared_of start.checks)) (bytes_of start.script) start.ahead.items _ _ _ c.open.ensures.begins

-- what is fed are the bytes that were read ahead
pub returns-in_err-server-2-clause-begins : goal.returns-in_err-server-2-clause-begins
returns-in_err-server-2-clause-begins g c =
    let start = c.args.start in
    rw (sym c.deref.ensures.value)
    (begins_ahead (manner c.args.options (declared_of start.checks)) (bytes_of start.script) c.deref.result.now _ _ _ _ c.in_ok-server.ensures.output
    (c.feed.ensures.begins _ c.in_ok-server.ensures.next))

pub returns-in_err-status-clause-begins : goal.returns-in_err-status-clause-begins
returns-in_err-status-clause-begins g c =
    let start = c.args.start in
    rw (sym c.deref.ensures.value)
    (begins_after (manner c.args.options (declared_of start.checks)) (bytes_of start.script) c.deref.result.now _ _ _ _ _ c.in_ok-server.ensures.output
    (c.in_ok-server-2.ensures.output _ c.in_ok-server.ensures.next) (c.serve.ensures.begins _ (c.in_ok-server-2.ensures.next _ c.in_ok-server.ensures.next)))

pub returns-in_err-status-clause-unread : goal.returns-in_err-status-clause-unread
returns-in_err-status-clause-unread g c = λ shut.
    let start = c.args.start in
    c.serve.ensures.unread _ (c.in_ok-server-2.ensures.next _ c.in_ok-server.ensures.next)
    (stays_closed (opened_server (manner c.args.options (declared_of start.checks)) (bytes_of start.script)) c.deref.result.now shut)

pub returns-clause-output : goal.returns-clause-output
returns-clause-output g c =
    let start = c.args.start in
    rw (sym c.deref.ensures.value)
    (output_after (manner c.args.options (declared_of start.checks)) (bytes_of start.script) c.deref.result.now _ _ _ _ _ c.in_ok-server.ensures.output
    (c.in_ok-server-2.ensures.output _ c.in_ok-server.ensures.next) (c.in_ok-status.ensures.output _ (c.in_ok-server-2.ensures.next _ c.in_ok-server.ensures.next)))

pub returns-clause-status : goal.returns-clause-status
returns-clause-status g c =
    let start = c.args.start in
    rw (sym c.deref.ensures.value)
    (status_after (manner c.args.options (declared_of start.checks)) (bytes_of start.script) c.deref.result.now _ c.in_ok-status.status
    (c.in_ok-status.ensures.status _ (c.in_ok-server-2.ensures.next _ c.in_ok-server.ensures.next)))

pub returns-clause-begins : goal.returns-clause-begins
returns-clause-begins g c =
    let start = c.args.start in
    rw (sym c.deref.ensures.value)
    (begins_after (manner c.args.options (declared_of start.checks)) (bytes_of start.script) c.deref.result.now _ _ _ _ _ c.in_ok-server.ensures.output
    (c.in_ok-server-2.ensures.output _ c.in_ok-server.ensures.next) (c.serve.ensures.begins _ (c.in_ok-server-2.ensures.next _ c.in_ok-server.ensures.next)))

pub returns-clause-unread : goal.returns-clause-unread
returns-clause-unread g c = λ shut.
    let start = c.args.start in
    c.serve.ensures.unread _ (c.in_ok-server-2.ensures.next _ c.in_ok-server.ensures.next)
    (stays_closed (opened_server (manner c.args.options (declared_of start.checks)) (bytes_of start.script)) c.deref.result.now shut)
