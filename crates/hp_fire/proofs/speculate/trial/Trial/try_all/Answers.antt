use Rattle.std.proofs.Common.{rules}
use denote.Param.{param}
use denote.Param.Send.{IsSync, param_sync, sendable}
use denote.Ref.{NamedLft}
use Rattle.std.proofs.Crossing as heap
use Rattle.hp_board.proofs.counter.Seat.TheSendSync as seat
use Rattle.rtrb.proofs.consumer.Consumer.TheSendSync as receiver
use Rattle.hp_fire.specs.contracts.speculate.trial.Trial as Trial
use Rattle.hp_fire.proofs.Sending.{tried_send, job_send, trial_sync, wave_sync, view_send, progress_send, sent_send}
use Rattle.hp_fire.proofs.speculate.trial.Trial.try_all.Goals as goal

pub on_threads-requires-send-X : goal.on_threads-requires-send-X
on_threads-requires-send-X g c = λ κs within. search (tried_send, heap.crosses, sendable) depth 12

pub on_threads-requires-send-J : goal.on_threads-requires-send-J
on_threads-requires-send-J g c = λ κs within. search (job_send, heap.crosses, sendable) depth 12

pub on_threads-requires-send-Y : goal.on_threads-requires-send-Y
on_threads-requires-send-Y g c = λ κs within. search (heap.crosses, sendable) depth 12

pub on_threads-requires-send-H : goal.on_threads-requires-send-H
on_threads-requires-send-H g c = λ κs within.
    let r : IsSync g.row.R = search rules in
    let s : IsSync g.row.G = search rules in
    let t : IsSync g.row.F = search rules in
    let trial : (κ : NamedLft) → IsSync (Trial.the_row κ (param 0 g.row.R) (param 1 g.row.G) (param 2 g.row.F)) =
    λ κ. trial_sync κ (param 0 g.row.R) (param 1 g.row.G) (param 2 g.row.F) (param_sync 0 g.row.R r) (param_sync 1 g.row.G s) (param_sync 2 g.row.F t) in
    search (trial, wave_sync, view_send, progress_send, seat.the_send, sent_send, receiver.the_send, heap.crosses, heap.send, heap.sync, sendable) depth 30 fits 20000

pub on_threads-requires-sync-F : goal.on_threads-requires-sync-F
on_threads-requires-sync-F g c = λ κs within.
    let r : IsSync g.row.R = search rules in
    let s : IsSync g.row.G = search rules in
    let t : IsSync g.row.F = search rules in
    let trial : (κ : NamedLft) → IsSync (Trial.the_row κ (param 0 g.row.R) (param 1 g.row.G) (param 2 g.row.F)) =
    λ κ. trial_sync κ (param 0 g.row.R) (param 1 g.row.G) (param 2 g.row.F) (param_sync 0 g.row.R r) (param_sync 1 g.row.G s) (param_sync 2 g.row.F t) in
    search (trial, wave_sync, heap.crosses, heap.send, heap.sync, sendable) depth 30 fits 20000
