use Rattle.std.proofs.Common.{rules, subst, sym, ◌<◌, length}
use Rattle.std.specs.Global.{Global}
use Rattle.std.proofs.lemmas.List.Elements.{All-set}
use Rattle.rtrb.specs.Ring.{received}
use Rattle.rtrb.specs.declared.consumer.Consumer.{Consumer}
use Rattle.hp_model.specs.Rules.{Library}
use Rattle.hp_fire.specs.declared.speculate.channel.Sent.{Sent}
use Rattle.hp_fire.specs.declared.speculate.channel.Soundness.{Soundness}
use Rattle.hp_fire.specs.Channels.{IsOf}
use Rattle.hp_fire.specs.Groups.{AreOf}
use Rattle.hp_fire.proofs.speculate.pending.Pending.receive_all.Goals as goal

pub loop-worker-preserved : goal.loop-worker-preserved
loop-worker-preserved c =
    let P = λ (library : Library) (r : Consumer Sent Global Soundness). IsOf library (received r) in
    let here : c.loop-worker.worker < length c.loop-worker.receivers.items = search rules in
    let at = λ (library : Library) (all : AreOf library c.loop-worker.receivers.items). subst (P library) (sym c.index_mut.ensures.value) (all c.loop-worker.worker c.index_mut.result.now here) in (
      c.loop-worker.invariant.0,
      (λ library all. let is = c.loop-worker.invariant.1 library all in All-set (P library) c.loop-worker.receivers.items c.loop-worker.worker
          c.receive_from.new.receiver (c.receive_from.ensures.channel library (at library is)) is),
      λ library all sound. c.receive_from.ensures.sound library (at library (c.loop-worker.invariant.1 library all)) (c.loop-worker.invariant.2 library all sound),
    )
