use Rattle.std.proofs.Common.{rules, subst, sym, ◌≡◌, [], ◌∷◌, ◌++◌}
use Rattle.std.specs.Prelude.{All}
use Rattle.std.specs.Global.{Global}
use Rattle.std.proofs.lemmas.List.Elements.{All-push}
use Rattle.rtrb.specs.Ring.{received}
use Rattle.rtrb.specs.declared.consumer.Consumer.{Consumer}
use Rattle.hp_rule.specs.Mapped.{library}
use Rattle.hp_fire.specs.declared.speculate.channel.Sent.{Sent}
use Rattle.hp_fire.specs.declared.speculate.channel.Soundness.{Soundness}
use Rattle.hp_fire.specs.declared.speculate.wave.Job.{Job}
use Rattle.hp_fire.specs.Channels.{IsOf}
use Rattle.hp_fire.specs.Groups.{IsJob}
use Rattle.hp_fire.proofs.speculate.wave.add_job.Goals as goal

pub returns-clause-jobs : goal.returns-clause-jobs
returns-clause-jobs c = λ before.
    let P = IsJob (library c.args.lib.now) c.args.wave.now in
    let job : Job = record { seat = c.args.seat; sender = c.in_ok-sender.sender } in
    let items : c.push_reserved.new.self.items ≡ c.args.jobs.now.items ++ job ∷ [] = search rules in
    subst (All P) (sym items) (All-push P c.args.jobs.now.items job before
    (record { seat = c.requires; of = c.in_ok-sender.ensures.sender; from = c.in_ok-sender.ensures.sender_from }))

pub returns-clause-receivers : goal.returns-clause-receivers
returns-clause-receivers c = λ before.
    let P = λ (r : Consumer Sent Global Soundness). IsOf (library c.args.lib.now) (received r) in
    let items : c.push_reserved-2.new.self.items ≡ c.args.receivers.now.items ++ c.in_ok-sender.receiver ∷ [] = search rules in
    subst (All P) (sym items) (All-push P c.args.receivers.now.items c.in_ok-sender.receiver before c.in_ok-sender.ensures.receiver)
