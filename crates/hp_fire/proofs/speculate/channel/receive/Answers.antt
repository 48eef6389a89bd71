use Rattle.std.proofs.Common.{rules, ◌≡◌, subst}
use Rattle.rtrb.specs.Ring.{received}
use Rattle.hp_fire.specs.declared.speculate.channel.Sent.TheVariants.{Tried as OfTried}
use Rattle.hp_fire.specs.Channels.{IsSoundFor, IsTriedFor}
use Rattle.hp_fire.proofs.OneOrigin.{from_more}
use Rattle.hp_fire.proofs.speculate.channel.receive.Goals as goal

pub returns-in-Ok-Tried-clause-channel_from : goal.returns-in-Ok-Tried-clause-channel_from
returns-in-Ok-Tried-clause-channel_from c = λ s n is. from_more s n (received c.args.receiver.now) (received c.pop.new.self) c.in-Ok-Tried.field-0 c.in-Ok-Tried.ensures.ok.0 is

pub returns-in-Ok-Tried-clause-sound : goal.returns-in-Ok-Tried-clause-sound
returns-in-Ok-Tried-clause-sound c = λ l is.
    let here : c.in-Ok-Tried.field-0 ≡ OfTried c.in-Ok-Tried.tried = search rules in
    subst (IsSoundFor l) here (c.in-Ok-Tried.ensures.ok.2.sound l is)

pub returns-in-Ok-Tried-clause-tried : goal.returns-in-Ok-Tried-clause-tried
returns-in-Ok-Tried-clause-tried c = λ s n is.
    let here : c.in-Ok-Tried.field-0 ≡ OfTried c.in-Ok-Tried.tried = search rules in
    subst (IsTriedFor s n) here (c.in-Ok-Tried.ensures.ok.2.tried s n is)
