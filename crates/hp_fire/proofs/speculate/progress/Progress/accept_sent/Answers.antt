use Rattle.std.proofs.Common.{refl, ◌∙◌}
use Rattle.hp_fire.specs.declared.speculate.progress.Progress.{Progress}
use Rattle.hp_fire.proofs.Coming.{within_ahead, comes_same, comes_then, comes_put}
use Rattle.hp_fire.proofs.speculate.progress.Progress.accept_sent.Goals as goal

pub loop-init : goal.loop-init
loop-init c = record { accepted = c.requires; waves = refl; channels = λ library all. all; comes = λ library all sound. comes_same c.args.view.now c.args.self.now sound }

pub settle-requires : goal.settle-requires
settle-requires c = c.loop.invariant.accepted

pub returns-in_err-settle-clause-channels : goal.returns-in_err-settle-clause-channels
returns-in_err-settle-clause-channels c = λ library all. c.receive_all.ensures.channels library (c.loop.invariant.channels library all)

pub loop-preserved : goal.loop-preserved
loop-preserved c = record {
  accepted = within_ahead _ c.settle.new.self c.loop.invariant.accepted c.in_ok-settle.ensures.ahead;
  waves = c.settle.ensures.waves ∙ c.loop.invariant.waves;
  channels = λ library all. c.receive_all.ensures.channels library (c.loop.invariant.channels library all);
  comes = λ library all sound.
      let before = c.loop.invariant.comes library all sound in
      let here = c.receive_all.ensures.sound library (c.loop.invariant.channels library all) before.sound in
      let put : Progress = record c.loop.self { pending = c.receive_all.new.self } in
      comes_then c.args.self.now c.loop.self c.settle.new.self before
      (comes_then c.loop.self put c.settle.new.self (comes_put c.loop.view c.loop.self put refl here) (c.in_ok-settle.ensures.comes library here));
}

pub returns-after-loop-clause-channels : goal.returns-after-loop-clause-channels
returns-after-loop-clause-channels c = c.loop.invariant.channels

pub returns-after-loop-clause-comes : goal.returns-after-loop-clause-comes
returns-after-loop-clause-comes c = c.loop.invariant.comes

pub returns-then-not-lacks_next-clause-channels : goal.returns-then-not-lacks_next-clause-channels
returns-then-not-lacks_next-clause-channels c = λ library all. c.receive_all.ensures.channels library (c.loop.invariant.channels library all)

pub returns-then-not-lacks_next-clause-comes : goal.returns-then-not-lacks_next-clause-comes
returns-then-not-lacks_next-clause-comes c = λ library all sound.
    let before = c.loop.invariant.comes library all sound in
    let here = c.receive_all.ensures.sound library (c.loop.invariant.channels library all) before.sound in
    let put : Progress = record c.loop.self { pending = c.receive_all.new.self } in
    comes_then c.args.self.now c.loop.self c.settle.new.self before
    (comes_then c.loop.self put c.settle.new.self (comes_put c.loop.view c.loop.self put refl here) (c.in_ok-settle.ensures.comes library here))
