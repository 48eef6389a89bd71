use Rattle.hp_script.proofs.OwnBodies.{own_moment, moment_pushed}
use Rattle.hp_script.proofs.item.with_moments.Goals as goal

pub loop-moment-preserved : goal.loop-moment-preserved
loop-moment-preserved c = record {
  units = moment_pushed c.args.units.items c.loop-moment.all.items c.push.new.self.items c.args.moments.now c.loop-moment.moment-index c.loop-moment-test.true
      c.in_ok-push.ensures.items c.loop-moment.invariant.units;
  own = λ library own. own_moment library c.loop-moment.all.items c.push.new.self.items _ c.in_ok-push.ensures.items (c.loop-moment.invariant.own library own);
}
