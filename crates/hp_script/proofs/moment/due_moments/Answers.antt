use Rattle.std.proofs.Common.{◌≡◌, ◌<◌, length, arith}
use Rattle.hp_script.proofs.Moments.{ended, passed, too_many, goes_on}
use Rattle.hp_script.proofs.moment.due_moments.Goals as goal
use Rattle.hp_script.proofs.moment.due_moments.Goals.{in-Some+then-moment-until, in_default}

pub returns-then-len-eq-MAX_MOMENTS : goal.returns-then-len-eq-MAX_MOMENTS
returns-then-len-eq-MAX_MOMENTS c =
    let full : length c.loop-moment.moments.items ≡ 1000 = omega (arith, c.loop-moment.moments.ok.0) in
    too_many _ _ _ c.loop-moment.now c.in-Some.moment c.loop-moment.moments.items c.requires.small c.loop-moment.invariant c.in-Some.ensures c.if-moment-until.false full

pub loop-moment-preserved : goal.loop-moment-preserved
loop-moment-preserved c =
    let room : length c.loop-moment.moments.items < 1000 = omega (arith, c.loop-moment.moments.ok.0) in
    goes_on _ _ _ c.loop-moment.now c.in-Some.moment c.loop-moment.moments.items _ c.requires.small c.loop-moment.invariant c.in-Some.ensures c.if-moment-until.false room c.in_ok-push.ensures.items

pub returns : goal.returns
returns c =
    elim c.match-next_moment.branch [
      | in-Some+then-moment-until w ↦ passed _ _ _ c.loop-moment.now w.in-Some.moment c.loop-moment.moments.items c.requires.small c.loop-moment.invariant w.in-Some.ensures w.if-moment-until.true
      | in_default w ↦ ended _ _ _ c.loop-moment.now c.loop-moment.moments.items c.requires.small c.loop-moment.invariant w.in_default.ensures
    ]
