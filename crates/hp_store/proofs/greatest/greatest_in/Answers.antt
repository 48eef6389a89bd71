use Rattle.std.proofs.Common.{◌≡◌, true}
use Rattle.hp_store.specs.Greatest.{is_below}
use Rattle.hp_store.proofs.Topmost.{one_of, names_more}
use Rattle.hp_store.proofs.greatest.greatest_in.Goals as goal

pub loop-shared-preserved : goal.loop-shared-preserved
loop-shared-preserved c =
    let old = c.loop-shared.greatest in
    let more = c.greatest_below.result in
    let new = c.greater-greatest.result in
    record {
      below = one_of (λ key. is_below c.args.bound key ≡ true) new old more c.greater-greatest.ensures.one c.loop-shared.invariant.below c.greatest_below.ensures.below;
      above =
          names_more c.args.layers.now c.loop-shared.shared-index c.shared-item.result c.args.class c.args.bound old more new c.loop-shared-test.true c.shared-item.is
          c.loop-shared.invariant.above c.greatest_below.ensures.above c.greater-greatest.ensures.first c.greater-greatest.ensures.second;
    }
