use Rattle.hp_store.proofs.Keeping.{kept_at}
use Rattle.hp_store.proofs.kept.still_kept.Goals as goal

pub loop-list-preserved : goal.loop-list-preserved
loop-list-preserved c = λ base are.
    c.in_ok-keep_under.ensures base (kept_at base c.args.lists.now c.loop-list.list-index c.list-item.result are c.loop-list-test.true c.list-item.is) (c.loop-list.invariant base are)
