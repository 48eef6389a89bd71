use Rattle.hp_store.proofs.Counted.{sized_count, sized_err}
use Rattle.hp_store.proofs.snapshot.Snapshot.count_over.Goals as goal

pub returns-clause-count : goal.returns-clause-count
returns-clause-count c = sized_count c.sized.result c.sized.ensures.count c.number_over.ensures

pub returns-clause-err : goal.returns-clause-err
returns-clause-err c = sized_err c.sized.result c.sized.ensures.err c.number_over.ensures
