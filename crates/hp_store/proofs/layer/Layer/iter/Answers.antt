use Rattle.std.proofs.Common.{subst}
use Rattle.hp_store.specs.Changes.{IsEachOnce}
use Rattle.hp_store.proofs.Entered.{each_once}
use Rattle.hp_store.proofs.layer.Layer.iter.Goals as goal

pub returns-clause-once : goal.returns-clause-once
returns-clause-once c = subst IsEachOnce c.self.view_is (each_once c.self.inside.changes.entries c.iter.ensures.ordered)
