use Rattle.hp_store.proofs.Stacked.{nothing_shown}
use Rattle.hp_store.proofs.snapshot.Snapshot.empty.Goals as goal

pub returns : goal.returns
returns c = nothing_shown c.new.result c.in_ok-new.field-0.value c.new-3.result.items c.in_ok-new.ensures.ok c.new-3.ensures.items c.new.ensures.cells
