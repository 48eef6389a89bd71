use Rattle.std.proofs.Common.{ap}
use Rattle.hp_store.specs.Changes.{changes}
use Rattle.hp_fire.specs.Starts.{layer_changes}
use Rattle.hp_fire.proofs.Posted.{merged_none}
use Rattle.hp_fire.proofs.speculate.predecessors.Predecessors.keep_below.Goals as goal

pub returns-clause-merged : goal.returns-clause-merged
returns-clause-merged c = λ posts was.
    merged_none layer_changes posts c.in_ok-anew.anew.count (changes c.in_ok-anew.anew.layer.value) c.in_ok-anew.ensures.0 (λ cell. ap (λ l. changes l cell) c.in_ok-anew.ensures.1)
