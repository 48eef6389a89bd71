use Rattle.hp_value.specs.Mapped.{occurrence}
use Rattle.hp_detect.proofs.Runs.{rest_map}
use Rattle.hp_detect.proofs.chunk.Chunk.from.Goals as goal

pub returns : goal.returns
returns c = rest_map (λ o. occurrence o.value) c.occurrences.result.now c.args.self.now c.args.at c.occurrences.ensures
