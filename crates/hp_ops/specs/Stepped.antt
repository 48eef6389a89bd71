-- What steps that aren't written yet stand for.
use Rattle.std.specs.Prelude.{[], ◌∷◌, Some}
use Rattle.hp_model.specs.Cells.{detector_cell, knowledge_value}
use Rattle.hp_store.specs.Changes.{Entries}
use Rattle.hp_ops.specs.declared.steps.DetectorSteps.{DetectorSteps}
use Rattle.hp_ops.specs.declared.steps.DetectorSteps.TheVariants.{Nothing, One, Several}

-- the cells that they change
abbrev pub entries : DetectorSteps → Entries
entries Nothing = []
entries (One n next) = (detector_cell n, Some (knowledge_value next)) ∷ []
entries (Several layer) = layer
