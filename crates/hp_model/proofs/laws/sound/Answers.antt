use Rattle.hp_model.proofs.ForStates.{sound_for_ordered, sound_for_fit}
use Rattle.hp_model.proofs.laws.sound.Goals as goal

pub returns-clause-ordered : goal.returns-clause-ordered
returns-clause-ordered c = sound_for_ordered

pub returns-clause-fit : goal.returns-clause-fit
returns-clause-fit c = sound_for_fit
