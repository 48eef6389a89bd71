use Rattle.hp_model.proofs.Tops.{rounds_end}
use Rattle.hp_model.proofs.laws.rounds_end.Goals as goal

pub returns : goal.returns
returns c = rounds_end
