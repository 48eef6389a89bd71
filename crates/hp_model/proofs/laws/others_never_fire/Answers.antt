use Rattle.hp_model.proofs.Reached.{others_never_fire}
use Rattle.hp_model.proofs.laws.others_never_fire.Goals as goal

pub returns : goal.returns
returns c = others_never_fire
