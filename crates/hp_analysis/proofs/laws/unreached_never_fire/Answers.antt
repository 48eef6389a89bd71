use Rattle.hp_analysis.proofs.Reaching.{unreached_never_fire}
use Rattle.hp_analysis.proofs.laws.unreached_never_fire.Goals as goal

pub returns : goal.returns
returns c = unreached_never_fire
