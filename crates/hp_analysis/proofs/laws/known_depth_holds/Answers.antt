use Rattle.hp_analysis.proofs.Installing.{known_depth_holds}
use Rattle.hp_analysis.proofs.laws.known_depth_holds.Goals as goal

pub returns : goal.returns
returns c = known_depth_holds
