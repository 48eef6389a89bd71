use Rattle.hp_analysis.proofs.Guarding.{guards_hold}
use Rattle.hp_analysis.proofs.laws.guards_hold.Goals as goal

pub returns : goal.returns
returns c = guards_hold
