use Rattle.hp_analysis.proofs.Reaching.{reached_is_least}
use Rattle.hp_analysis.proofs.laws.reached_is_least.Goals as goal

pub returns : goal.returns
returns c = reached_is_least
