use Rattle.hp_analysis.proofs.Linking.{links_stand}
use Rattle.hp_analysis.proofs.laws.links_stand.Goals as goal

pub returns : goal.returns
returns c = links_stand
