use Rattle.hp_analysis.proofs.Witnessed.{chain_is_path, chain_is_path_among}
use Rattle.hp_analysis.proofs.laws.chain_is_path.Goals as goal

pub returns-clause-library : goal.returns-clause-library
returns-clause-library c = chain_is_path

pub returns-clause-among : goal.returns-clause-among
returns-clause-among c = chain_is_path_among
