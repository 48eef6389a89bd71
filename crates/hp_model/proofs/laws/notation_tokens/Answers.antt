use Rattle.hp_model.proofs.NotationSpelt.{tokens_are_read}
use Rattle.hp_model.proofs.laws.notation_tokens.Goals as goal

pub returns : goal.returns
returns c = tokens_are_read
