use Rattle.std.proofs.lemmas.Result.{IfOk-weaker}
use Rattle.hp_words.proofs.words.options_of.Goals as goal

pub returns : goal.returns
returns g c = IfOk-weaker c.parse_words.result _ _ (λ options is. (_, is)) c.parse_words.ensures.ok
