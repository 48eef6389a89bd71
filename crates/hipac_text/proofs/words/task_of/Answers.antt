use Rattle.std.proofs.Common.{map, string_bytes}
use Rattle.std.proofs.lemmas.Result.{IfOk-weaker}
use Rattle.hipac_text.proofs.words.task_of.Goals as goal

pub returns : goal.returns
returns g c =
    let words = map string_bytes c.as_slice.result.now in
    IfOk-weaker c.parse_words.result _ _ (λ task is. (words, is)) c.parse_words.ensures.ok
