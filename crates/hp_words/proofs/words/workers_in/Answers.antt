use Rattle.std.proofs.Common.{ap, codes, ◌∙◌}
use Rattle.std.specs.Str.Parse.{ParsesUnsigned, ExplainsUnsignedError, HasUnsignedDigitsIfOk}
use Rattle.clap.proofs.WalkLemmas.{one_text-rows}
use Rattle.clap.specs.Words.{found_of, one_text}
use Rattle.hp_words.specs.Words.{number_in}
use Rattle.hp_words.proofs.TypedReads.{number_read}
use Rattle.hp_words.proofs.words.workers_in.Goals as goal

pub returns : goal.returns
returns c =
    let found = found_of c.args.matches.now in
    c.unwrap_or.ensures
    ∙ number_read _ (λ bs r. ParsesUnsigned 8 10 bs r × ExplainsUnsignedError 10 bs r × HasUnsignedDigitsIfOk bs r) (λ u x g. g.0) (one_text found (codes "workers"))
    c.get_one.result c.get_one.ensures.none c.get_one.ensures.value
    ∙ ap number_in (one_text-rows found (codes "workers"))
