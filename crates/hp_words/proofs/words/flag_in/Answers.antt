use Rattle.std.proofs.Common.{ap, ◌∙◌}
use Rattle.clap.proofs.WalkLemmas.{one_text-rows}
use Rattle.clap.specs.Words.{found_of, one_text}
use Rattle.hp_words.specs.Words.{flag_in}
use Rattle.hp_words.proofs.TypedReads.{flag_read}
use Rattle.hp_words.proofs.words.flag_in.Goals as goal

pub returns : goal.returns
returns c =
    let found = found_of c.args.matches.now in
    c.unwrap_or.ensures ∙ flag_read _ (one_text found c.args.name.now) c.get_one.result c.get_one.ensures.none c.get_one.ensures.value
    ∙ ap flag_in (one_text-rows found c.args.name.now)
