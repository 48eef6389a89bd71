use Rattle.std.proofs.Common.{◌≡◌, ap, ◌∙◌, ◌+◌, ◌∷◌, take, drop, get_or}
use Rattle.std.specs.List.{list_all}
use Rattle.hp_model.specs.Parts.{is_name_byte}
use Rattle.hp_model.specs.NotationTokens.{word_rest, word_lexeme}
use Rattle.hp_text.proofs.Words.{rest_of, cut_first, word_passes, letter_begins, letter_is_name}
use Rattle.hp_text.proofs.word.word_at.Goals as goal

pub word_lexeme-requires : goal.word_lexeme-requires
word_lexeme-requires c =
    let bs = c.args.bytes.now in
    let more : c.word_rest-more.result ≡ word_rest (drop 1 bs) = c.word_rest-more.ensures.value ∙ ap word_rest (rest_of 1 bs) in
    ap (λ n. list_all is_name_byte (take (n + 1) bs)) more ∙ word_passes is_name_byte bs c.requires.some (letter_is_name (get_or bs 0 0) (letter_begins (get_or bs 0 0) c.requires.letter))

pub returns-clause-value : goal.returns-clause-value
returns-clause-value c =
    let bs = c.args.bytes.now in
    let more : c.word_rest-more.result ≡ word_rest (drop 1 bs) = c.word_rest-more.ensures.value ∙ ap word_rest (rest_of 1 bs) in
    c.word_lexeme.ensures.value ∙ ap (λ w. word_lexeme w c.word_rest-more.result) (cut_first c.word_rest-more.result bs c.requires.some)
    ∙ ap (λ n. word_lexeme (get_or bs 0 0 ∷ take n (drop 1 bs)) n) more
