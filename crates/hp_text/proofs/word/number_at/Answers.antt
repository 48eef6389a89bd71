use Rattle.std.proofs.Common.{◌≡◌, ap, ◌∙◌, ◌+◌, ◌-◌, ◌≤◌, ◌∷◌, length, take, drop, get_or, arith}
use Rattle.std.specs.Char.{is_ascii_digit}
use Rattle.std.specs.List.{list_all, prefix_len}
use Rattle.hp_model.specs.NotationTokens.{number_lexeme}
use Rattle.std.proofs.lemmas.List.{length-drop}
use Rattle.hp_text.proofs.Words.{rest_of, cut_first, word_passes, digit_begins, within_more}
use Rattle.hp_text.proofs.word.number_at.Goals as goal

pub number_lexeme-requires-clause-digits : goal.number_lexeme-requires-clause-digits
number_lexeme-requires-clause-digits c =
    let bs = c.args.bytes.now in
    let more : c.digits_rest-more.result ≡ prefix_len is_ascii_digit (drop 1 bs) = c.digits_rest-more.ensures.value ∙ ap (prefix_len is_ascii_digit) (rest_of 1 bs) in
    ap (λ n. list_all is_ascii_digit (take (n + 1) bs)) more ∙ word_passes is_ascii_digit bs c.requires.some (digit_begins (get_or bs 0 0) c.requires.digit)

pub returns-clause-value : goal.returns-clause-value
returns-clause-value c =
    let bs = c.args.bytes.now in
    let more : c.digits_rest-more.result ≡ prefix_len is_ascii_digit (drop 1 bs) = c.digits_rest-more.ensures.value ∙ ap (prefix_len is_ascii_digit) (rest_of 1 bs) in
    c.number_lexeme.ensures.value ∙ ap (λ w. number_lexeme w c.digits_rest-more.result) (cut_first c.digits_rest-more.result bs c.requires.some)
    ∙ ap (λ n. number_lexeme (get_or bs 0 0 ∷ take n (drop 1 bs)) n) more

pub returns-clause-size : goal.returns-clause-size
returns-clause-size c =
    let bs = c.args.bytes.now in
    let more : c.digits_rest-more.result ≤ length (drop 1 bs) = omega (arith, c.digits_rest-more.ensures.within, ap length (rest_of 1 bs)) in
    within_more c.digits_rest-more.result (length bs - 1) c.number_lexeme.result (omega (arith, length-drop 1 bs)) c.number_lexeme.ensures.size
