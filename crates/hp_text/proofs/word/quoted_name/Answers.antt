use Rattle.std.proofs.Common.{◌≡◌, sym, ap, ◌∙◌, ◌+◌, ◌<◌, ◌≤◌, length, take, drop, get_or, arith}
use Rattle.std.specs.List.{list_all}
use Rattle.std.proofs.lemmas.List.{length-drop}
use Rattle.hp_model.specs.Parts.{is_name_byte}
use Rattle.hp_model.specs.NotationTokens.{word_rest}
use Rattle.hp_text.proofs.Words.{rest_of, word_passes, letter_is_name}
use Rattle.hp_text.proofs.word.quoted_name.Goals as goal

pub returns-then-size-bytes-clause-size : goal.returns-then-size-bytes-clause-size
returns-then-size-bytes-clause-size c =
    let bs = c.args.bytes.now in
    let more : c.word_rest-size.result ≤ length (drop 1 bs) = omega (arith, c.word_rest-size.ensures.within, ap length (rest_of 1 bs)) in
    omega (arith, length-drop 1 bs)

pub name_of-requires : goal.name_of-requires
name_of-requires c =
    let bs = c.args.bytes.now in
    let more : c.word_rest-size.result ≡ word_rest (drop 1 bs) = c.word_rest-size.ensures.value ∙ ap word_rest (rest_of 1 bs) in
    let some : 0 < length bs = omega arith in
    ap (λ n. list_all is_name_byte (take (n + 1) bs)) more ∙ word_passes is_name_byte bs some (letter_is_name (get_or bs 0 0) (sym c.if-not-is_ascii_alphabetic.ensures.value))
