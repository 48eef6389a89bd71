use Rattle.std.proofs.Common.{◌≡◌, sym, ap, ◌∙◌, ◌+◌, drop, get_or, arith}
use Rattle.std.proofs.lemmas.List.{get_or-drop}
use Rattle.std.proofs.lemmas.Str.{IsCharBoundary-after_ascii}
use Rattle.hp_model.specs.NotationTokens.{beginning}
use Rattle.hp_text.proofs.Words.{rest_of, quote_begins}
use Rattle.hp_text.proofs.lexeme.lexeme_at.Goals as goal

pub text_at-requires : goal.text_at-requires
text_at-requires c =
    let d = c.args.text.now in
    let at = c.args.at in
    let last : at + 0 ≡ at = omega arith in
    let first = ap (λ l. get_or l 0 0) (rest_of at c.as_bytes.result.now ∙ ap (drop at) c.as_bytes.ensures.value) ∙ get_or-drop at d 0 0 ∙ ap (λ k. get_or d k 0) last in
    let is : get_or d at 0 ≡ 34 = quote_begins (get_or d at 0) (sym (c.in-Quote.ensures ∙ ap beginning first)) in
    IsCharBoundary-after_ascii d at c.utf8.text c.requires (omega arith)
