-- The tokens of a text, one at a time.
use Rattle.std.proofs.Common.{◌≡◌, refl, sym, ap, ◌∙◌, ℕ, zero, suc, ◌+◌, ◌-◌, ◌<◌, ◌≤◌, Bool, true, false, List, [], ◌∷◌, ◌++◌, length, take, drop, get_or, arith}
use Rattle.std.proofs.lemmas.List.{drop_more, drop-drop, drop_all, length-drop}
use Rattle.std.proofs.lemmas.Str.{is_utf8-from_IsUtf8, IsUtf8-from_is_utf8}
use Rattle.std.specs.Str.{IsUtf8, is_utf8}
use Rattle.std.specs.Str.Lossy.{utf8_valid_len}
use Rattle.hp_model.specs.NotationTokens.{Token, blank, found, faulty, lexeme, Tokens, token, unreadable, tokens_at, tokens_from, tokens_of, tokens}
use Rattle.hp_text.specs.declared.token.Placed.{Placed}
use Rattle.hp_text.specs.Mapped.{token_view, before}
use Rattle.hp_text.specs.Lexemes.{end_of}

past_bytes : (e : ℕ → Tokens) (n at : ℕ) (bs : List ℕ) → n ≤ length bs → tokens_from e n at bs ≡ tokens_from e 0 (at + n) (drop n bs)
unfolding tokens_from
past_bytes e zero at bs le = let same : at ≡ at + 0 = omega arith in ap (λ k. tokens_from e 0 k bs) same
past_bytes e (suc n) at [] le = absurd (omega arith)
past_bytes e (suc n) at (b ∷ bs) le =
    let same : suc at + n ≡ at + suc n = omega arith in
    past_bytes e n (suc at) bs (omega arith) ∙ ap (λ k. tokens_from e 0 k (drop n bs)) same

at_byte : (e : ℕ → Tokens) (d : List ℕ) (at : ℕ) → at < length d
    → tokens_from e 0 at (drop at d) ≡ tokens_at (lexeme (get_or d at 0) (drop (at + 1) d)) at (λ n. tokens_from e n (suc at) (drop (at + 1) d))
unfolding tokens_from
at_byte e d at h = ap (tokens_from e 0 at) (drop_more d at 0 h)

past_more : (e : ℕ → Tokens) (d : List ℕ) (at more : ℕ) → at < length d → more ≤ length d - at - 1
    → tokens_from e more (suc at) (drop (at + 1) d) ≡ tokens_from e 0 (at + (more + 1)) (drop (at + (more + 1)) d)
past_more e d at more h le =
    let k : suc at + more ≡ at + (more + 1) = omega arith in
    let j : at + 1 + more ≡ at + (more + 1) = omega arith in
    past_bytes e more (suc at) (drop (at + 1) d) (omega (arith, length-drop (at + 1) d)) ∙ ap (λ p. tokens_from e 0 p (drop more (drop (at + 1) d))) k
    ∙ ap (tokens_from e 0 (at + (more + 1))) (drop-drop more (at + 1) d ∙ ap (λ p. drop p d) j)

pub past_blank : (e : ℕ → Tokens) (d : List ℕ) (at more : ℕ) → at < length d → blank more ≡ lexeme (get_or d at 0) (drop (at + 1) d) → more ≤ length d - at - 1
    → tokens_from e 0 at (drop at d) ≡ tokens_from e 0 (at + (more + 1)) (drop (at + (more + 1)) d)
past_blank e d at more h is le =
    at_byte e d at h ∙ ap (λ l. tokens_at l at (λ n. tokens_from e n (suc at) (drop (at + 1) d))) (sym is) ∙ past_more e d at more h le

pub past_token : (e : ℕ → Tokens) (d : List ℕ) (at more : ℕ) (t : Token) → at < length d → found t more ≡ lexeme (get_or d at 0) (drop (at + 1) d) → more ≤ length d - at - 1
    → tokens_from e 0 at (drop at d) ≡ token at t (tokens_from e 0 (at + (more + 1)) (drop (at + (more + 1)) d))
past_token e d at more t h is le =
    at_byte e d at h ∙ ap (λ l. tokens_at l at (λ n. tokens_from e n (suc at) (drop (at + 1) d))) (sym is) ∙ ap (token at t) (past_more e d at more h le)

pub at_fault : (e : ℕ → Tokens) (d : List ℕ) (at distance : ℕ) → at < length d → faulty distance ≡ lexeme (get_or d at 0) (drop (at + 1) d)
    → tokens_from e 0 at (drop at d) ≡ unreadable (at + distance)
at_fault e d at distance h is = at_byte e d at h ∙ ap (λ l. tokens_at l at (λ n. tokens_from e n (suc at) (drop (at + 1) d))) (sym is)

pub at_end : (e : ℕ → Tokens) (d : List ℕ) (at : ℕ) → length d ≤ at → tokens_from e 0 at (drop at d) ≡ e at
unfolding tokens_from
at_end e d at h = ap (tokens_from e 0 at) (drop_all at d h)

-- a token is added
pub before_more : (ps : List Placed) (p : Placed) (end : Tokens) → before ps (token p.at (token_view p.token) end) ≡ before (ps ++ p ∷ []) end
before_more [] p end = refl
before_more (q ∷ ps) p end = ap (token q.at (token_view q.token)) (before_more ps p end)

pub all_of_text : (bytes : List ℕ) → IsUtf8 bytes → tokens_from (end_of true) 0 0 bytes ≡ tokens bytes
unfolding tokens
all_of_text bytes is = ap (λ b. tokens_of b bytes) (sym (is_utf8-from_IsUtf8 bytes is))

pub part_of_text : (bytes : List ℕ) → (IsUtf8 bytes → ⊥) → tokens_from (end_of false) 0 0 (take (utf8_valid_len bytes) bytes) ≡ tokens bytes
unfolding tokens
part_of_text bytes wrong = go (is_utf8 bytes) refl
  where
    go : (b : Bool) → is_utf8 bytes ≡ b → tokens_from (end_of false) 0 0 (take (utf8_valid_len bytes) bytes) ≡ tokens_of b bytes
    go true is = absurd (wrong (IsUtf8-from_is_utf8 bytes is))
    go false is = refl
