-- Texts, token by token.
use Rattle.std.proofs.Common.{◌≡◌, ℕ, List, [], ◌∷◌, ◌++◌, Bool, false, Option, Some, None, option_map, replicate, ◌+◌, ◌*◌, arith, refl, sym, ap, ◌∙◌, append_assoc}
use Rattle.std.proofs.lemmas.List.{replicate-append-replicate}
use Rattle.json.specs.Print.{escape_byte, quoted as json_quoted}
use Rattle.hp_model.specs.Report.{quoted}
use Rattle.hp_model.specs.NotationTokens as N
use Rattle.hp_model.specs.NotationPrint as P
use Rattle.hp_model.specs.NotationPrint.{Pieces, gap_text, token_text, at_gap}
use Rattle.hp_print.specs.declared.token.Last.{Last}
use Rattle.hp_print.specs.Written.{last_of, gap_by, text_by, whole}

pub quoted_is : (s : List ℕ) → json_quoted s ≡ quoted s
unfolding escape_byte
quoted_is s = refl

-- one more token
pub token_more : (old mid new : List ℕ) (is_line : Bool) (last after : Last) (gap placed : P.Gap) (t : N.Token) (rest : Option Pieces)
    → placed ≡ gap_by last is_line gap t → mid ≡ old ++ gap_text placed → new ≡ mid ++ token_text t → after ≡ last_of t
    → whole false old is_line last (option_map (at_gap gap t) rest) ≡ whole false new is_line after rest
token_more old mid new is_line last after gap placed t None is gains more then = refl
token_more old mid new is_line last after gap placed t (Some k) is gains more then =
    rw (then, more, gains, is) (ap Some (sym (append_assoc (old ++ gap_text (gap_by last is_line gap t)) (token_text t) (text_by is_line (last_of t) k)
    ∙ append_assoc old (gap_text (gap_by last is_line gap t)) (token_text t ++ text_by is_line (last_of t) k))))

-- one more step of an indentation
pub indent_more : (n m : ℕ) (fn old new : List ℕ) → m ≡ n + 1 → old ≡ fn ++ replicate (2 * n) 32 → new ≡ old ++ 32 ∷ 32 ∷ []
    → new ≡ fn ++ replicate (2 * m) 32
indent_more n m fn old new is so_far more =
    let twice : 2 * n + 2 ≡ 2 * m = omega arith in
    rw (more, so_far) (append_assoc fn (replicate (2 * n) 32) (32 ∷ 32 ∷ []) ∙ ap (λ l. fn ++ l) (replicate-append-replicate (2 * n) 2 32 ∙ ap (λ k. replicate k 32) twice))
