-- Canonical texts are read as what they were written of.
use Rattle.hp_model.specs.NotationForms.{Item, transaction, clock, item_data}
use Rattle.std.proofs.Common.{◌≡◌, refl, sym, ap, ◌∙◌, ℕ, zero, suc, List, [], ◌∷◌, map, Option, Some, None, option_map, Result, Ok, Bool, true, false, codes}
use Rattle.hp_model.specs.NotationTokens.{Token, Tokens, token, ending, unreadable, place, tokens}
use Rattle.hp_model.specs.NotationTree as T
use Rattle.hp_model.specs.NotationScripts.{script, item, ended, line, read_script, read_line}
use Rattle.hp_model.specs.NotationPhrases.{is_word, begins, past}
use Rattle.hp_model.specs.Values.{◌>>=◌}
use Rattle.hp_model.specs.NotationPrint.{Pieces, script_pieces, print_script, tight, item_pieces, line_of, print_item}
use Rattle.hp_model.specs.NotationLaws.{all_tokens, token_of, ScriptsAreRead, TextHasOneMeaning, AreSpelt, IsFitItem}
use Rattle.hp_model.proofs.NotationReadings.{bind_ok, stream}
use Rattle.hp_model.proofs.NotationScriptsRead.{item_read, script_read}
use Rattle.hp_model.proofs.NotationSpelt.{line_is_read, text_is_read, spelt_item, spelt_script}

-- tokens that are those of some pieces are their stream, at some offsets
pub streamed : (ts : Tokens) (ps : Pieces) → all_tokens ts ≡ Some (map token_of ps) → (o : ℕ → ℕ) × (ts ≡ stream o ps)
streamed (ending at) [] e = (λ _. at, refl)
streamed (ending at) (p ∷ ps) e = cc
streamed (unreadable at) ps e = cc
streamed (token at t ts) [] e = go (all_tokens ts) e
  where
    go : (m : Option (List Token)) → option_map (λ others. t ∷ others) m ≡ Some [] → (o : ℕ → ℕ) × (token at t ts ≡ stream o [])
    go None e = cc
    go (Some l) e = cc
streamed (token at t ts) (p ∷ ps) e = join (streamed ts ps (others (all_tokens ts) e)) (first (all_tokens ts) e)
  where
    others : (m : Option (List Token)) → option_map (λ others. t ∷ others) m ≡ Some (p.token ∷ map token_of ps) → m ≡ Some (map token_of ps)
    others None e = cc
    others (Some l) e = cc

    first : (m : Option (List Token)) → option_map (λ others. t ∷ others) m ≡ Some (p.token ∷ map token_of ps) → t ≡ p.token
    first None e = cc
    first (Some l) e = cc

    join : (o : ℕ → ℕ) × (ts ≡ stream o ps) → t ≡ p.token → (o : ℕ → ℕ) × (token at t ts ≡ stream o (p ∷ ps))
    join rest same =
        let o : ℕ → ℕ = λ i. elim i [ zero ↦ at | suc j ↦ rest.0 j ] in
        (o, λ i. token at (same i) (rest.1 i))

pub scripts_are_read : ScriptsAreRead
unfolding read_script print_script
scripts_are_read s w =
    let found = streamed (tokens (print_script s)) (script_pieces s) (text_is_read (script_pieces s) (spelt_script s w)) in
    let r = script_read s w found.0 in
    (r.read, ap script found.1 ∙ r.reads, r.same)

same_read : (r q : T.Script) (x : Result T.Script ℕ) → x ≡ Ok r → x ≡ Ok q → r ≡ q
same_read r q x e f = cc

pub text_has_one_meaning : TextHasOneMeaning
text_has_one_meaning s t v w e =
    let one = scripts_are_read s v in
    let two = scripts_are_read t w in
    sym one.2 ∙ ap T.script_data (same_read one.0 two.0 (read_script (print_script s)) one.1 (ap read_script e ∙ two.1)) ∙ two.2

-- ---- lines

spelt_line : (ps : Pieces) → AreSpelt ps → AreSpelt (line_of ps)
spelt_line [] s = s
spelt_line (p ∷ ps) s = (s.0, spelt_line ps s.1)

line_tokens : (ps : Pieces) → map token_of (line_of ps) ≡ map token_of ps
line_tokens [] = refl
line_tokens (p ∷ ps) = ap (λ l. p.token ∷ l) (line_tokens ps)

no_show : (i : Item) (o : ℕ → ℕ) → begins (is_word (codes "show")) (stream o (item_pieces i tight [])) ≡ false
no_show (transaction b) o = refl
no_show (clock t) o = refl

line_phrase : Tokens → Bool → Result T.Node ℕ
line_phrase ts is_show = elim is_show as (λ _. Result T.Node ℕ) [
  | true ↦ ended (past ts) >>= λ end. Ok (T.form (place ts) (codes "show") [])
  | false ↦ item ts >>= λ p. ended p.1 >>= λ end. Ok p.0
]

pub item_line_read : (i : Item) → IsFitItem i → (n : T.Node) × (read_line (print_item i) ≡ Ok n) × (T.data_of n ≡ item_data i)
unfolding read_line print_item line line_phrase
item_line_read i w =
    let ps = item_pieces i tight [] in
    let found = streamed (tokens (print_item i)) ps (line_is_read (line_of ps) (spelt_line ps (spelt_item i w tight [] tt)) ∙ ap Some (line_tokens ps)) in
    let r = item_read i w tight [] found.0 in
    (r.node, ap line found.1 ∙ ap (line_phrase (stream found.0 ps)) (no_show i found.0) ∙ bind_ok _ _ _ r.reads, r.same)
