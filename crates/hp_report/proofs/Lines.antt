-- Lines, word by word, and texts as `serde_json` quotes them.
use Rattle.std.proofs.Common.{◌≡◌, ℕ, List, [], ◌∷◌, ◌++◌, refl, ap, ◌∙◌, sym, append-nil, map, inl, inr, ◌⊎◌, drop, ◌+◌, Some, append_assoc, slice_get, replicate}
use Rattle.std.proofs.lemmas.List.{at_drop_more}
use Rattle.std.proofs.lemmas.Option.{slice_get_within, get_or_from_slice_get}
use Rattle.std.proofs.lemmas.List.Concat.{flat_map-append}
use Rattle.json.specs.Print.{escape_byte, quoted as json_quoted}
use Rattle.hp_model.specs.Report.{Bytes, row_words, quoted, words, line, value_text, rules_text}
use Rattle.hp_model.specs.Rules.{Rule}
use Rattle.hp_model.specs.State.{RuleState}
use Rattle.hp_model.specs.Values.{Name, Value, Row}
use Rattle.hp_report.specs.Text.{spaced}

pub quoted_lem : (s : List ℕ) → json_quoted s ≡ quoted s
unfolding escape_byte
quoted_lem s = refl

-- the words of a line: the first, and the others with their spaces
pub spaced_words : (w : Bytes) (ws : List Bytes) → words (w ∷ ws) ≡ w ++ spaced ws
spaced_words w [] = sym (append-nil w)
spaced_words w (v ∷ vs) = ap (λ (l : Bytes). w ++ 32 ∷ l) (spaced_words v vs)

-- no rule or no status is left: all lines are written
pub rules_text_end : {A B : Type 0} (f : A → Rule) (g : B → RuleState) (xs : List A) (ys : List B) (out all : Bytes)
    → (xs ≡ []) ⊎ (ys ≡ []) → out ++ rules_text (map f xs) (map g ys) ≡ all → out ≡ all
rules_text_end f g [] ys out all e h = sym (append-nil out) ∙ h
rules_text_end f g (x ∷ xs) [] out all e h = sym (append-nil out) ∙ h
rules_text_end f g (x ∷ xs) (y ∷ ys) out all (inl e) h = cc
rules_text_end f g (x ∷ xs) (y ∷ ys) out all (inr e) h = cc

-- the fields from the i-th on
fields_left : (row : Row) (i : ℕ) (x : Name × Value) → slice_get row i ≡ Some x
    → spaced (row_words (drop i row)) ≡ 32 ∷ (x.0 ++ 61 ∷ (value_text x.1 ++ spaced (row_words (drop (i + 1) row))))
fields_left row i x e =
    at_drop_more (λ r. spaced (row_words r)) row i x (slice_get_within row i x e)
    ∙ ap (λ y. spaced (row_words (y ∷ drop (i + 1) row))) (get_or_from_slice_get row i x x e)
    ∙ ap (λ (l : Bytes). 32 ∷ l) (append_assoc x.0 (61 ∷ value_text x.1) (spaced (row_words (drop (i + 1) row))))

-- one more field was written
pub field_put : (row : Row) (i : ℕ) (name : Name) (v : Value) (all before named done : Bytes)
    → Some (name, v) ≡ slice_get row i → before ++ spaced (row_words (drop i row)) ≡ all → named ≡ before ++ 32 ∷ (name ++ 61 ∷ []) → done ≡ named ++ value_text v
    → done ++ spaced (row_words (drop (i + 1) row)) ≡ all
field_put row i name v all before named done e h a b =
    let rest = spaced (row_words (drop (i + 1) row)) in
    let left = fields_left row i (name, v) (sym e) in
    let f : done ++ rest ≡ ((before ++ 32 ∷ (name ++ 61 ∷ [])) ++ value_text v) ++ rest = cc in
    let g : ((before ++ 32 ∷ (name ++ 61 ∷ [])) ++ value_text v) ++ rest ≡ before ++ 32 ∷ (name ++ 61 ∷ (value_text v ++ rest)) = simp append_assoc in
    f ∙ g ∙ ap (λ (l : Bytes). before ++ l) (sym left) ∙ h

pub spaced_both : (us vs : List Bytes) → spaced (us ++ vs) ≡ spaced us ++ spaced vs
spaced_both us vs = flat_map-append (λ (v : Bytes). 32 ∷ v) us vs

-- a line is its spaces, its words and the line feed
pub words_put : (indent : ℕ) (ws : List Bytes) (start first second done : Bytes)
    → first ≡ start ++ replicate indent 32 → second ≡ first ++ words ws → done ≡ second ++ 10 ∷ [] → done ≡ start ++ line indent ws
words_put indent ws start first second done a b c =
    let f : done ≡ ((start ++ replicate indent 32) ++ words ws) ++ 10 ∷ [] = cc in
    f ∙ simp append_assoc

-- its first word by itself, and the others with their spaces
pub word_put : (indent : ℕ) (w : Bytes) (ws : List Bytes) (start first second third done : Bytes)
    → first ≡ start ++ replicate indent 32 → second ≡ first ++ w → third ≡ second ++ spaced ws → done ≡ third ++ 10 ∷ [] → done ≡ start ++ line indent (w ∷ ws)
word_put indent w ws start first second third done a b c d =
    let e : third ≡ first ++ words (w ∷ ws) = c ∙ ap (λ (l : Bytes). l ++ spaced ws) b ∙ append_assoc first w (spaced ws) ∙ ap (λ (l : Bytes). first ++ l) (sym (spaced_words w ws)) in
    words_put indent (w ∷ ws) start first third done a e d

-- one word, and the others with their spaces
pub first_word_put : (w : Bytes) (ws : List Bytes) (start first done : Bytes)
    → first ≡ start ++ w → done ≡ first ++ spaced ws → done ≡ start ++ words (w ∷ ws)
first_word_put w ws start first done a b =
    let f : done ≡ (start ++ w) ++ spaced ws = cc in
    f ∙ append_assoc start w (spaced ws) ∙ ap (λ (l : Bytes). start ++ l) (sym (spaced_words w ws))

-- three words, and the others with their spaces
pub three_words_put : (w x y : Bytes) (ws : List Bytes) (start first done : Bytes)
    → first ≡ start ++ (w ++ 32 ∷ (x ++ 32 ∷ y)) → done ≡ first ++ spaced ws → done ≡ start ++ words (w ∷ x ∷ y ∷ ws)
three_words_put w x y ws start first done a b =
    let f : done ≡ (start ++ (w ++ 32 ∷ (x ++ 32 ∷ y))) ++ spaced ws = cc in
    let g : (start ++ (w ++ 32 ∷ (x ++ 32 ∷ y))) ++ spaced ws ≡ start ++ (w ++ 32 ∷ (x ++ 32 ∷ (y ++ spaced ws))) = simp append_assoc in
    f ∙ g ∙ ap (λ (l : Bytes). start ++ (w ++ 32 ∷ (x ++ 32 ∷ l))) (sym (spaced_words y ws))
