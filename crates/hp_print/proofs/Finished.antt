-- The whole text: from a writer of nothing to what it has written.
use Rattle.std.proofs.Common.{◌≡◌, refl, sym, ap, ◌∙◌, ℕ, Bool, true, false, List, [], ◌∷◌, ◌++◌, append-nil, Option, Some, None, option_map}
use Rattle.hp_model.specs.NotationTokens.{Token}
use Rattle.hp_model.specs.NotationForms as F
use Rattle.hp_model.specs.NotationPrint as P
use Rattle.hp_model.specs.NotationPrint.{Gap, tight, Pieces, gap_text, token_text, would_join, gap_after, text_after, text_of, line_of, script_pieces, print_script, item_pieces, print_item}
use Rattle.hp_print.specs.declared.token.Last.{Last}
use Rattle.hp_print.specs.Written.{nothing, last_of, text_by, step, whole}
use Rattle.hp_print.specs.Rules.{script_before}

abbrev last_before : Option Token → Last
last_before None = nothing
last_before (Some t) = last_of t

text_is : (before : Option Token) (ps : Pieces) → text_by false (last_before before) ps ≡ text_after before ps
text_is before [] = refl
text_is None (p ∷ ps) = ap (λ l. gap_text p.gap ++ (token_text p.token ++ l)) (text_is (Some p.token) ps)
text_is (Some t) (p ∷ ps) = ap (λ l. gap_text (gap_after (Some t) p.token p.gap) ++ (token_text p.token ++ l)) (text_is (Some p.token) ps)

line_is : (before : Option Token) (ps : Pieces) → text_by true (last_before before) ps ≡ text_after before (line_of ps)
line_is before [] = refl
line_is None (p ∷ ps) = ap (λ l. gap_text (P.on_one_line p.gap) ++ (token_text p.token ++ l)) (line_is (Some p.token) ps)
line_is (Some t) (p ∷ ps) = ap (λ l. gap_text (gap_after (Some t) p.token (P.on_one_line p.gap)) ++ (token_text p.token ++ l)) (line_is (Some p.token) ps)

-- what was written, if all had forms
from_nothing : {A : Type 0} (line : Bool) (put : A → Pieces → Pieces) (form : Option A) (text : List ℕ) (line1 : Bool) (last1 : Last)
    → whole false [] line nothing (step put form (Some [])) ≡ whole false text line1 last1 (Some [])
    → option_map (λ x. text_by line nothing (put x [])) form ≡ Some text
from_nothing line put None text line1 last1 written = cc
from_nothing line put (Some x) text line1 last1 written = written ∙ ap Some (append-nil text)

refused_form : {A : Type 0} (line : Bool) (put : A → Pieces → Pieces) (form : Option A) (text : List ℕ) (line1 : Bool) (last1 : Last)
    → whole false [] line nothing (step put form (Some [])) ≡ whole true text line1 last1 (Some []) → form ≡ None
refused_form line put None text line1 last1 written = refl
refused_form line put (Some x) text line1 last1 written = cc

-- ---- scripts and items

script_text : (form : Option F.Script) (text : List ℕ) → option_map (λ s. text_by false nothing (script_before s [])) form ≡ Some text → option_map print_script form ≡ Some (text ++ 10 ∷ [])
unfolding print_script text_of
script_text None text is = cc
script_text (Some s) text is =
    let same : text_by false nothing (script_before s []) ≡ text = cc in
    ap (λ t. Some (t ++ 10 ∷ [])) (sym (text_is None (script_pieces s)) ∙ same)

item_text : (form : Option F.Item) (text : List ℕ) → option_map (λ i. text_by true nothing (item_pieces i tight [])) form ≡ Some text → option_map print_item form ≡ Some text
unfolding print_item text_of
item_text None text is = cc
item_text (Some i) text is =
    let same : text_by true nothing (item_pieces i tight []) ≡ text = cc in
    ap Some (sym (line_is None (item_pieces i tight [])) ∙ same)

-- from a new writer's fields to those that it has in the end
pub script_printed : (r0 l0 : Bool) (t0 : List ℕ) (last0 : Last) (r1 l1 : Bool) (t1 : List ℕ) (last1 : Last) (form : Option F.Script) (text : List ℕ)
    → r0 ≡ false → t0 ≡ [] → l0 ≡ false → last0 ≡ nothing → r1 ≡ false → text ≡ t1 ++ 10 ∷ []
    → whole r0 t0 l0 last0 (step script_before form (Some [])) ≡ whole r1 t1 l1 last1 (Some [])
    → option_map print_script form ≡ Some text
script_printed r0 l0 t0 last0 r1 l1 t1 last1 form text r t l last after more written =
    script_text form t1 (from_nothing false script_before form t1 l1 last1 (rw (r, t, l, last, after) at written)) ∙ ap Some (sym more)

pub script_refused : (r0 l0 : Bool) (t0 : List ℕ) (last0 : Last) (r1 l1 : Bool) (t1 : List ℕ) (last1 : Last) (form : Option F.Script)
    → r0 ≡ false → t0 ≡ [] → l0 ≡ false → last0 ≡ nothing → r1 ≡ true
    → whole r0 t0 l0 last0 (step script_before form (Some [])) ≡ whole r1 t1 l1 last1 (Some [])
    → option_map print_script form ≡ None
script_refused r0 l0 t0 last0 r1 l1 t1 last1 form r t l last after written =
    ap (option_map print_script) (refused_form false script_before form t1 l1 last1 (rw (r, t, l, last, after) at written))

pub item_printed : (r0 l0 : Bool) (t0 : List ℕ) (last0 : Last) (r1 l1 : Bool) (t1 : List ℕ) (last1 : Last) (form : Option F.Item)
    → r0 ≡ false → t0 ≡ [] → l0 ≡ true → last0 ≡ nothing → r1 ≡ false
    → whole r0 t0 l0 last0 (step (λ i. item_pieces i tight) form (Some [])) ≡ whole r1 t1 l1 last1 (Some [])
    → option_map print_item form ≡ Some t1
item_printed r0 l0 t0 last0 r1 l1 t1 last1 form r t l last after written =
    item_text form t1 (from_nothing true (λ i. item_pieces i tight) form t1 l1 last1 (rw (r, t, l, last, after) at written))

pub item_refused : (r0 l0 : Bool) (t0 : List ℕ) (last0 : Last) (r1 l1 : Bool) (t1 : List ℕ) (last1 : Last) (form : Option F.Item)
    → r0 ≡ false → t0 ≡ [] → l0 ≡ true → last0 ≡ nothing → r1 ≡ true
    → whole r0 t0 l0 last0 (step (λ i. item_pieces i tight) form (Some [])) ≡ whole r1 t1 l1 last1 (Some [])
    → option_map print_item form ≡ None
item_refused r0 l0 t0 last0 r1 l1 t1 last1 form r t l last after written =
    ap (option_map print_item) (refused_form true (λ i. item_pieces i tight) form t1 l1 last1 (rw (r, t, l, last, after) at written))
