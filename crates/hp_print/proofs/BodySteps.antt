-- Bodies, part by part.
use Rattle.std.proofs.Common.{◌≡◌, refl, sym, ap, ◌∙◌, subst, arith, length, ◌≤◌, ℕ, zero, suc, true, false, List, [], ◌∷◌, map, Option, Some, None, option_map}
use Rattle.std.specs.Prelude.{IfSome, option_and_then}
use Rattle.serde_json.specs.Data.{Data}
use Rattle.hp_model.specs.Json.{list_of}
use Rattle.hp_model.specs.NotationTokens.{Mark, open_brace, close_brace}
use Rattle.hp_model.specs.NotationForms as F
use Rattle.hp_model.specs.NotationForms.{Body, empty}
use Rattle.hp_model.specs.NotationPrint.{Pieces, tight, space, line, sign, is_empty, body_after, body_pieces, statements_pieces}
use Rattle.hp_model.specs.NotationValues.{of_two, each_of, body_of, body_in, statement_of_form}
use Rattle.hp_print.specs.Written.{step}
use Rattle.hp_print.specs.Statements.{statement_within, statements_within}

-- ---- which body a value is

pub body_of_list : (n m : ℕ) (d : Data) (ds : List Data) → n ≡ suc m → list_of d ≡ Some ds → body_of n d ≡ option_map body_in (statements_within m ds)
unfolding body_of
body_of_list n m d ds is list = ap (λ k. body_of k d) is ∙ ap (λ o. option_map body_in (option_and_then (each_of (statement_within m)) o)) list

pub no_list : (n : ℕ) (d : Data) → list_of d ≡ None → body_of n d ≡ None
unfolding body_of
no_list zero d list = refl
no_list (suc n) d list = ap (λ o. option_map body_in (option_and_then (each_of (statement_within n)) o)) list

pub no_body : (d : Data) → body_of 0 d ≡ None
unfolding body_of
no_body d = refl

pub empty_body : (n : ℕ) (d : Data) → list_of d ≡ Some [] → body_of (suc n) d ≡ Some empty
empty_body n d list = body_of_list (suc n) n d [] refl list

first_statement : (x : Option F.Statement) (xs : Option (List F.Statement)) → IfSome (option_map body_in (of_two (λ y ys. y ∷ ys) x xs)) (λ b. false ≡ is_empty b)
first_statement None xs = tt
first_statement (Some x) None = tt
first_statement (Some x) (Some xs) = refl

pub some_body : (n : ℕ) (d first : Data) (others : List Data) → list_of d ≡ Some (first ∷ others) → IfSome (body_of n d) (λ b. false ≡ is_empty b)
some_body zero d first others list = subst (λ o. IfSome o (λ b. false ≡ is_empty b)) (sym (no_body d)) tt
some_body (suc n) d first others list =
    subst (λ o. IfSome o (λ b. false ≡ is_empty b)) (sym (body_of_list (suc n) n d (first ∷ others) refl list))
    (first_statement (statement_within n first) (each_of (statement_within n) others))

-- ---- braces

pub body_step : (depth : ℕ) (form : Option (List F.Statement)) (rest : Option Pieces)
    → step (λ b. body_pieces b depth) (option_map body_in form) rest ≡ step (λ ss. body_pieces (body_in ss) depth) form rest
body_step depth None rest = refl
body_step depth (Some ss) rest = refl

pub empty_step : (depth n : ℕ) (rest : Option Pieces)
    → step (λ ss. body_pieces (body_in ss) depth) (statements_within n []) rest ≡ option_map (sign space open_brace) (option_map (sign tight close_brace) rest)
empty_step depth n None = refl
empty_step depth n (Some k) = refl

braced : (depth : ℕ) (x : Option F.Statement) (xs : Option (List F.Statement)) (rest : Option Pieces)
    → step (λ ss. body_pieces (body_in ss) depth) (of_two (λ y ys. y ∷ ys) x xs) rest
    ≡ option_map (sign space open_brace) (step (λ ss. statements_pieces (body_in ss) (suc depth)) (of_two (λ y ys. y ∷ ys) x xs) (option_map (sign (line depth) close_brace) rest))
braced depth None xs rest = refl
braced depth (Some x) None rest = refl
braced depth (Some x) (Some xs) None = refl
braced depth (Some x) (Some xs) (Some k) = refl

pub braced_step : (depth inner n : ℕ) (ds : List Data) (rest : Option Pieces) → inner ≡ suc depth → (ds ≡ [] → ⊥)
    → step (λ ss. body_pieces (body_in ss) depth) (statements_within n ds) rest
    ≡ option_map (sign space open_brace) (step (λ ss. statements_pieces (body_in ss) inner) (statements_within n ds) (option_map (sign (line depth) close_brace) rest))
braced_step depth inner n [] rest is some = absurd (some refl)
braced_step depth inner n (d ∷ ds) rest is some =
    braced depth (statement_within n d) (each_of (statement_within n) ds) rest
    ∙ ap (λ i. option_map (sign space open_brace) (step (λ ss. statements_pieces (body_in ss) i) (statements_within n (d ∷ ds)) (option_map (sign (line depth) close_brace) rest))) (sym is)

-- ---- after a word

pub other_step : (m : Mark) (depth : ℕ) (form : Option Body) → IfSome form (λ b. false ≡ is_empty b) → (rest : Option Pieces)
    → step (λ b. body_after m (is_empty b) (body_pieces b depth)) form rest ≡ option_map (sign space m) (step (λ b. body_pieces b depth) form rest)
other_step m depth None is rest = refl
other_step m depth (Some b) is None = refl
other_step m depth (Some b) is (Some k) = ap (λ c. Some (body_after m c (body_pieces b depth) k)) (sym is)

pub nothing_step : (m : Mark) (depth : ℕ) (form : Option Body) → form ≡ Some empty → (rest : Option Pieces)
    → step (λ b. body_after m (is_empty b) (body_pieces b depth)) form rest ≡ rest
nothing_step m depth form is None = ap (λ o. step (λ b. body_after m (is_empty b) (body_pieces b depth)) o None) is
nothing_step m depth form is (Some k) = ap (λ o. step (λ b. body_after m (is_empty b) (body_pieces b depth)) o (Some k)) is

-- ---- whether a body is empty

pub empty_each : (n : ℕ) (d : Data) → list_of d ≡ Some [] → IfSome (body_of n d) (λ b. true ≡ is_empty b)
empty_each zero d list = subst (λ o. IfSome o (λ b. true ≡ is_empty b)) (sym (no_body d)) tt
empty_each (suc n) d list = subst (λ o. IfSome o (λ b. true ≡ is_empty b)) (sym (empty_body n d list)) refl

pub some_each : {V : Type 0} (f : V → Data) (n : ℕ) (d : Data) (vs : List V) → list_of d ≡ Some (map f vs) → 1 ≤ length vs → IfSome (body_of n d) (λ b. false ≡ is_empty b)
some_each f n d [] list least = absurd (omega (arith, least))
some_each f n d (v ∷ vs) list least = some_body n d (f v) (map f vs) list

pub no_each : (n : ℕ) (d : Data) → list_of d ≡ None → IfSome (body_of n d) (λ b. false ≡ is_empty b)
no_each n d list = subst (λ o. IfSome o (λ b. false ≡ is_empty b)) (sym (no_list n d list)) tt

pub zero_body : (n : ℕ) (d : Data) → n ≡ 0 → body_of n d ≡ None
zero_body n d is = ap (λ k. body_of k d) is ∙ no_body d

pub not_nil : {V : Type 0} (f : V → Data) (vs : List V) → (length vs ≡ 0 → ⊥) → map f vs ≡ [] → ⊥
not_nil f [] some is = some refl
not_nil f (v ∷ vs) some is = cc

pub five_parts : {V : Type 0} (f : V → Data) (inner : Data → Option Body) (word : List ℕ) (vs : List V) → 5 ≤ length vs → statement_of_form inner word (map f vs) ≡ None
five_parts f inner word [] least = absurd (omega (arith, least))
five_parts f inner word (a ∷ []) least = absurd (omega (arith, least))
five_parts f inner word (a ∷ b ∷ []) least = absurd (omega (arith, least))
five_parts f inner word (a ∷ b ∷ c ∷ []) least = absurd (omega (arith, least))
five_parts f inner word (a ∷ b ∷ c ∷ d ∷ []) least = absurd (omega (arith, least))
five_parts f inner word (a ∷ b ∷ c ∷ d ∷ e ∷ vs) least = refl
