-- Which aggregate a value is.
use Rattle.std.proofs.Common.{◌≡◌, refl, ap, ◌∙◌, ℕ, Bool, true, false, List, [], ◌∷◌, length, map, arith, codes, Option, Some, None, option_map}
use Rattle.std.specs.Prelude.{option_and_then, bytes_eq, if◌then◌else◌}
use Rattle.std.specs.Option.{option_or}
use Rattle.serde_json.specs.Data.{Data}
use Rattle.serde_json.specs.Find.{as_str}
use Rattle.hp_model.specs.Json.{Form, form_of}
use Rattle.hp_model.specs.Parts.{name_of}
use Rattle.hp_model.specs.NotationForms as F
use Rattle.hp_model.specs.NotationValues.{of_one, of_two, expression_of, expression_of_form, any_expression, rows_of, fold_named, aggregate_of_form, aggregate_of, query_of_list}
use Rattle.hp_model.specs.NotationValues.{query_unless_let, is_let_form}
use Rattle.hp_print.specs.Rows.{query_in, no_rows_of}
use Rattle.hp_print.proofs.Levels.{or_none}
use Rattle.hp_print.proofs.Readings.{expression_in_form}

-- ---- aggregates

abbrev pub form : List ℕ → List Data → Form
form word parts = record { word = word; parts = parts }

formed : (d : Data) (f : Form) → form_of d ≡ Some f → aggregate_of d ≡ option_or (aggregate_of_form f.word f.parts) (of_one F.plain (any_expression d))
formed d f is = ap (λ o. option_or (option_and_then (λ (g : Form). aggregate_of_form g.word g.parts) o) (of_one F.plain (any_expression d))) is

pub plain_value : (d : Data) → form_of d ≡ None → aggregate_of d ≡ of_one F.plain (any_expression d)
plain_value d is = ap (λ o. option_or (option_and_then (λ (g : Form). aggregate_of_form g.word g.parts) o) (of_one F.plain (any_expression d))) is

pub plain_form : (d : Data) (f : Form) → form_of d ≡ Some f → aggregate_of_form f.word f.parts ≡ None → aggregate_of d ≡ of_one F.plain (any_expression d)
plain_form d f is none = formed d f is ∙ ap (λ o. option_or o (of_one F.plain (any_expression d))) none

pub next_form : (d a : Data) (word : List ℕ) → form_of d ≡ Some (form word (a ∷ [])) → word ≡ codes "next" → aggregate_of d ≡ of_one F.next_key (name_of a)
next_form d a word is next =
    let none : any_expression d ≡ None = expression_in_form 32 31 d (form word (a ∷ [])) refl is ∙ ap (λ w. expression_of_form (expression_of 31) w (a ∷ [])) next in
    formed d (form word (a ∷ [])) is ∙ ap (λ w. option_or (aggregate_of_form w (a ∷ [])) (of_one F.plain (any_expression d))) next
    ∙ or_none (of_one F.next_key (name_of a)) _ (ap (of_one F.plain) none)

pub count_form : (d x c e : Data) (word : List ℕ) → form_of d ≡ Some (form word (x ∷ c ∷ e ∷ [])) → word ≡ codes "count" → aggregate_of d ≡ of_one F.count_of (rows_of x c e)
count_form d x c e word is count =
    let none : any_expression d ≡ None = expression_in_form 32 31 d (form word (x ∷ c ∷ e ∷ [])) refl is in
    formed d (form word (x ∷ c ∷ e ∷ [])) is ∙ ap (λ w. option_or (aggregate_of_form w (x ∷ c ∷ e ∷ [])) (of_one F.plain (any_expression d))) count
    ∙ or_none (of_one F.count_of (rows_of x c e)) _ (ap (of_one F.plain) none)

pub fold_form : (d x c e v : Data) (word : List ℕ) → form_of d ≡ Some (form word (x ∷ c ∷ e ∷ v ∷ []))
    → aggregate_of d ≡ option_and_then (λ f. of_two (F.fold_of f) (rows_of x c e) (any_expression v)) (fold_named word)
fold_form d x c e v word is =
    let none : any_expression d ≡ None = expression_in_form 32 31 d (form word (x ∷ c ∷ e ∷ v ∷ [])) refl is in
    formed d (form word (x ∷ c ∷ e ∷ v ∷ [])) is
    ∙ or_none (option_and_then (λ f. of_two (F.fold_of f) (rows_of x c e) (any_expression v)) (fold_named word)) _ (ap (of_one F.plain) none)

-- ---- queries

pub no_word : (lets : Bool) (a : Data) (ds : List Data) → as_str a ≡ None → query_in lets (a ∷ ds) ≡ None
no_word lets a ds is = ap (λ o. option_and_then (query_of_list lets (a ∷ ds)) (option_map (λ word. form word ds) o)) is

pub some_query : (lets : Bool) (a b c : Data) (word : List ℕ) → as_str a ≡ Some word → (lets ≡ true → bytes_eq word (codes "let") ≡ false)
    → query_in lets (a ∷ b ∷ c ∷ []) ≡ of_one F.some_rows (rows_of a b c)
some_query lets a b c word is apart = ap (λ o. option_and_then (query_of_list lets (a ∷ b ∷ c ∷ [])) (option_map (λ w. form w (b ∷ c ∷ [])) o)) is ∙ go lets apart
  where
    go : (l : Bool) → (l ≡ true → bytes_eq word (codes "let") ≡ false) → query_of_list l (a ∷ b ∷ c ∷ []) (form word (b ∷ c ∷ [])) ≡ of_one F.some_rows (rows_of a b c)
    go false other = refl
    go true other = rw (other refl) refl

pub let_query : (a b c : Data) (word : List ℕ) → as_str a ≡ Some word → word ≡ codes "let" → query_in true (a ∷ b ∷ c ∷ []) ≡ of_two F.named_value (name_of b) (aggregate_of c)
let_query a b c word is let_is =
    ap (λ o. option_and_then (query_of_list true (a ∷ b ∷ c ∷ [])) (option_map (λ w. form w (b ∷ c ∷ [])) o)) (is ∙ ap Some let_is)

-- ---- queries of other lengths

unless : (b : Bool) (q : Option F.Query) → query_unless_let b q None ≡ q
unless true q = refl
unless false None = refl
unless false (Some x) = refl

pub query_of_four : (lets : Bool) (a x c e : Data) → query_in lets (a ∷ x ∷ c ∷ e ∷ []) ≡ no_rows_of (as_str a) (rows_of x c e)
query_of_four lets a x c e = go lets (as_str a)
  where
    go : (l : Bool) (o : Option (List ℕ)) → option_and_then (query_of_list l (a ∷ x ∷ c ∷ e ∷ [])) (option_map (λ w. form w (x ∷ c ∷ e ∷ [])) o) ≡ no_rows_of o (rows_of x c e)
    go l None = refl
    go true (Some w) = unless (is_let_form true (form w (x ∷ c ∷ e ∷ []))) (if bytes_eq w (codes "no") then of_one F.no_rows (rows_of x c e) else None)
    go false (Some w) = unless false (if bytes_eq w (codes "no") then of_one F.no_rows (rows_of x c e) else None)

few : (lets : Bool) (a : Data) (ds : List Data) → ((l : Bool) (w : List ℕ) → query_of_list l (a ∷ ds) (form w ds) ≡ None) → query_in lets (a ∷ ds) ≡ None
few lets a ds none = go (as_str a)
  where
    go : (o : Option (List ℕ)) → option_and_then (query_of_list lets (a ∷ ds)) (option_map (λ w. form w ds) o) ≡ None
    go None = refl
    go (Some w) = none lets w

pub no_items_query : {V : Type 0} (f : V → Data) (lets : Bool) (vs : List V) → (length vs ≡ 3 → ⊥) → (length vs ≡ 4 → ⊥) → query_in lets (map f vs) ≡ None
no_items_query f lets [] three four = refl
no_items_query f lets (a ∷ []) three four = few lets (f a) [] go
  where
    go : (l : Bool) (w : List ℕ) → query_of_list l (f a ∷ []) (form w []) ≡ None
    go true w = unless (is_let_form true (form w [])) None
    go false w = refl
no_items_query f lets (a ∷ b ∷ []) three four = few lets (f a) (f b ∷ []) go
  where
    go : (l : Bool) (w : List ℕ) → query_of_list l (f a ∷ f b ∷ []) (form w (f b ∷ [])) ≡ None
    go true w = unless (is_let_form true (form w (f b ∷ []))) None
    go false w = refl
no_items_query f lets (a ∷ b ∷ c ∷ []) three four = absurd (three refl)
no_items_query f lets (a ∷ b ∷ c ∷ d ∷ []) three four = absurd (four refl)
no_items_query f lets (a ∷ b ∷ c ∷ d ∷ e ∷ vs) three four = few lets (f a) (f b ∷ f c ∷ f d ∷ f e ∷ map f vs) go
  where
    go : (l : Bool) (w : List ℕ) → query_of_list l (f a ∷ f b ∷ f c ∷ f d ∷ f e ∷ map f vs) (form w (f b ∷ f c ∷ f d ∷ f e ∷ map f vs)) ≡ None
    go true w = unless (is_let_form true (form w (f b ∷ f c ∷ f d ∷ f e ∷ map f vs))) None
    go false w = refl

-- ---- forms that are no aggregates of rows

pub one_other : {V : Type 0} (f : V → Data) (word : List ℕ) (vs : List V) → length vs ≡ 1 → bytes_eq word (codes "next") ≡ false → aggregate_of_form word (map f vs) ≡ None
one_other f word [] one other = absurd (omega (arith, one))
one_other f word (a ∷ []) one other = ap (λ b. if b then of_one F.next_key (name_of (f a)) else None) other
one_other f word (a ∷ b ∷ vs) one other = absurd (omega (arith, one))

pub three_other : {V : Type 0} (f : V → Data) (word : List ℕ) (vs : List V) → length vs ≡ 3 → bytes_eq word (codes "count") ≡ false → aggregate_of_form word (map f vs) ≡ None
three_other f word [] three other = absurd (omega (arith, three))
three_other f word (a ∷ []) three other = absurd (omega (arith, three))
three_other f word (a ∷ b ∷ []) three other = absurd (omega (arith, three))
three_other f word (a ∷ b ∷ c ∷ []) three other = ap (λ t. if t then of_one F.count_of (rows_of (f a) (f b) (f c)) else None) other
three_other f word (a ∷ b ∷ c ∷ d ∷ vs) three other = absurd (omega (arith, three))

pub more_other : {V : Type 0} (f : V → Data) (word : List ℕ) (vs : List V) → (length vs ≡ 1 → ⊥) → (length vs ≡ 3 → ⊥) → (length vs ≡ 4 → ⊥) → aggregate_of_form word (map f vs) ≡ None
more_other f word [] one three four = refl
more_other f word (a ∷ []) one three four = absurd (one refl)
more_other f word (a ∷ b ∷ []) one three four = refl
more_other f word (a ∷ b ∷ c ∷ []) one three four = absurd (three refl)
more_other f word (a ∷ b ∷ c ∷ d ∷ []) one three four = absurd (four refl)
more_other f word (a ∷ b ∷ c ∷ d ∷ e ∷ vs) one three four = refl
