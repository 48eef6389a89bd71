-- Lists, part by part.
use Rattle.std.proofs.Common.{◌≡◌, refl, sym, ap, ◌∙◌, arith, ℕ, zero, suc, ◌+◌, ◌<◌, ◌≤◌, List, [], ◌∷◌, length, map, drop, get_or, Option, Some, None, option_map}
use Rattle.std.proofs.lemmas.List.{drop_more}
use Rattle.serde_json.specs.Data.{Data}
use Rattle.hp_model.specs.NotationTokens.{comma, set_mark, open_parenthesis, close_parenthesis, close_brace}
use Rattle.hp_model.specs.NotationForms as F
use Rattle.hp_model.specs.NotationPrint.{tight, space, Pieces, sign, each_part, more_parts, expression_pieces, assignment_pieces, assignments_pieces, argument_pieces}
use Rattle.hp_model.specs.NotationPrint.{arguments_pieces, field_pieces, fields_pieces, class_pieces, later_class_pieces, classes_pieces, paragraph, statement_pieces}
use Rattle.hp_model.specs.NotationPrint.{statements_pieces}
use Rattle.hp_model.specs.Json.{list_of}
use Rattle.hp_model.specs.NotationValues.{of_two, each_of, list_form, assignment_of, any_expression, field_form, class_form, body_in}
use Rattle.hp_print.specs.declared.writer.Writer.{Writer}
use Rattle.hp_print.specs.Written.{Step, step, text_with, Writes}
use Rattle.hp_print.specs.Lists.{steps}

-- one more value is written
pub steps_more : {V : Type 0} (each : Data → Step) (view : V → Data) (vs : List V) (i : ℕ) (x : V) (old new : Writer) (all : Option Pieces → Option (List ℕ))
    → i < length vs → x ≡ get_or vs i x → Writes old new (each (view x))
    → ((rest : Option Pieces) → all rest ≡ text_with old (steps each (map view (drop i vs)) rest))
    → (rest : Option Pieces) → all rest ≡ text_with new (steps each (map view (drop (i + 1) vs)) rest)
steps_more each view vs i x old new all below there writes so_far rest =
    so_far rest ∙ ap (λ l. text_with old (steps each (map view l) rest)) (drop_more vs i x below ∙ ap (λ y. y ∷ drop (i + 1) vs) (sym there)) ∙ writes _

-- ---- lists of forms

one_more : {A : Type 0} (put : A → Pieces → Pieces) (x : Option A) (xs : Option (List A)) (rest : Option Pieces)
    → step put x (step (each_part put) xs rest) ≡ step (each_part put) (of_two (λ y ys. y ∷ ys) x xs) rest
one_more put None xs rest = refl
one_more put (Some x) None rest = refl
one_more put (Some x) (Some xs) None = refl
one_more put (Some x) (Some xs) (Some k) = refl

pub each_list : {A : Type 0} (put : A → Pieces → Pieces) (read : Data → Option A) (ds : List Data) (rest : Option Pieces)
    → steps (λ d. step put (read d)) ds rest ≡ step (each_part put) (each_of read ds) rest
each_list put read [] None = refl
each_list put read [] (Some k) = refl
each_list put read (d ∷ ds) rest = ap (step put (read d)) (each_list put read ds rest) ∙ one_more put (read d) (each_of read ds) rest

after_comma : {A : Type 0} (put : A → Pieces → Pieces) (x : Option A) (rest : Option Pieces)
    → option_map (sign tight comma) (step put x rest) ≡ step (λ y others. sign tight comma (put y others)) x rest
after_comma put None rest = refl
after_comma put (Some x) None = refl
after_comma put (Some x) (Some k) = refl

pub comma_list : {A : Type 0} (put : A → Pieces → Pieces) (read : Data → Option A) (ds : List Data) (rest : Option Pieces)
    → steps (λ d others. option_map (sign tight comma) (step put (read d) others)) ds rest ≡ step (more_parts put) (each_of read ds) rest
comma_list put read [] None = refl
comma_list put read [] (Some k) = refl
comma_list put read (d ∷ ds) rest =
    ap (λ r. option_map (sign tight comma) (step put (read d) r)) (comma_list put read ds rest) ∙ after_comma put (read d) _
    ∙ one_more (λ y others. sign tight comma (put y others)) (read d) (each_of read ds) rest

statement_more : (depth : ℕ) (x : Option F.Statement) (xs : Option (List F.Statement)) (rest : Option Pieces)
    → step (λ s. statement_pieces s depth) x (step (λ ss. statements_pieces (body_in ss) depth) xs rest)
    ≡ step (λ ss. statements_pieces (body_in ss) depth) (of_two (λ y ys. y ∷ ys) x xs) rest
statement_more depth None xs rest = refl
statement_more depth (Some x) None rest = refl
statement_more depth (Some x) (Some xs) None = refl
statement_more depth (Some x) (Some xs) (Some k) = refl

pub statement_list : (depth : ℕ) (read : Data → Option F.Statement) (ds : List Data) (rest : Option Pieces)
    → steps (λ d. step (λ s. statement_pieces s depth) (read d)) ds rest ≡ step (λ ss. statements_pieces (body_in ss) depth) (each_of read ds) rest
statement_list depth read [] None = refl
statement_list depth read [] (Some k) = refl
statement_list depth read (d ∷ ds) rest = ap (step (λ s. statement_pieces s depth) (read d)) (statement_list depth read ds rest) ∙ statement_more depth (read d) (each_of read ds) rest

-- what each value writes, said otherwise
steps_same : (each other : Data → Step) → ((d : Data) (r : Option Pieces) → each d r ≡ other d r) → (ds : List Data) (rest : Option Pieces) → steps each ds rest ≡ steps other ds rest
steps_same each other same [] rest = refl
steps_same each other same (d ∷ ds) rest = same d (steps each ds rest) ∙ ap (other d) (steps_same each other same ds rest)

-- ---- what stands before the first part

assigned : (x : Option F.Assignment) (xs : Option (List F.Assignment)) (rest : Option Pieces)
    → step assignments_pieces (of_two (λ y ys. y ∷ ys) x xs) rest ≡ option_map (sign space set_mark) (step assignment_pieces x (step (more_parts assignment_pieces) xs rest))
assigned None xs rest = refl
assigned (Some x) None rest = refl
assigned (Some x) (Some xs) None = refl
assigned (Some x) (Some xs) (Some k) = refl

pub assignments_step : (each : Data → Step) → ((e : Data) (r : Option Pieces) → each e r ≡ option_map (sign tight comma) (step assignment_pieces (assignment_of e) r))
    → (d first : Data) (others : List Data) → list_of d ≡ Some (first ∷ others) → (rest : Option Pieces)
    → step assignments_pieces (list_form assignment_of d) rest
    ≡ option_map (sign space set_mark) (step assignment_pieces (assignment_of first) (steps each others rest))
assignments_step each same d first others is rest =
    rw (is, steps_same each (λ e r. option_map (sign tight comma) (step assignment_pieces (assignment_of e) r)) same others rest, comma_list assignment_pieces assignment_of others rest)
    (assigned (assignment_of first) (each_of assignment_of others) rest)

argued : (x : Option F.Expression) (xs : Option (List F.Expression)) (rest : Option Pieces)
    → step arguments_pieces (of_two (λ y ys. y ∷ ys) x xs) rest
    ≡ option_map (sign tight open_parenthesis) (step (λ e. expression_pieces e tight) x (step (more_parts argument_pieces) xs (option_map (sign tight close_parenthesis) rest)))
argued None xs rest = refl
argued (Some x) None rest = refl
argued (Some x) (Some xs) None = refl
argued (Some x) (Some xs) (Some k) = refl

pub arguments_step : (each : Data → Step) → ((e : Data) (r : Option Pieces) → each e r ≡ option_map (sign tight comma) (step argument_pieces (any_expression e) r))
    → (d first : Data) (others : List Data) → list_of d ≡ Some (first ∷ others) → (rest : Option Pieces)
    → step arguments_pieces (list_form any_expression d) rest
    ≡ option_map (sign tight open_parenthesis) (step (λ e. expression_pieces e tight) (any_expression first)
    (steps each others (option_map (sign tight close_parenthesis) rest)))
arguments_step each same d first others is rest =
    rw (
      is,
      steps_same each (λ e r. option_map (sign tight comma) (step argument_pieces (any_expression e) r)) same others (option_map (sign tight close_parenthesis) rest),
      comma_list argument_pieces any_expression others (option_map (sign tight close_parenthesis) rest),
    ) (argued (any_expression first) (each_of any_expression others) rest)

fielded : (x : Option F.Field) (xs : Option (List F.Field)) (rest : Option Pieces)
    → step fields_pieces (of_two (λ y ys. y ∷ ys) x xs) rest ≡ step field_pieces x (step (more_parts field_pieces) xs (option_map (sign space close_brace) rest))
fielded None xs rest = refl
fielded (Some x) None rest = refl
fielded (Some x) (Some xs) None = refl
fielded (Some x) (Some xs) (Some k) = refl

pub fields_step : (each : Data → Step) → ((e : Data) (r : Option Pieces) → each e r ≡ option_map (sign tight comma) (step field_pieces (field_form e) r))
    → (d first : Data) (others : List Data) → list_of d ≡ Some (first ∷ others) → (rest : Option Pieces)
    → step fields_pieces (list_form field_form d) rest
    ≡ step field_pieces (field_form first) (steps each others (option_map (sign space close_brace) rest))
fields_step each same d first others is rest =
    rw (
      is,
      steps_same each (λ e r. option_map (sign tight comma) (step field_pieces (field_form e) r)) same others (option_map (sign space close_brace) rest),
      comma_list field_pieces field_form others (option_map (sign space close_brace) rest),
    ) (fielded (field_form first) (each_of field_form others) rest)

classed : (x : Option F.Class) (xs : Option (List F.Class)) (rest : Option Pieces)
    → step classes_pieces (of_two (λ y ys. y ∷ ys) x xs) rest ≡ step (λ c. class_pieces c paragraph) x (step (each_part later_class_pieces) xs rest)
classed None xs rest = refl
classed (Some x) None rest = refl
classed (Some x) (Some xs) None = refl
classed (Some x) (Some xs) (Some k) = refl

pub classes_step : (each : Data → Step) → ((e : Data) (r : Option Pieces) → each e r ≡ step later_class_pieces (class_form e) r) → (d first : Data) (others : List Data)
    → list_of d ≡ Some (first ∷ others) → (rest : Option Pieces)
    → step classes_pieces (list_form class_form d) rest ≡ step (λ c. class_pieces c paragraph) (class_form first) (steps each others rest)
classes_step each same d first others is rest =
    rw (is, steps_same each (λ e. step later_class_pieces (class_form e)) same others rest, each_list later_class_pieces class_form others rest)
    (classed (class_form first) (each_of class_form others) rest)

drop_none : {V : Type 0} (vs : List V) (i : ℕ) → length vs ≤ i → drop i vs ≡ []
drop_none [] zero below = refl
drop_none [] (suc i) below = refl
drop_none (v ∷ vs) zero below = absurd (omega (arith, below))
drop_none (v ∷ vs) (suc i) below = drop_none vs i (omega (arith, below))

-- no value is left
pub steps_none : {V : Type 0} (each : Data → Step) (view : V → Data) (vs : List V) (i : ℕ) → length vs ≤ i → (rest : Option Pieces) → steps each (map view (drop i vs)) rest ≡ rest
steps_none each view vs i below rest = ap (λ l. steps each (map view l) rest) (drop_none vs i below)
