-- Rows, aggregates and queries, part by part.
use Rattle.std.proofs.Common.{◌≡◌, refl, sym, ap, ◌∙◌, ℕ, List, Option, Some, None, option_map, codes}
use Rattle.hp_model.specs.Values.{Name}
use Rattle.hp_model.specs.NotationTokens.{equal_sign}
use Rattle.hp_model.specs.NotationForms as F
use Rattle.hp_model.specs.NotationForms.{Rows, fold_word}
use Rattle.hp_model.specs.NotationPrint.{space, Pieces, at_gap, sign, free, name, value_token, expression_pieces, predicate_pieces, rows_pieces, begins_aggregate, apart_from}
use Rattle.hp_model.specs.NotationPrint.{aggregate_pieces, binding_pieces, query_pieces}
use Rattle.hp_model.specs.NotationValues.{of_one, of_two, of_three}
use Rattle.hp_print.specs.Written.{step}

pub rows_step : (x : Option Name) (c : Option Name) (e : Option F.Expression) (rest : Option Pieces)
    → step rows_pieces (of_three (λ a b p. record { name = a; class = b; predicate = p }) x c e) rest ≡ step (name space) c (step (name space) x (step (predicate_pieces) e rest))
rows_step None None None rest = refl
rows_step None None (Some e) rest = refl
rows_step None (Some c) None rest = refl
rows_step None (Some c) (Some e) rest = refl
rows_step (Some x) None None rest = refl
rows_step (Some x) None (Some e) rest = refl
rows_step (Some x) (Some c) None rest = refl
rows_step (Some x) (Some c) (Some e) None = refl
rows_step (Some x) (Some c) (Some e) (Some k) = refl

fold_plain : (f : F.Fold) (r : Option Rows) (e : Option F.Expression) (rest : Option Pieces)
    → step aggregate_pieces (of_two (F.fold_of f) r e) rest
    ≡ option_map (free space (fold_word f)) (step (λ v. expression_pieces v space) e (option_map (free space (codes "over")) (step rows_pieces r rest)))
fold_plain f None None rest = refl
fold_plain f None (Some e) rest = refl
fold_plain f (Some r) None rest = refl
fold_plain f (Some r) (Some e) None = refl
fold_plain f (Some r) (Some e) (Some k) = refl

pub fold_step : (f : F.Fold) (word : List ℕ) → word ≡ fold_word f → (r : Option Rows) (e : Option F.Expression) (rest : Option Pieces)
    → step aggregate_pieces (of_two (F.fold_of f) r e) rest
    ≡ option_map (free space word) (step (λ v. expression_pieces v space) e (option_map (free space (codes "over")) (step rows_pieces r rest)))
fold_step f word is r e rest =
    fold_plain f r e rest ∙ ap (λ w. option_map (free space w) (step (λ v. expression_pieces v space) e (option_map (free space (codes "over")) (step rows_pieces r rest)))) (sym is)

pub count_step : (r : Option Rows) (rest : Option Pieces)
    → step aggregate_pieces (of_one F.count_of r) rest ≡ option_map (free space (codes "count")) (step (rows_pieces) r rest)
count_step None rest = refl
count_step (Some r) None = refl
count_step (Some r) (Some k) = refl

pub next_step : (c : Option Name) (rest : Option Pieces)
    → step aggregate_pieces (of_one F.next_key c) rest ≡ option_map (free space (codes "next")) (step (name space) c rest)
next_step None rest = refl
next_step (Some c) None = refl
next_step (Some c) (Some k) = refl

pub plain_step : (e : Option F.Expression) (rest : Option Pieces)
    → step aggregate_pieces (of_one F.plain e) rest ≡ step (λ v. apart_from begins_aggregate v space) e rest
plain_step None rest = refl
plain_step (Some e) None = refl
plain_step (Some e) (Some k) = refl

pub binding_step : (x : Option Name) (a : Option F.Aggregate) (rest : Option Pieces)
    → of_three binding_pieces x a rest ≡ step (λ n. at_gap space (value_token n)) x (option_map (sign space equal_sign) (step (aggregate_pieces) a rest))
binding_step None None rest = refl
binding_step None (Some a) rest = refl
binding_step (Some x) None rest = refl
binding_step (Some x) (Some a) None = refl
binding_step (Some x) (Some a) (Some k) = refl

pub some_step : (r : Option Rows) (rest : Option Pieces)
    → step query_pieces (of_one F.some_rows r) rest ≡ option_map (free space (codes "some")) (step (rows_pieces) r rest)
some_step None rest = refl
some_step (Some r) None = refl
some_step (Some r) (Some k) = refl

pub no_step : (r : Option Rows) (rest : Option Pieces)
    → step query_pieces (of_one F.no_rows r) rest ≡ option_map (free space (codes "no")) (step (rows_pieces) r rest)
no_step None rest = refl
no_step (Some r) None = refl
no_step (Some r) (Some k) = refl

pub named_step : (x : Option Name) (a : Option F.Aggregate) (rest : Option Pieces)
    → step query_pieces (of_two F.named_value x a) rest ≡ option_map (free space (codes "let")) (of_three binding_pieces x a rest)
named_step None None rest = refl
named_step None (Some a) rest = refl
named_step (Some x) None rest = refl
named_step (Some x) (Some a) None = refl
named_step (Some x) (Some a) (Some k) = refl
