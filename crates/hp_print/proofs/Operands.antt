-- Expressions without operands, part by part.
use Rattle.std.proofs.Common.{◌≡◌, refl, sym, ap, ◌∙◌, ℕ, Option, Some, None, option_map, codes}
use Rattle.hp_model.specs.Values.{Name}
use Rattle.hp_model.specs.NotationTokens.{Mark, point, key_mark, event_mark, open_parenthesis, close_parenthesis}
use Rattle.hp_model.specs.NotationForms as F
use Rattle.hp_model.specs.NotationPrint.{Gap, tight, Pieces, at_gap, value_token, sign, free, name, natural, part_pieces, image_mark, expression_pieces}
use Rattle.hp_model.specs.NotationValues.{of_one, of_two}
use Rattle.hp_print.specs.Written.{step}

pub field_of_step : (gap : Gap) (x : Option Name) (f : Option Name) (rest : Option Pieces)
    → step (λ e. expression_pieces e gap) (of_two F.field_of x f) rest ≡ step (name gap) x (option_map (sign tight point) (step (name tight) f rest))
field_of_step gap None None rest = refl
field_of_step gap None (Some f) rest = refl
field_of_step gap (Some x) None rest = refl
field_of_step gap (Some x) (Some f) None = refl
field_of_step gap (Some x) (Some f) (Some k) = refl

pub key_of_step : (gap : Gap) (x : Option Name) (rest : Option Pieces)
    → step (λ e. expression_pieces e gap) (of_one F.key_of x) rest ≡ step (name gap) x (option_map (sign tight point) (option_map (sign tight key_mark) rest))
key_of_step gap None rest = refl
key_of_step gap (Some x) None = refl
key_of_step gap (Some x) (Some k) = refl

image_field_plain : (gap : Gap) (image : F.Image) (i : Option ℕ) (f : Option Name) (rest : Option Pieces)
    → step (λ e. expression_pieces e gap) (of_two (F.image_field image) i f) rest ≡ option_map (sign gap (image_mark image))
    (step (part_pieces) i (option_map (sign tight point) (step (name tight) f rest)))
image_field_plain gap image None None rest = refl
image_field_plain gap image None (Some f) rest = refl
image_field_plain gap image (Some i) None rest = refl
image_field_plain gap image (Some i) (Some f) None = refl
image_field_plain gap image (Some i) (Some f) (Some k) = refl

pub image_field_step : (gap : Gap) (image : F.Image) (m : Mark) → m ≡ image_mark image → (i : Option ℕ) (f : Option Name) (rest : Option Pieces)
    → step (λ e. expression_pieces e gap) (of_two (F.image_field image) i f) rest ≡ option_map (sign gap m) (step (part_pieces) i (option_map (sign tight point) (step (name tight) f rest)))
image_field_step gap image m is i f rest = image_field_plain gap image i f rest
    ∙ ap (λ n. option_map (sign gap n) (step (part_pieces) i (option_map (sign tight point) (step (name tight) f rest)))) (sym is)

pub key_in_step : (gap : Gap) (i : Option ℕ) (rest : Option Pieces)
    → step (λ e. expression_pieces e gap) (of_one F.key_in i) rest ≡ option_map (sign gap event_mark) (step (part_pieces) i (option_map (sign tight point) (option_map (sign tight key_mark) rest)))
key_in_step gap None rest = refl
key_in_step gap (Some i) None = refl
key_in_step gap (Some i) (Some k) = refl

pub time_of_step : (gap : Gap) (i : Option ℕ) (rest : Option Pieces)
    → step (λ e. expression_pieces e gap) (of_one F.time_of i) rest ≡ option_map (sign gap event_mark)
    (step (part_pieces) i (option_map (sign tight point) (option_map (free tight (codes "time")) rest)))
time_of_step gap None rest = refl
time_of_step gap (Some i) None = refl
time_of_step gap (Some i) (Some k) = refl

pub argument_step : (gap : Gap) (i : Option ℕ) (j : Option ℕ) (rest : Option Pieces)
    → step (λ e. expression_pieces e gap) (of_two F.argument i j) rest ≡ option_map (sign gap event_mark)
    (step (part_pieces) i (option_map (sign tight point)
    (option_map (free tight (codes "arg")) (option_map (sign tight open_parenthesis) (step (natural tight) j (option_map (sign tight close_parenthesis) rest))))))
argument_step gap None None rest = refl
argument_step gap None (Some j) rest = refl
argument_step gap (Some i) None rest = refl
argument_step gap (Some i) (Some j) None = refl
argument_step gap (Some i) (Some j) (Some k) = refl

pub count_step : (gap : Gap) (rest : Option Pieces)
    → step (λ e. expression_pieces e gap) (Some F.occurrence_count) rest ≡ option_map (sign gap event_mark) (option_map (sign tight point) (option_map (free tight (codes "count")) rest))
count_step gap None = refl
count_step gap (Some k) = refl

pub value_step : (gap : Gap) (x : Option Name) (rest : Option Pieces)
    → step (λ e. expression_pieces e gap) (of_one F.value x) rest ≡ step (λ y. at_gap gap (value_token y)) x rest
value_step gap None rest = refl
value_step gap (Some x) rest = refl
