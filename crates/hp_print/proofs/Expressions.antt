-- Expressions with operands, part by part.
use Rattle.std.proofs.Common.{◌≡◌, refl, sym, ap, ◌∙◌, ℕ, nat_lt, Bool, true, false, Option, Some, None, option_map, IfSome}
use Rattle.hp_model.specs.NotationTokens.{Mark, open_parenthesis, close_parenthesis, not_mark, minus_sign}
use Rattle.hp_model.specs.NotationForms as F
use Rattle.hp_model.specs.NotationForms.{operator_mark}
use Rattle.hp_model.specs.NotationPrint.{Gap, tight, space, Pieces, sign, enclosed_if, negated_level, left_level, right_level, expression_pieces, expression_in}
use Rattle.hp_model.specs.NotationValues.{of_one, of_two}
use Rattle.hp_print.specs.Written.{step}

-- ---- what is in parentheses or not

pub bare_step : {A : Type 0} (own : A → Gap → Pieces → Pieces) (gap : Gap) (b : Bool) → b ≡ false → (form : Option A) (rest : Option Pieces)
    → step (λ e. enclosed_if b (own e) gap) form rest ≡ step (λ e. own e gap) form rest
bare_step own gap b is form rest = ap (λ c. step (λ e. enclosed_if c (own e) gap) form rest) is

in_parentheses : {A : Type 0} (own : A → Gap → Pieces → Pieces) (gap : Gap) (form : Option A) (rest : Option Pieces)
    → step (λ e. enclosed_if true (own e) gap) form rest
    ≡ option_map (sign gap open_parenthesis) (step (λ e. own e tight) form (option_map (sign tight close_parenthesis) rest))
in_parentheses own gap None rest = refl
in_parentheses own gap (Some e) None = refl
in_parentheses own gap (Some e) (Some k) = refl

pub enclosed_step : {A : Type 0} (own : A → Gap → Pieces → Pieces) (gap : Gap) (b : Bool) → b ≡ true → (form : Option A) (rest : Option Pieces)
    → step (λ e. enclosed_if b (own e) gap) form rest
    ≡ option_map (sign gap open_parenthesis) (step (λ e. own e tight) form (option_map (sign tight close_parenthesis) rest))
enclosed_step own gap b is form rest = ap (λ c. step (λ e. enclosed_if c (own e) gap) form rest) is ∙ in_parentheses own gap form rest

-- parentheses by a test that the form decides
pub decided_step : {A : Type 0} (own : A → Gap → Pieces → Pieces) (gap : Gap) (b : Bool) (test : A → Bool) (form : Option A) → IfSome form (λ e. b ≡ test e) → (rest : Option Pieces)
    → step (λ e. enclosed_if (test e) (own e) gap) form rest ≡ step (λ e. enclosed_if b (own e) gap) form rest
decided_step own gap b test None is rest = refl
decided_step own gap b test (Some e) is rest = ap (λ c. option_map (enclosed_if c (own e) gap) rest) (sym is)

-- the test compares a number that the form decides
pub compared : {A : Type 0} (n : ℕ) (level : A → ℕ) (least : ℕ) (b : Bool) (form : Option A) → b ≡ nat_lt n least → IfSome form (λ e. n ≡ level e) → IfSome form (λ e. b ≡ nat_lt (level e) least)
compared n level least b None by is = tt
compared n level least b (Some e) by is = by ∙ ap (λ m. nat_lt m least) is

-- ---- forms

operation_plain : (gap : Gap) (op : F.Operator) (a b : Option F.Expression) (rest : Option Pieces)
    → step (λ e. expression_pieces e gap) (of_two (F.operation op) a b) rest
    ≡ step (λ e. expression_in (left_level op) e gap) a (option_map (sign space (operator_mark op)) (step (λ e. expression_in (right_level op) e space) b rest))
operation_plain gap op None None rest = refl
operation_plain gap op None (Some b) rest = refl
operation_plain gap op (Some a) None rest = refl
operation_plain gap op (Some a) (Some b) None = refl
operation_plain gap op (Some a) (Some b) (Some k) = refl

pub operation_step : (gap : Gap) (op : F.Operator) (m : Mark) (l r : ℕ) (a b : Option F.Expression) → l ≡ left_level op → m ≡ operator_mark op → r ≡ right_level op → (rest : Option Pieces)
    → step (λ e. expression_pieces e gap) (of_two (F.operation op) a b) rest
    ≡ step (λ e. expression_in l e gap) a (option_map (sign space m) (step (λ e. expression_in r e space) b rest))
operation_step gap op m l r a b left is right rest =
    operation_plain gap op a b rest
    ∙ ap (λ n. step (λ e. expression_in n e gap) a (option_map (sign space (operator_mark op)) (step (λ e. expression_in (right_level op) e space) b rest))) (sym left)
    ∙ ap (λ n. step (λ e. expression_in l e gap) a (option_map (sign space n) (step (λ e. expression_in (right_level op) e space) b rest))) (sym is)
    ∙ ap (λ n. step (λ e. expression_in l e gap) a (option_map (sign space m) (step (λ e. expression_in n e space) b rest))) (sym right)

pub inverted_step : (gap : Gap) (a : Option F.Expression) (rest : Option Pieces)
    → step (λ e. expression_pieces e gap) (of_one F.inverted a) rest ≡ option_map (sign gap not_mark) (step (λ e. expression_in 3 e space) a rest)
inverted_step gap None rest = refl
inverted_step gap (Some a) None = refl
inverted_step gap (Some a) (Some k) = refl

pub negated_step : (gap : Gap) (a : Option F.Expression) (rest : Option Pieces)
    → step (λ e. expression_pieces e gap) (of_one F.negated a) rest ≡ option_map (sign gap minus_sign) (step (λ e. enclosed_if (nat_lt (negated_level e) 8) (expression_pieces e) tight) a rest)
negated_step gap None rest = refl
negated_step gap (Some a) None = refl
negated_step gap (Some a) (Some k) = refl
