-- How tightly the expression of a value holds together, and what it begins with.
use Rattle.std.proofs.Common.{◌≡◌, refl, sym, ap, ◌∙◌, subst, ℕ, zero, suc, ◌<◌, ◌≤◌, ℤ, pos, negsuc, codes, Bool, true, false, List, [], ◌∷◌, length, map, get_or, Option, Some}
use Rattle.std.proofs.Common.{None, option_map, arith}
use Rattle.std.specs.Prelude.{IfSome, if◌then◌else◌, nat_lt, option_and_then}
use Rattle.std.specs.Str.{is_utf8}
use Rattle.std.proofs.lemmas.Bool.{lt-ltb, le-ltb}
use Rattle.serde_json.specs.Data.{Num, Data, null, number, boolean, string, array, object}
use Rattle.serde_json.specs.Find.{as_i64, as_number}
use Rattle.hp_model.specs.Values.{fits_64}
use Rattle.hp_model.specs.Json.{Form, form_of}
use Rattle.hp_model.specs.NotationTokens as N
use Rattle.hp_model.specs.NotationTokens.{Mark, Token, mark, word, minus_sign, true_mark, false_mark, not_mark, new_mark, old_mark, event_mark, open_parenthesis}
use Rattle.hp_model.specs.NotationForms as F
use Rattle.hp_model.specs.NotationForms.{Expression}
use Rattle.hp_model.specs.NotationPrint.{Gap, Pieces, integer_level, expression_level, negated_level, left_level, enclosed_if, expression_pieces, first_is, apart_from}
use Rattle.hp_model.specs.NotationValues.{fitting, of_two, operator_of, expression_of, expression_of_form}
use Rattle.hp_print.specs.declared.level.Opening.{Opening}
use Rattle.hp_print.specs.declared.level.Opening.TheVariants as o
use Rattle.hp_print.specs.Openings.{opening_view, begins}
use Rattle.hp_print.specs.Written.{step}
use Rattle.hp_print.proofs.Levels.{IsCompound, compound_form, operation_form}
use Rattle.hp_print.proofs.Readings.{expression_in_form, no_expression}

-- ---- levels of values

pub level_in_form : (n : ℕ) (d : Data) (f : Form) (r : ℕ) → form_of d ≡ Some f
    → ((operand : Data → Option Expression) → IfSome (expression_of_form operand f.word f.parts) (λ e. r ≡ expression_level e))
    → IfSome (expression_of n d) (λ e. r ≡ expression_level e)
level_in_form zero d f r is level = subst (λ o. IfSome o (λ e. r ≡ expression_level e)) (sym (no_expression d)) tt
level_in_form (suc n) d f r is level =
    subst (λ o. IfSome o (λ e. r ≡ expression_level e)) (sym (expression_in_form (suc n) n d f refl is)) (level (expression_of n))

fitted : (z : ℤ) (r : ℕ) → r ≡ integer_level z → IfSome (option_map F.integer (fitting z)) (λ e. r ≡ expression_level e)
fitted z r level = go (fits_64 z)
  where
    go : (b : Bool) → IfSome (option_map F.integer (if b then Some z else None)) (λ e. r ≡ expression_level e)
    go true = level
    go false = tt

pub level_of_integer : (n : ℕ) (d : Data) (z : ℤ) (r : ℕ) → option_and_then as_i64 (as_number d) ≡ Some z → r ≡ integer_level z → IfSome (expression_of n d) (λ e. r ≡ expression_level e)
unfolding expression_of
level_of_integer zero d z r is level = tt
level_of_integer (suc n) null z r is level = cc
level_of_integer (suc n) (boolean b) z r is level = cc
level_of_integer (suc n) (string s) z r is level = cc
level_of_integer (suc n) (array ds) z r is level = cc
level_of_integer (suc n) (object ms) z r is level = cc
level_of_integer (suc n) (number k) z r is level =
    subst (λ o. IfSome (option_map F.integer (option_and_then fitting o)) (λ e. r ≡ expression_level e)) (sym is) (fitted z r level)

pub level_of_literal : (n : ℕ) (d : Data) → form_of d ≡ None → option_and_then as_i64 (as_number d) ≡ None → IfSome (expression_of n d) (λ e. 8 ≡ expression_level e)
unfolding expression_of
level_of_literal zero d is none = tt
level_of_literal (suc n) null is none = tt
level_of_literal (suc n) (object ms) is none = tt
level_of_literal (suc n) (boolean b) is none = refl
level_of_literal (suc n) (string s) is none = go (is_utf8 s)
  where
    go : (b : Bool) → IfSome (if b then Some (F.text s) else None) (λ e. 8 ≡ expression_level e)
    go true = refl
    go false = tt
level_of_literal (suc n) (number k) is none =
    subst (λ o. IfSome (option_map F.integer (option_and_then fitting o)) (λ e. 8 ≡ expression_level e)) (sym none) tt
level_of_literal (suc n) (array ds) is none =
    subst (λ o. IfSome (option_and_then (λ (f : Form). expression_of_form (expression_of n) f.word f.parts) o) (λ e. 8 ≡ expression_level e)) (sym is) tt

-- ---- after the minus of a `neg`

pub negated_integer : (n : ℕ) (d : Data) (k : Num) → as_number d ≡ Some k → IfSome (expression_of n d) (λ e. 0 ≡ negated_level e)
unfolding expression_of
negated_integer zero d k is = tt
negated_integer (suc n) null k is = cc
negated_integer (suc n) (boolean b) k is = cc
negated_integer (suc n) (string s) k is = cc
negated_integer (suc n) (array ds) k is = cc
negated_integer (suc n) (object ms) k is = cc
negated_integer (suc n) (number j) k is = go (option_and_then fitting (as_i64 j))
  where
    go : (o : Option ℤ) → IfSome (option_map F.integer o) (λ e. 0 ≡ negated_level e)
    go None = tt
    go (Some z) = refl

same_level : (e : Expression) (r : ℕ) → IsCompound e → r ≡ expression_level e → r ≡ negated_level e
same_level (F.integer z) r is level = absurd is
same_level (F.truth b) r is level = level
same_level (F.text s) r is level = level
same_level (F.operation op a b) r is level = level
same_level (F.inverted a) r is level = level
same_level (F.negated a) r is level = level
same_level (F.field_of x f) r is level = level
same_level (F.key_of x) r is level = level
same_level (F.value x) r is level = level
same_level F.now r is level = level
same_level (F.image_field image i f) r is level = level
same_level (F.key_in i) r is level = level
same_level (F.time_of i) r is level = level
same_level (F.argument i j) r is level = level
same_level F.occurrence_count r is level = level

pub negated_other : (n : ℕ) (d : Data) (r : ℕ) → as_number d ≡ None → IfSome (expression_of n d) (λ e. r ≡ expression_level e) → IfSome (expression_of n d) (λ e. r ≡ negated_level e)
unfolding expression_of
negated_other zero d r is level = tt
negated_other (suc n) null r is level = tt
negated_other (suc n) (object ms) r is level = tt
negated_other (suc n) (number k) r is level = cc
negated_other (suc n) (boolean b) r is level = level
negated_other (suc n) (string s) r is level = go (is_utf8 s) level
  where
    go : (b : Bool) → IfSome (if b then Some (F.text s) else None) (λ e. r ≡ expression_level e) → IfSome (if b then Some (F.text s) else None) (λ e. r ≡ negated_level e)
    go true holds = holds
    go false holds = tt
negated_other (suc n) (array ds) r is level = go (form_of (array ds)) level
  where
    both : (e : Option Expression) → IfSome e IsCompound → IfSome e (λ x. r ≡ expression_level x) → IfSome e (λ x. r ≡ negated_level x)
    both None compound holds = tt
    both (Some e) compound holds = same_level e r compound holds

    go : (f : Option Form) → IfSome (option_and_then (λ (g : Form). expression_of_form (expression_of n) g.word g.parts) f) (λ e. r ≡ expression_level e)
        → IfSome (option_and_then (λ (g : Form). expression_of_form (expression_of n) g.word g.parts) f) (λ e. r ≡ negated_level e)
    go None holds = tt
    go (Some f) holds = both (expression_of_form (expression_of n) f.word f.parts) (compound_form (expression_of n) f.word f.parts) holds

-- ---- beginnings

operation_begins : (opening : Opening) (op : F.Operator) (r : Bool) (low : Bool) (a b : Option Expression)
    → IfSome a (λ e. nat_lt (expression_level e) (left_level op) ≡ low) → IfSome a (λ e. r ≡ (if low then false else begins opening e))
    → IfSome (of_two (F.operation op) a b) (λ e. r ≡ begins opening e)
operation_begins opening op r low None b level is = tt
operation_begins opening op r low (Some x) None level is = tt
operation_begins opening op r low (Some x) (Some y) level is = is ∙ ap (λ c. if c then false else begins opening x) (sym level)

pub begins_operation : {V : Type 0} (f : V → Data) (opening : Opening) (op : F.Operator) (r low : Bool) (n m : ℕ) (d : Data) (name : List ℕ) (vs : List V) (left : V)
    → n ≡ suc m → form_of d ≡ Some (record { word = name; parts = map f vs }) → 2 ≤ length vs → length vs < 3 → left ≡ get_or vs 0 left → operator_of name ≡ Some op
    → IfSome (expression_of m (f left)) (λ e. nat_lt (expression_level e) (left_level op) ≡ low) → IfSome (expression_of m (f left)) (λ e. r ≡ (if low then false else begins opening e))
    → IfSome (expression_of n d) (λ e. r ≡ begins opening e)
begins_operation f opening op r low n m d name [] left is form least below first operator level begun = absurd (omega (arith, least))
begins_operation f opening op r low n m d name (v ∷ []) left is form least below first operator level begun = absurd (omega (arith, least))
begins_operation f opening op r low n m d name (v ∷ u ∷ w ∷ vs) left is form least below first operator level begun = absurd (omega (arith, below))
begins_operation f opening op r low n m d name (v ∷ u ∷ []) left is form least below first operator level begun =
    subst (λ o. IfSome o (λ e. r ≡ begins opening e))
    (sym (expression_in_form n m d (record { word = name; parts = f v ∷ f u ∷ [] }) is form ∙ operation_form (expression_of m) name op (f v) (f u) operator))
    (operation_begins opening op r low (expression_of m (f v)) (expression_of m (f u))
    (subst (λ x. IfSome (expression_of m (f x)) (λ e. nat_lt (expression_level e) (left_level op) ≡ low)) first level)
    (subst (λ x. IfSome (expression_of m (f x)) (λ e. r ≡ (if low then false else begins opening e))) first begun))

-- the level of the left operand, beside that of the operator
pub low_level : (k l : ℕ) (form : Option Expression) → k < l → IfSome form (λ e. k ≡ expression_level e) → IfSome form (λ e. nat_lt (expression_level e) l ≡ true)
low_level k l None less level = tt
low_level k l (Some e) less level = ap (λ m. nat_lt m l) (sym level) ∙ lt-ltb k l less

pub high_level : (k l : ℕ) (form : Option Expression) → l ≤ k → IfSome form (λ e. k ≡ expression_level e) → IfSome form (λ e. nat_lt (expression_level e) l ≡ false)
high_level k l None less level = tt
high_level k l (Some e) less level = ap (λ m. nat_lt m l) (sym level) ∙ le-ltb k l less

no_mark : (opening : Opening) (m : Mark) → opening_view opening (mark m) ≡ false
no_mark o.Aggregate m = refl
no_mark o.Let m = refl

no_number : (opening : Opening) (n : ℕ) → opening_view opening (N.number n) ≡ false
no_number o.Aggregate n = refl
no_number o.Let n = refl

no_text : (opening : Opening) (s : List ℕ) → opening_view opening (N.string s) ≡ false
no_text o.Aggregate s = refl
no_text o.Let s = refl

no_now : (opening : Opening) → opening_view opening (word (codes "now")) ≡ false
no_now o.Aggregate = refl
no_now o.Let = refl

opens : (opening : Opening) (e : Expression) (gap : Gap) (k : Pieces) → first_is (opening_view opening) (expression_pieces e gap k) ≡ begins opening e
opens opening (F.integer (pos n)) gap k = no_number opening n
opens opening (F.integer (negsuc n)) gap k = no_mark opening minus_sign
opens opening (F.truth true) gap k = no_mark opening true_mark
opens opening (F.truth false) gap k = no_mark opening false_mark
opens opening (F.text s) gap k = no_text opening s
opens opening (F.operation op a b) gap k = go (nat_lt (expression_level a) (left_level op)) _ (λ r. opens opening a gap r)
  where
    go : (low : Bool) (r : Pieces) → ((q : Pieces) → first_is (opening_view opening) (expression_pieces a gap q) ≡ begins opening a)
        → first_is (opening_view opening) (enclosed_if low (expression_pieces a) gap r) ≡ (if low then false else begins opening a)
    go true r own = no_mark opening open_parenthesis
    go false r own = own r
opens opening (F.inverted a) gap k = no_mark opening not_mark
opens opening (F.negated a) gap k = no_mark opening minus_sign
opens opening (F.field_of x f) gap k = refl
opens opening (F.key_of x) gap k = refl
opens opening (F.value x) gap k = refl
opens opening F.now gap k = no_now opening
opens opening (F.image_field F.new_image i f) gap k = no_mark opening new_mark
opens opening (F.image_field F.old_image i f) gap k = no_mark opening old_mark
opens opening (F.key_in i) gap k = no_mark opening event_mark
opens opening (F.time_of i) gap k = no_mark opening event_mark
opens opening (F.argument i j) gap k = no_mark opening event_mark
opens opening F.occurrence_count gap k = no_mark opening event_mark

pub apart_step : (opening : Opening) (gap : Gap) (r : Bool) (form : Option Expression) → IfSome form (λ e. r ≡ begins opening e) → (rest : Option Pieces)
    → step (λ e. apart_from (opening_view opening) e gap) form rest ≡ step (λ e. enclosed_if r (expression_pieces e) gap) form rest
apart_step opening gap r None is rest = refl
apart_step opening gap r (Some e) is None = refl
apart_step opening gap r (Some e) is (Some k) = ap (λ b. Some (enclosed_if b (expression_pieces e) gap k)) (opens opening e gap k ∙ sym is)

pub trivially : (opening : Opening) (form : Option Expression) → IfSome form (λ e. false ≡ (if true then false else begins opening e))
trivially opening None = tt
trivially opening (Some e) = refl

pub otherwise : (opening : Opening) (r : Bool) (form : Option Expression) → IfSome form (λ e. r ≡ begins opening e) → IfSome form (λ e. r ≡ (if false then false else begins opening e))
otherwise opening r None is = tt
otherwise opening r (Some e) is = is
