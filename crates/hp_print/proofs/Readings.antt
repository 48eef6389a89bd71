-- Which form a value is.
use Rattle.std.proofs.Common.{◌≡◌, refl, sym, ap, ◌∙◌, subst, ℕ, zero, suc, ◌<◌, ◌≤◌, ℤ, pos, negsuc, Bool, true, false, List, [], ◌∷◌, length, map, take, drop, get_or, ◌-◌}
use Rattle.std.proofs.Common.{Option, Some, None, option_map, arith, SFits, w64}
use Rattle.std.proofs.lemmas.Bool.{lt-ltb}
use Rattle.std.proofs.lemmas.List.{length-drop, take_all}
use Rattle.std.specs.Prelude.{IfSome, if◌then◌else◌, ◌^◌, option_and_then}
use Rattle.std.specs.Str.{is_utf8}
use Rattle.serde_json.specs.Data.{Data, null, number, boolean, string, array, object}
use Rattle.serde_json.specs.Find.{as_i64, as_number, as_bool, as_str}
use Rattle.hp_model.specs.Values.{fits_64}
use Rattle.hp_model.specs.Json.{Form, form_of, form_in, list_of}
use Rattle.hp_model.specs.NotationTokens.{where_mark}
use Rattle.hp_model.specs.NotationForms as F
use Rattle.hp_model.specs.NotationForms.{Expression}
use Rattle.hp_model.specs.NotationPrint.{Pieces, space, sign, expression_pieces, predicate_pieces}
use Rattle.hp_model.specs.NotationValues.{fitting, expression_of, expression_of_form, any_expression, event_of, event_of_form, query_of, query_of_list}
use Rattle.hp_print.specs.Written.{step}
use Rattle.hp_print.specs.Forms.{text_of, literal_of}
use Rattle.hp_print.specs.Rows.{query_in, said}
use Rattle.hp_print.proofs.Levels.{IsCompound, compound_form}

-- ---- expressions

pub expression_in_form : (n m : ℕ) (d : Data) (f : Form) → n ≡ suc m → form_of d ≡ Some f → expression_of n d ≡ expression_of_form (expression_of m) f.word f.parts
unfolding expression_of
expression_in_form n m null f is form = cc
expression_in_form n m (number z) f is form = cc
expression_in_form n m (boolean b) f is form = cc
expression_in_form n m (string s) f is form = cc
expression_in_form n m (object ms) f is form = cc
expression_in_form n m (array ds) f is form =
    ap (λ k. expression_of k (array ds)) is ∙ ap (λ o. option_and_then (λ (g : Form). expression_of_form (expression_of m) g.word g.parts) o) form

pub expression_in_literal : (n m : ℕ) (d : Data) → n ≡ suc m → form_of d ≡ None → expression_of n d ≡ literal_of d
unfolding expression_of
expression_in_literal n m null is form = ap (λ k. expression_of k null) is
expression_in_literal n m (number z) is form = ap (λ k. expression_of k (number z)) is
expression_in_literal n m (boolean b) is form = ap (λ k. expression_of k (boolean b)) is
expression_in_literal n m (string s) is form = ap (λ k. expression_of k (string s)) is
expression_in_literal n m (object ms) is form = ap (λ k. expression_of k (object ms)) is
expression_in_literal n m (array ds) is form =
    ap (λ k. expression_of k (array ds)) is ∙ ap (λ o. option_and_then (λ (g : Form). expression_of_form (expression_of m) g.word g.parts) o) form

pub no_expression : (d : Data) → expression_of 0 d ≡ None
unfolding expression_of
no_expression d = refl

-- ---- literals

pub integer_literal : (d : Data) (z : ℤ) → option_and_then as_i64 (as_number d) ≡ Some z → fits_64 z ≡ true → literal_of d ≡ Some (F.integer z)
integer_literal null z is fits = cc
integer_literal (boolean b) z is fits = cc
integer_literal (string s) z is fits = cc
integer_literal (array ds) z is fits = cc
integer_literal (object ms) z is fits = cc
integer_literal (number n) z is fits =
    ap (λ o. option_map F.integer (option_and_then fitting o)) is ∙ ap (λ b. option_map F.integer (if b then Some z else None)) fits

pub truth_literal : (d : Data) (b : Bool) → as_bool d ≡ Some b → literal_of d ≡ Some (F.truth b)
truth_literal null b is = cc
truth_literal (boolean c) b is = let same : c ≡ b = cc in ap (λ x. Some (F.truth x)) same
truth_literal (string s) b is = cc
truth_literal (array ds) b is = cc
truth_literal (object ms) b is = cc
truth_literal (number n) b is = cc

pub text_literal : (d : Data) (s : List ℕ) → as_str d ≡ Some s → literal_of d ≡ text_of s
text_literal null s is = cc
text_literal (boolean b) s is = cc
text_literal (number n) s is = cc
text_literal (array ds) s is = cc
text_literal (object ms) s is = cc
text_literal (string t) s is = let same : t ≡ s = cc in ap text_of same

-- an integer of the machine
pub fits_is : (z : ℤ) → SFits w64 z → fits_64 z ≡ true
fits_is (pos n) fits = lt-ltb n (2 ^ 63) (omega (arith, fits))
fits_is (negsuc n) fits = lt-ltb n (2 ^ 63) (omega (arith, fits))

pub no_literal : (d : Data) → option_and_then as_i64 (as_number d) ≡ None → as_bool d ≡ None → as_str d ≡ None → literal_of d ≡ None
no_literal null no_number no_truth no_text = refl
no_literal (number n) no_number no_truth no_text = ap (λ o. option_map F.integer (option_and_then fitting o)) no_number
no_literal (boolean b) no_number no_truth no_text = cc
no_literal (string s) no_number no_truth no_text = cc
no_literal (array ds) no_number no_truth no_text = refl
no_literal (object ms) no_number no_truth no_text = refl

-- ---- predicates

pub not_true : (n : ℕ) (d : Data) → said (as_bool d) ≡ false → IfSome (expression_of n d) (λ e. (k : Pieces) → predicate_pieces e k ≡ sign space where_mark (expression_pieces e space k))
unfolding expression_of
not_true zero d apart = tt
not_true (suc n) null apart = tt
not_true (suc n) (object ms) apart = tt
not_true (suc n) (boolean true) apart = cc
not_true (suc n) (boolean false) apart = λ k. refl
not_true (suc n) (number z) apart = go (option_and_then fitting (as_i64 z))
  where
    go : (o : Option ℤ) → IfSome (option_map F.integer o) (λ e. (k : Pieces) → predicate_pieces e k ≡ sign space where_mark (expression_pieces e space k))
    go None = tt
    go (Some x) = λ k. refl
not_true (suc n) (string s) apart = go (is_utf8 s)
  where
    go : (b : Bool) → IfSome (if b then Some (F.text s) else None) (λ e. (k : Pieces) → predicate_pieces e k ≡ sign space where_mark (expression_pieces e space k))
    go true = λ k. refl
    go false = tt
not_true (suc n) (array ds) apart = go (form_of (array ds))
  where
    kept : (e : Expression) → IsCompound e → (k : Pieces) → predicate_pieces e k ≡ sign space where_mark (expression_pieces e space k)
    kept (F.integer z) is k = refl
    kept (F.truth b) is k = absurd is
    kept (F.text t) is k = refl
    kept (F.operation op a b) is k = refl
    kept (F.inverted a) is k = refl
    kept (F.negated a) is k = refl
    kept (F.field_of x f) is k = refl
    kept (F.key_of x) is k = refl
    kept (F.value x) is k = refl
    kept F.now is k = refl
    kept (F.image_field image i f) is k = refl
    kept (F.key_in i) is k = refl
    kept (F.time_of i) is k = refl
    kept (F.argument i j) is k = refl
    kept F.occurrence_count is k = refl

    all : (o : Option Expression) → IfSome o IsCompound → IfSome o (λ e. (k : Pieces) → predicate_pieces e k ≡ sign space where_mark (expression_pieces e space k))
    all None is = tt
    all (Some e) is = kept e is

    go : (o : Option Form) → IfSome (option_and_then (λ (f : Form). expression_of_form (expression_of n) f.word f.parts) o) (λ e. (k : Pieces)
        → predicate_pieces e k ≡ sign space where_mark (expression_pieces e space k))
    go None = tt
    go (Some f) = all (expression_of_form (expression_of n) f.word f.parts) (compound_form (expression_of n) f.word f.parts)

where_some : (form : Option Expression) → IfSome form (λ e. (k : Pieces) → predicate_pieces e k ≡ sign space where_mark (expression_pieces e space k)) → (rest : Option Pieces)
    → step predicate_pieces form rest ≡ option_map (sign space where_mark) (step (λ e. expression_pieces e space) form rest)
where_some None is rest = refl
where_some (Some e) is None = refl
where_some (Some e) is (Some k) = ap Some (is k)

pub where_step : (d : Data) → said (as_bool d) ≡ false → (rest : Option Pieces)
    → step predicate_pieces (any_expression d) rest ≡ option_map (sign space where_mark) (step (λ e. expression_pieces e space) (any_expression d) rest)
where_step d apart rest = where_some (any_expression d) (not_true 32 d apart) rest

pub true_step : (d : Data) → said (as_bool d) ≡ true → (rest : Option Pieces) → step predicate_pieces (any_expression d) rest ≡ rest
unfolding expression_of
true_step null is rest = cc
true_step (number n) is rest = cc
true_step (string s) is rest = cc
true_step (array ds) is rest = cc
true_step (object ms) is rest = cc
true_step (boolean b) is rest = go b is rest
  where
    go : (c : Bool) → c ≡ true → (r : Option Pieces) → step predicate_pieces (Some (F.truth c)) r ≡ r
    go true same None = refl
    go true same (Some k) = refl
    go false same r = cc

-- ---- queries

pub query_of_items : (lets : Bool) (d : Data) (ds : List Data) → list_of d ≡ Some ds → query_of lets d ≡ query_in lets ds
query_of_items lets d ds is = ap (λ o. option_and_then (λ es. option_and_then (query_of_list lets es) (option_and_then form_in o)) o) is

-- ---- lists of a few values

pub one_item : {V D : Type 0} (f : V → D) (vs : List V) (a : V) → 1 ≤ length vs → length vs < 2 → a ≡ get_or vs 0 a → map f vs ≡ f a ∷ []
one_item f [] a least below first = absurd (omega (arith, least))
one_item f (x ∷ []) a least below first = ap (λ y. f y ∷ []) (sym first)
one_item f (x ∷ y ∷ vs) a least below first = absurd (omega (arith, below))

pub two_items : {V D : Type 0} (f : V → D) (vs : List V) (a b : V) → 2 ≤ length vs → length vs < 3 → a ≡ get_or vs 0 a → b ≡ get_or vs 1 b → map f vs ≡ f a ∷ f b ∷ []
two_items f [] a b least below first second = absurd (omega (arith, least))
two_items f (x ∷ []) a b least below first second = absurd (omega (arith, least))
two_items f (x ∷ y ∷ []) a b least below first second = ap (λ z. f z ∷ f y ∷ []) (sym first) ∙ ap (λ z. f a ∷ f z ∷ []) (sym second)
two_items f (x ∷ y ∷ z ∷ vs) a b least below first second = absurd (omega (arith, below))

pub three_items : {V D : Type 0} (f : V → D) (vs : List V) (a b c : V) → 3 ≤ length vs → length vs < 4 → a ≡ get_or vs 0 a → b ≡ get_or vs 1 b → c ≡ get_or vs 2 c → map f vs ≡ f a ∷ f b ∷ f c ∷ []
three_items f [] a b c least below first second third = absurd (omega (arith, least))
three_items f (x ∷ []) a b c least below first second third = absurd (omega (arith, least))
three_items f (x ∷ y ∷ []) a b c least below first second third = absurd (omega (arith, least))
three_items f (x ∷ y ∷ z ∷ []) a b c least below first second third =
    ap (λ u. f u ∷ f y ∷ f z ∷ []) (sym first) ∙ ap (λ u. f a ∷ f u ∷ f z ∷ []) (sym second) ∙ ap (λ u. f a ∷ f b ∷ f u ∷ []) (sym third)
three_items f (x ∷ y ∷ z ∷ u ∷ vs) a b c least below first second third = absurd (omega (arith, below))

pub four_items : {V D : Type 0} (f : V → D) (vs : List V) (a b c d : V) → 4 ≤ length vs → length vs < 5 → a ≡ get_or vs 0 a → b ≡ get_or vs 1 b → c ≡ get_or vs 2 c
    → d ≡ get_or vs 3 d → map f vs ≡ f a ∷ f b ∷ f c ∷ f d ∷ []
four_items f [] a b c d least below first second third fourth = absurd (omega (arith, least))
four_items f (x ∷ []) a b c d least below first second third fourth = absurd (omega (arith, least))
four_items f (x ∷ y ∷ []) a b c d least below first second third fourth = absurd (omega (arith, least))
four_items f (x ∷ y ∷ z ∷ []) a b c d least below first second third fourth = absurd (omega (arith, least))
four_items f (x ∷ y ∷ z ∷ t ∷ []) a b c d least below first second third fourth =
    ap (λ u. f u ∷ f y ∷ f z ∷ f t ∷ []) (sym first) ∙ ap (λ u. f a ∷ f u ∷ f z ∷ f t ∷ []) (sym second) ∙ ap (λ u. f a ∷ f b ∷ f u ∷ f t ∷ []) (sym third)
    ∙ ap (λ u. f a ∷ f b ∷ f c ∷ f u ∷ []) (sym fourth)
four_items f (x ∷ y ∷ z ∷ t ∷ u ∷ vs) a b c d least below first second third fourth = absurd (omega (arith, below))

-- all values from an index on
pub rest_whole : {V : Type 0} (k : ℕ) (vs : List V) → take (length vs - k) (drop k vs) ≡ drop k vs
rest_whole k vs = let long : length (drop k vs) ≡ length vs - k = length-drop k vs in take_all (length vs - k) (drop k vs) (omega (arith, long))

-- the first value, and the others
pub first_item : {V D : Type 0} (f : V → D) (vs : List V) (a : V) (others : List V) → 1 ≤ length vs → a ≡ get_or vs 0 a → others ≡ drop 1 vs → map f vs ≡ f a ∷ map f others
first_item f [] a others least first rest = absurd (omega (arith, least))
first_item f (x ∷ vs) a others least first rest = ap (λ z. f z ∷ map f vs) (sym first) ∙ ap (λ z. f a ∷ map f z) (sym rest)

pub no_item : {V D : Type 0} (f : V → D) (vs : List V) → length vs < 1 → map f vs ≡ []
no_item f [] below = refl
no_item f (v ∷ vs) below = absurd (omega (arith, below))

-- ---- events

pub event_in_form : (n m : ℕ) (d : Data) (f : Form) (ps : List Data) → n ≡ suc m → form_of d ≡ Some f → f.parts ≡ ps → event_of n d ≡ event_of_form (event_of m) f.word ps
unfolding event_of
event_in_form n m d f ps is form parts =
    ap (λ k. event_of k d) is ∙ ap (λ o. option_and_then (λ (g : Form). event_of_form (event_of m) g.word g.parts) o) form
    ∙ ap (λ qs. event_of_form (event_of m) f.word qs) parts

pub event_holds : (P : F.Event → Type 0) (n : ℕ) (d : Data) (f : Form) → form_of d ≡ Some f → ((part : Data → Option F.Event) → IfSome (event_of_form part f.word f.parts) P) → IfSome (event_of n d) P
unfolding event_of
event_holds P zero d f form holds = tt
event_holds P (suc n) d f form holds = subst (λ o. IfSome o P) (sym (event_in_form (suc n) n d f f.parts refl form refl)) (holds (event_of n))

pub no_event : (P : F.Event → Type 0) (n : ℕ) (d : Data) → form_of d ≡ None → IfSome (event_of n d) P
unfolding event_of
no_event P zero d form = tt
no_event P (suc n) d form = subst (λ o. IfSome (option_and_then (λ (g : Form). event_of_form (event_of n) g.word g.parts) o) P) (sym form) tt
