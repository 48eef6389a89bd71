-- A value that has a script's form is the value of that form.
use Rattle.hp_model.specs.NotationTree.{root_data}
use Rattle.hp_model.proofs.NotationValued.{root_valued}
use Rattle.hp_model.proofs.NotationRead.{scripts_are_read}
use Rattle.hp_model.specs.NotationPrint.{print_script}
use Rattle.hp_model.specs.NotationScripts.{has_let, read_script}
use Rattle.hp_model.specs.Decode.{Root}
use Rattle.hp_model.specs.Report.{coupling_word}
use Rattle.hp_model.specs.Rules.{Coupling, immediate, deferred, separate, dependent, exclusive}
use Rattle.hp_model.specs.Values.{Kind, integer_kind, boolean_kind, text_kind, fits_64}
use Rattle.std.proofs.Common.{◌&&◌, ◌≡◌, refl, sym, ap, ◌∙◌, subst, ℕ, zero, suc, ◌≤◌, ◌^◌, ℤ, pos, negsuc, Bool, true, false, List, [], ◌∷◌, map, codes, Option, Some, None, inl, inr, ◌⊎◌, arith}
use Rattle.std.specs.Prelude.{if◌then◌else◌, ⊤, bytes_eq, nat_lt, option_map, option_and_then}
use Rattle.std.specs.Option.{option_or}
use Rattle.std.specs.Str.{is_utf8}
use Rattle.std.proofs.lemmas.Bool.{ltb-true}
use lib.Pointwise.{bytes_decides}
use Rattle.serde_json.specs.Data.{Data, Num, unsigned, negative, float, null, boolean, number, string, array, object, Items, no_items, item}
use Rattle.serde_json.specs.Find.{as_i64, as_str}
use Rattle.hp_model.specs.Json.{listed, list_of, Form, form_in, form_of, beside, two_in, pair_of}
use Rattle.hp_model.specs.Parts.{is_name, name_of}
use Rattle.hp_model.specs.NotationTree as T
use Rattle.hp_model.specs.NotationForms.{Expression, integer, truth, text, Operator, operator_mark, operation, inverted, negated, field_of, key_of, value, now, image_field}
use Rattle.hp_model.specs.NotationForms.{new_image, old_image, key_in, time_of, argument, occurrence_count, expression_data, natural_data, items, list_data, form_data, Event}
use Rattle.hp_model.specs.NotationForms.{on_change, creation, change, deletion, on_signal, on_commit, at_moment, every_moment, or_event, then_event, closure_event, event_data}
use Rattle.hp_model.specs.NotationForms.{Rows, Fold, total, least, greatest, fold_word, Aggregate, count_of, fold_of, next_key, plain as F_plain, aggregate_data, Query, some_rows}
use Rattle.hp_model.specs.NotationForms.{no_rows, named_value, query_data, Assignment, assignment_data, Statement, Setting, create, update, setting_mark, set_object, delete}
use Rattle.hp_model.specs.NotationForms.{signal, emit, when, each, for_answer, with_object, with_value, subtransaction, abort, veto, veto_with, RuleOperation, operation_mark}
use Rattle.hp_model.specs.NotationForms.{on_rule, Body, ◌then◌, statement_data, body_data, Field, kind_word, field_data, Class, class_data, Rule, closed_data, rule_data}
use Rattle.hp_model.specs.NotationForms.{transaction, clock, item_data, Script, depth_data, script_data}
use Rattle.hp_model.specs.NotationTokens.{spelling}
use Rattle.hp_model.specs.NotationValues.{natural_of, not_negative, of_one, of_two, of_three, chosen, each_of, list_form, operator_of, expression_of_none, expressions_of_one}
use Rattle.hp_model.specs.NotationValues.{expressions_of_two, expression_of_one, expression_of_two, expression_of_form, expression_of, with_word, all_operators, any_expression}
use Rattle.hp_model.specs.NotationValues.{events_of_one, events_of_two, event_of_one, event_of_two, event_of_form, event_of, rows_of, fold_named, aggregate_of_form, aggregate_of}
use Rattle.hp_model.specs.NotationValues.{query_of_form, is_let_form, rows_in, query_unless_let, query_of_list, query_of, assignment_of, rule_operations, rule_operation_of}
use Rattle.hp_model.specs.NotationValues.{statement_of_none, statements_of_one, statement_of_one, statements_of_two, statement_of_two, statements_of_three, statement_of_three}
use Rattle.hp_model.specs.NotationValues.{statements_of_four, statement_of_four, statement_of_form, body_in, body_of, any_body, kind_named, field_form, class_form, mode_named}
use Rattle.hp_model.specs.NotationValues.{mode_of, closed_of, rule_of_parts, rule_in, rule_form, items_of_one, item_in, item_form, fitting, depth_form, script_with}
use Rattle.hp_model.specs.NotationValues.{script_of_version, script_form}
use Rattle.hp_model.specs.NotationLaws.{Fits, IsWritableExpression, expression_levels, IsFitExpression, IsWritableEvent, event_levels, AreFitRows, IsFitAggregate, IsFitQuery}
use Rattle.hp_model.specs.NotationLaws.{AreFitAssignments, AreFitExpressions, IsFitStatement, IsFitBody, statement_levels, body_levels, EachIs, IsFitField, IsFitClass, IsFitRule}
use Rattle.hp_model.specs.NotationLaws.{IsFitItem, IsFitDepth, IsFitScript, CanonicalIsFixed}

-- ---- options

then_inv : {A B : Type 0} (f : A → Option B) (o : Option A) (y : B) → option_and_then f o ≡ Some y → (x : A) × (o ≡ Some x) × (f x ≡ Some y)
then_inv f None y e = cc
then_inv f (Some x) y e = (x, refl, e)

map_inv : {A B : Type 0} (f : A → B) (o : Option A) (y : B) → option_map f o ≡ Some y → (x : A) × (o ≡ Some x) × (f x ≡ y)
map_inv f None y e = cc
map_inv f (Some x) y e = (x, refl, cc)

two_inv : {A B C : Type 0} (make : A → B → C) (a : Option A) (b : Option B) (y : C) → of_two make a b ≡ Some y → (x : A) × (z : B) × (a ≡ Some x) × (b ≡ Some z) × (make x z ≡ y)
two_inv make None b y e = cc
two_inv make (Some x) b y e = let r = map_inv (make x) b y e in (x, r.0, refl, r.1, r.2)

-- where a word stands in a table
abbrev Chosen : {A : Type 0} → List ℕ → List (List ℕ × (⊤ → Option A)) → A → Type 0
Chosen word [] y = ⊥
Chosen word (entry ∷ entries) y = ((word ≡ entry.0) × (entry.1 tt ≡ Some y)) ⊎ Chosen word entries y

chosen_inv : {A : Type 0} (word : List ℕ) (table : List (List ℕ × (⊤ → Option A))) (y : A) → chosen (beside word table) ≡ Some y → Chosen word table y
chosen_inv word [] y e = cc
chosen_inv word (entry ∷ entries) y e = go (chosen_inv word entries y) (bytes_eq word entry.0) refl e
  where
    go : (chosen (beside word entries) ≡ Some y → Chosen word entries y) → (b : Bool) → bytes_eq word entry.0 ≡ b → chosen ((if b then Some entry.1 else beside word entries)) ≡ Some y
        → Chosen word (entry ∷ entries) y
    go rest true is h = inl ((bytes_decides word entry.0).0 is, h)
    go rest false is h = inr (rest h)

abbrev Beside : {A : Type 0} → List ℕ → List (List ℕ × A) → A → Type 0
Beside word [] y = ⊥
Beside word (entry ∷ entries) y = ((word ≡ entry.0) × (entry.1 ≡ y)) ⊎ Beside word entries y

beside_inv : {A : Type 0} (word : List ℕ) (table : List (List ℕ × A)) (y : A) → beside word table ≡ Some y → Beside word table y
beside_inv word [] y e = cc
beside_inv word (entry ∷ entries) y e = go (beside_inv word entries y) (bytes_eq word entry.0) refl e
  where
    go : (beside word entries ≡ Some y → Beside word entries y) → (b : Bool) → bytes_eq word entry.0 ≡ b → (if b then Some entry.1 else beside word entries) ≡ Some y → Beside word (entry ∷ entries) y
    go rest true is h = inl ((bytes_decides word entry.0).0 is, cc)
    go rest false is h = inr (rest h)

or_inv : {A : Type 0} (a b : Option A) (y : A) → option_or a b ≡ Some y → (a ≡ Some y) ⊎ (b ≡ Some y)
or_inv None b y e = inr e
or_inv (Some x) b y e = inl e

-- ---- forms

items_listed : (ds : Items) → items (listed ds) ≡ ds
items_listed no_items = refl
items_listed (item d ds) = ap (item d) (items_listed ds)

list_inv : (d : Data) (ds : List Data) → list_of d ≡ Some ds → d ≡ list_data ds
list_inv null ds e = cc
list_inv (boolean b) ds e = cc
list_inv (number n) ds e = cc
list_inv (string s) ds e = cc
list_inv (array its) ds e = let same : listed its ≡ ds = cc in ap array (sym (items_listed its) ∙ ap items same)
list_inv (object ms) ds e = cc

string_inv : (d : Data) (s : List ℕ) → as_str d ≡ Some s → d ≡ string s
string_inv null s e = cc
string_inv (boolean b) s e = cc
string_inv (number n) s e = cc
string_inv (string t) s e = cc
string_inv (array its) s e = cc
string_inv (object ms) s e = cc

form_inv : (d : Data) (f : Form) → form_of d ≡ Some f → d ≡ list_data (string f.word ∷ f.parts)
form_inv d f e = let l = then_inv form_in (list_of d) f e in go l.0 l.1 l.2
  where
    go : (ds : List Data) → list_of d ≡ Some ds → form_in ds ≡ Some f → d ≡ list_data (string f.word ∷ f.parts)
    go [] p q = cc
    go (x ∷ ds) p q =
        let m = map_inv (λ (word : List ℕ). the_form word ds) (as_str x) f q in
        list_inv d (x ∷ ds) p ∙ ap (λ y. list_data (y ∷ ds)) (string_inv x m.0 m.1) ∙ ap (λ (g : Form). list_data (string g.word ∷ g.parts)) m.2
      where
        the_form : List ℕ → List Data → Form
        the_form word ds = record { word = word; parts = ds }

-- ---- plain values: numbers have one spelling

abbrev IsPlainNumber : Num → Type 0
IsPlainNumber (unsigned n) = ⊤
IsPlainNumber (negative (pos n)) = ⊥
IsPlainNumber (negative (negsuc n)) = ⊤
IsPlainNumber (float x) = ⊤

abbrev mutual
  pub IsPlain : Data → Type 0
  IsPlain null = ⊤
  IsPlain (boolean b) = ⊤
  IsPlain (number n) = IsPlainNumber n
  IsPlain (string s) = ⊤
  IsPlain (array its) = ArePlain its
  IsPlain (object ms) = ⊤

  pub ArePlain : Items → Type 0
  ArePlain no_items = ⊤
  ArePlain (item d ds) = IsPlain d × ArePlain ds

-- ---- parts

-- a reader of a value: what it gives has the value, and is fit
abbrev Part : {A : Type 0} → Option A → Data → (A → Data) → (A → Type 0) → Type 0
Part {A = A} read d data_of Fit = (x : A) → read ≡ Some x → (data_of x ≡ d) × Fit x

name_inv : (d : Data) → Part (name_of d) d string (λ x. is_name x ≡ true)
name_inv null x e = cc
name_inv (boolean b) x e = cc
name_inv (number n) x e = cc
name_inv (string s) x e = go (is_name s) refl e
  where
    go : (b : Bool) → is_name s ≡ b → (if b then Some s else None) ≡ Some x → (string x ≡ string s) × (is_name x ≡ true)
    go true ok h = let same : s ≡ x = cc in (ap string (sym same), subst (λ y. is_name y ≡ true) same ok)
    go false ok h = cc
name_inv (array its) x e = cc
name_inv (object ms) x e = cc

natural_inv : (d : Data) → IsPlain d → Part (natural_of d) d natural_data Fits
natural_inv null plain n e = cc
natural_inv (boolean b) plain n e = cc
natural_inv (number (unsigned k)) plain n e = go (nat_lt k (2 ^ 63)) refl e
  where
    go : (b : Bool) → nat_lt k (2 ^ 63) ≡ b → option_and_then not_negative (if b then Some (pos k) else None) ≡ Some n → (natural_data n ≡ number (unsigned k)) × Fits n
    go true ok h = let same : k ≡ n = cc in (ap natural_data (sym same), subst Fits same (ltb-true k (2 ^ 63) ok))
    go false ok h = cc
natural_inv (number (negative (pos k))) plain n e = absurd plain
natural_inv (number (negative (negsuc k))) plain n e = cc
natural_inv (number (float x)) plain n e = cc
natural_inv (string s) plain n e = cc
natural_inv (array its) plain n e = cc
natural_inv (object ms) plain n e = cc

one_part : {A X : Type 0} (data_of : X → Data) (Good : X → Type 0) (make : A → X) (w word : List ℕ) (a d : Data) (read : Option A) (part_data : A → Data) (Fit : A → Type 0) (y : X)
    → Part read a part_data Fit → ((x : A) → data_of (make x) ≡ form_data w (part_data x ∷ [])) → ((x : A) → Fit x → Good (make x)) → word ≡ w → of_one make read ≡ Some y
    → list_data (string word ∷ a ∷ []) ≡ d → (data_of y ≡ d) × Good y
one_part data_of Good make w word a d read part_data Fit y part spelled good is e path =
    let r = map_inv make read y e in
    let p = part r.0 r.1 in
    (ap data_of (sym r.2) ∙ spelled r.0 ∙ (λ i. form_data (is_back i) (p.0 i ∷ [])) ∙ path, subst Good r.2 (good r.0 p.1))
  where
    is_back : w ≡ word
    is_back = sym is

two_parts : {A B X : Type 0} (data_of : X → Data) (Good : X → Type 0) (make : A → B → X) (w word : List ℕ) (a b d : Data) (read_a : Option A) (read_b : Option B)
    (data_a : A → Data) (data_b : B → Data) (Fit_a : A → Type 0) (Fit_b : B → Type 0) (y : X)
    → Part read_a a data_a Fit_a → Part read_b b data_b Fit_b → ((x : A) (z : B) → data_of (make x z) ≡ form_data w (data_a x ∷ data_b z ∷ []))
    → ((x : A) (z : B) → Fit_a x → Fit_b z → Good (make x z)) → word ≡ w → of_two make read_a read_b ≡ Some y
    → list_data (string word ∷ a ∷ b ∷ []) ≡ d → (data_of y ≡ d) × Good y
two_parts data_of Good make w word a b d read_a read_b data_a data_b Fit_a Fit_b y part_a part_b spelled good is e path =
    let r = two_inv make read_a read_b y e in
    let p = part_a r.0 r.2 in
    let q = part_b r.1 r.3 in
    (ap data_of (sym r.4) ∙ spelled r.0 r.1 ∙ (λ i. form_data (is_back i) (p.0 i ∷ q.0 i ∷ [])) ∙ path, subst Good r.4 (good r.0 r.1 p.1 q.1))
  where
    is_back : w ≡ word
    is_back = sym is

-- ---- expressions

abbrev FitE : ℕ → Expression → Type 0
FitE n e = IsWritableExpression e × (expression_levels e ≤ n)

abbrev GoodE : ℕ → Data → Expression → Type 0
GoodE n d e = (expression_data e ≡ d) × FitE n e

abbrev Reader : ℕ → Type 0
Reader n = (d : Data) → IsPlain d → Part (expression_of n d) d expression_data (FitE n)

some_levels : (n : ℕ) (e : Expression) → IsWritableExpression e → expression_levels e ≡ 1 → FitE (suc n) e
some_levels n e w one = (w, omega arith)

good_none : (n : ℕ) (word : List ℕ) (d : Data) → list_data (string word ∷ []) ≡ d → Part (expression_of_none word) d expression_data (FitE (suc n))
good_none n word d path e h = go (beside_inv word ((codes "now", now) ∷ (codes "count", occurrence_count) ∷ []) e h)
  where
    go : Beside word ((codes "now", now) ∷ (codes "count", occurrence_count) ∷ []) e → GoodE (suc n) d e
    go (inl x) = (ap expression_data (sym x.1) ∙ ap (λ w. list_data (string w ∷ [])) (sym x.0) ∙ path, subst (FitE (suc n)) x.1 (tt, omega arith))
    go (inr (inl x)) = (ap expression_data (sym x.1) ∙ ap (λ w. list_data (string w ∷ [])) (sym x.0) ∙ path, subst (FitE (suc n)) x.1 (tt, omega arith))
    go (inr (inr x)) = absurd x

good_one : (n : ℕ) → Reader n → (word : List ℕ) (a d : Data) → IsPlain a → list_data (string word ∷ a ∷ []) ≡ d → Part (expression_of_one (expression_of n) word a) d expression_data (FitE (suc n))
good_one n ih word a d plain path e h = go (chosen_inv word (expressions_of_one (expression_of n) a) e h)
  where
    go : Chosen word (expressions_of_one (expression_of n) a) e → GoodE (suc n) d e
    go (inl x) = one_part expression_data (FitE (suc n)) inverted (codes "not") word a d (expression_of n a) expression_data (FitE n) e (ih a plain)
        (λ y. refl) (λ y f. (f.0, omega (arith, f.1))) x.0 x.1 path
    go (inr (inl x)) = one_part expression_data (FitE (suc n)) negated (codes "neg") word a d (expression_of n a) expression_data (FitE n) e (ih a plain)
        (λ y. refl) (λ y f. (f.0, omega (arith, f.1))) x.0 x.1 path
    go (inr (inr (inl x))) = one_part expression_data (FitE (suc n)) key_of (codes "key") word a d (name_of a) string (λ y. is_name y ≡ true) e (name_inv a)
        (λ y. refl) (λ y f. (f, omega arith)) x.0 x.1 path
    go (inr (inr (inr (inl x)))) = one_part expression_data (FitE (suc n)) value (codes "value") word a d (name_of a) string (λ y. is_name y ≡ true) e
        (name_inv a) (λ y. refl) (λ y f. (f, omega arith)) x.0 x.1 path
    go (inr (inr (inr (inr (inl x))))) = one_part expression_data (FitE (suc n)) key_in (codes "id") word a d (natural_of a) natural_data Fits e
        (natural_inv a plain) (λ y. refl) (λ y f. (f, omega arith)) x.0 x.1 path
    go (inr (inr (inr (inr (inr (inl x)))))) = one_part expression_data (FitE (suc n)) time_of (codes "time") word a d (natural_of a) natural_data Fits
        e (natural_inv a plain) (λ y. refl) (λ y f. (f, omega arith)) x.0 x.1 path
    go (inr (inr (inr (inr (inr (inr x)))))) = absurd x

operator_inv : (word : List ℕ) (ops : List Operator) (op : Operator) → Beside word (map with_word ops) op → word ≡ spelling (operator_mark op)
operator_inv word [] op h = absurd h
operator_inv word (o ∷ ops) op (inl x) = x.0 ∙ ap (λ y. spelling (operator_mark y)) x.1
operator_inv word (o ∷ ops) op (inr x) = operator_inv word ops op x

good_two : (n : ℕ) → Reader n → (word : List ℕ) (a b d : Data) → IsPlain a → IsPlain b → list_data (string word ∷ a ∷ b ∷ []) ≡ d
    → Part (expression_of_two (expression_of n) word a b) d expression_data (FitE (suc n))
good_two n ih word a b d plain_a plain_b path e h = go (or_inv _ _ e h)
  where
    other : Chosen word (expressions_of_two a b) e → GoodE (suc n) d e
    other (inl x) = two_parts expression_data (FitE (suc n)) field_of (codes "of") word a b d (name_of a) (name_of b) string string (λ y. is_name y ≡ true)
        (λ y. is_name y ≡ true) e (name_inv a) (name_inv b) (λ y z. refl) (λ y z f g. ((f, g), omega arith)) x.0 x.1 path
    other (inr (inl x)) = two_parts expression_data (FitE (suc n)) (image_field new_image) (codes "new") word a b d (natural_of a) (name_of b) natural_data
        string Fits (λ y. is_name y ≡ true) e (natural_inv a plain_a) (name_inv b) (λ y z. refl) (λ y z f g. ((f, g), omega arith)) x.0 x.1 path
    other (inr (inr (inl x))) = two_parts expression_data (FitE (suc n)) (image_field old_image) (codes "old") word a b d (natural_of a) (name_of b)
        natural_data string Fits (λ y. is_name y ≡ true) e (natural_inv a plain_a) (name_inv b) (λ y z. refl) (λ y z f g. ((f, g), omega arith)) x.0 x.1 path
    other (inr (inr (inr (inl x)))) = two_parts expression_data (FitE (suc n)) argument (codes "arg") word a b d (natural_of a) (natural_of b) natural_data
        natural_data Fits Fits e (natural_inv a plain_a) (natural_inv b plain_b) (λ y z. refl) (λ y z f g. ((f, g), omega arith)) x.0 x.1 path
    other (inr (inr (inr (inr x)))) = absurd x

    go : (option_and_then (λ op. of_two (operation op) (expression_of n a) (expression_of n b)) (operator_of word) ≡ Some e) ⊎ (chosen (beside word (expressions_of_two a b)) ≡ Some e)
        → GoodE (suc n) d e
    go (inl x) =
        let r = then_inv (λ (op : Operator). of_two (operation op) (expression_of n a) (expression_of n b)) (operator_of word) e x in
        let is = operator_inv word all_operators r.0 (beside_inv word (map with_word all_operators) r.0 r.1) in
        two_parts expression_data (FitE (suc n)) (operation r.0) (spelling (operator_mark r.0)) word a b d (expression_of n a) (expression_of n b)
        expression_data expression_data (FitE n) (FitE n) e (ih a plain_a) (ih b plain_b) (λ y z. refl)
        (λ y z f g. ((f.0, g.0), omega (arith, f.1, g.1))) is r.2 path
    go (inr x) = other (chosen_inv word (expressions_of_two a b) e x)

good_form : (n : ℕ) → Reader n → (word : List ℕ) (ps : List Data) (d : Data) → ArePlain (items ps) → list_data (string word ∷ ps) ≡ d
    → Part (expression_of_form (expression_of n) word ps) d expression_data (FitE (suc n))
good_form n ih word [] d plain path e h = good_none n word d path e h
good_form n ih word (a ∷ []) d plain path e h = good_one n ih word a d plain.0 path e h
good_form n ih word (a ∷ b ∷ []) d plain path e h = good_two n ih word a b d plain.0 plain.1.0 path e h
good_form n ih word (a ∷ b ∷ c ∷ ps) d plain path e h = cc

plain_parts : (d : Data) (word : List ℕ) (ps : List Data) → IsPlain d → d ≡ list_data (string word ∷ ps) → ArePlain (items ps)
plain_parts d word ps plain path = (subst IsPlain path plain).1

fitting_inv : (z : ℤ) (n : ℕ) (d : Data) (e : Expression) → (fits_64 z ≡ true → IsWritableExpression (integer z)) → expression_data (integer z) ≡ d
    → option_map integer (fitting z) ≡ Some e → GoodE (suc n) d e
fitting_inv z n d e fit path h = go (fits_64 z) refl h
  where
    go : (b : Bool) → fits_64 z ≡ b → option_map integer (if b then Some z else None) ≡ Some e → GoodE (suc n) d e
    go true ok h = let same : integer z ≡ e = cc in (ap expression_data (sym same) ∙ path, subst (FitE (suc n)) same (fit ok, omega arith))
    go false ok h = cc

integer_inv : (z : Num) → IsPlainNumber z → (n : ℕ) (e : Expression) → option_map integer (option_and_then fitting (as_i64 z)) ≡ Some e → GoodE (suc n) (number z) e
integer_inv (unsigned k) plain n e h = go (nat_lt k (2 ^ 63)) refl h
  where
    go : (b : Bool) → nat_lt k (2 ^ 63) ≡ b → option_map integer (option_and_then fitting (if b then Some (pos k) else None)) ≡ Some e → GoodE (suc n) (number (unsigned k)) e
    go true ok h = fitting_inv (pos k) n (number (unsigned k)) e (λ fits. ltb-true k (2 ^ 63) fits) refl h
    go false ok h = cc
integer_inv (negative (pos k)) plain n e h = absurd plain
integer_inv (negative (negsuc k)) plain n e h = fitting_inv (negsuc k) n (number (negative (negsuc k))) e (λ fits. ltb-true k (2 ^ 63) fits) refl h
integer_inv (float x) plain n e h = cc

text_inv : (t : List ℕ) (n : ℕ) (e : Expression) → (if is_utf8 t then Some (text t) else None) ≡ Some e → GoodE (suc n) (string t) e
text_inv t n e h = go (is_utf8 t) refl h
  where
    go : (b : Bool) → is_utf8 t ≡ b → (if b then Some (text t) else None) ≡ Some e → GoodE (suc n) (string t) e
    go true ok h = let same : text t ≡ e = cc in (ap expression_data (sym same), subst (FitE (suc n)) same (ok, omega arith))
    go false ok h = cc

expression_inv : (n : ℕ) → Reader n
unfolding expression_of
expression_inv zero d plain e h = cc
expression_inv (suc n) null plain e h = cc
expression_inv (suc n) (boolean b) plain e h = let same : truth b ≡ e = cc in (ap expression_data (sym same), subst (FitE (suc n)) same (tt, omega arith))
expression_inv (suc n) (number z) plain e h = integer_inv z plain n e h
expression_inv (suc n) (string t) plain e h = text_inv t n e h
expression_inv (suc n) (array its) plain e h =
    let r = then_inv (λ (f : Form). expression_of_form (expression_of n) f.word f.parts) (form_of (array its)) e h in
    let path = form_inv (array its) r.0 r.1 in
    good_form n (expression_inv n) r.0.word r.0.parts (array its) (plain_parts (array its) r.0.word r.0.parts plain path) (sym path) e r.2
expression_inv (suc n) (object ms) plain e h = cc

any_inv : (d : Data) → IsPlain d → Part (any_expression d) d expression_data IsFitExpression
any_inv d plain = expression_inv 32 d plain

-- ---- events

abbrev FitV : ℕ → Event → Type 0
FitV n x = IsWritableEvent x × (event_levels x ≤ n)

abbrev EventReader : ℕ → Type 0
EventReader n = (d : Data) → IsPlain d → Part (event_of n d) d event_data (FitV n)

abbrev OkName : List ℕ → Type 0
OkName x = is_name x ≡ true

event_one : (n : ℕ) (word : List ℕ) (a d : Data) → IsPlain a → list_data (string word ∷ a ∷ []) ≡ d → Part (event_of_one word a) d event_data (FitV (suc n))
event_one n word a d plain path e h = go (chosen_inv word (events_of_one a) e h)
  where
    go : Chosen word (events_of_one a) e → (event_data e ≡ d) × FitV (suc n) e
    go (inl x) = one_part event_data (FitV (suc n)) (on_change creation) (codes "create") word a d (name_of a) string OkName e (name_inv a) (λ y. refl) (λ y f. (f, omega arith)) x.0 x.1 path
    go (inr (inl x)) = one_part event_data (FitV (suc n)) (on_change change) (codes "update") word a d (name_of a) string OkName e (name_inv a) (λ y. refl) (λ y f. (f, omega arith)) x.0 x.1 path
    go (inr (inr (inl x))) = one_part event_data (FitV (suc n)) (on_change deletion) (codes "delete") word a d (name_of a) string OkName e (name_inv a)
        (λ y. refl) (λ y f. (f, omega arith)) x.0 x.1 path
    go (inr (inr (inr (inl x)))) = one_part event_data (FitV (suc n)) on_signal (codes "signal") word a d (name_of a) string OkName e (name_inv a) (λ y. refl) (λ y f. (f, omega arith)) x.0 x.1 path
    go (inr (inr (inr (inr (inl x))))) = one_part event_data (FitV (suc n)) at_moment (codes "at") word a d (natural_of a) natural_data Fits e (natural_inv a plain)
        (λ y. refl) (λ y f. (f, omega arith)) x.0 x.1 path
    go (inr (inr (inr (inr (inr x))))) = absurd x

event_two : (n : ℕ) → EventReader n → (word : List ℕ) (a b d : Data) → IsPlain a → IsPlain b → list_data (string word ∷ a ∷ b ∷ []) ≡ d
    → Part (event_of_two (event_of n) word a b) d event_data (FitV (suc n))
event_two n ih word a b d plain_a plain_b path e h = go (chosen_inv word (events_of_two (event_of n) a b) e h)
  where
    joined : (make : Event → Event → Event) (w : List ℕ) → ((y z : Event) → event_data (make y z) ≡ form_data w (event_data y ∷ event_data z ∷ []))
        → ((y z : Event) → FitV n y → FitV n z → FitV (suc n) (make y z))
        → word ≡ w → of_two make (event_of n a) (event_of n b) ≡ Some e → (event_data e ≡ d) × FitV (suc n) e
    joined make w spelled good is x =
        two_parts event_data (FitV (suc n)) make w word a b d (event_of n a) (event_of n b) event_data event_data (FitV n) (FitV n) e (ih a plain_a) (ih b plain_b) spelled good is x path

    go : Chosen word (events_of_two (event_of n) a b) e → (event_data e ≡ d) × FitV (suc n) e
    go (inl x) = two_parts event_data (FitV (suc n)) every_moment (codes "every") word a b d (natural_of a) (natural_of b) natural_data natural_data Fits
        Fits e (natural_inv a plain_a) (natural_inv b plain_b) (λ y z. refl) (λ y z f g. ((f, g), omega arith)) x.0 x.1 path
    go (inr (inl x)) = joined or_event (codes "or") (λ y z. refl) (λ y z f g. ((f.0, g.0), omega (arith, f.1, g.1))) x.0 x.1
    go (inr (inr (inl x))) = joined then_event (codes "seq") (λ y z. refl) (λ y z f g. ((f.0, g.0), omega (arith, f.1, g.1))) x.0 x.1
    go (inr (inr (inr (inl x)))) = joined closure_event (codes "closure") (λ y z. refl) (λ y z f g. ((f.0, g.0), omega (arith, f.1, g.1))) x.0 x.1
    go (inr (inr (inr (inr x)))) = absurd x

-- a test that passed
test_inv : {A : Type 0} (b : Bool) (o : Option A) (y : A) → (if b then o else None) ≡ Some y → (b ≡ true) × (o ≡ Some y)
test_inv true o y e = (refl, e)
test_inv false o y e = cc

word_is : (a b : List ℕ) → bytes_eq a b ≡ true → a ≡ b
word_is a b e = (bytes_decides a b).0 e

event_form_inv : (n : ℕ) → EventReader n → (word : List ℕ) (ps : List Data) (d : Data) → ArePlain (items ps) → list_data (string word ∷ ps) ≡ d
    → Part (event_of_form (event_of n) word ps) d event_data (FitV (suc n))
event_form_inv n ih word [] d plain path e h =
    let t = test_inv (bytes_eq word (codes "commit")) (Some on_commit) e h in
    let same : on_commit ≡ e = cc in
    (ap event_data (sym same) ∙ ap (λ w. list_data (string w ∷ [])) (sym (word_is word (codes "commit") t.0)) ∙ path, subst (FitV (suc n)) same (tt, omega arith))
event_form_inv n ih word (a ∷ []) d plain path e h = event_one n word a d plain.0 path e h
event_form_inv n ih word (a ∷ b ∷ []) d plain path e h = event_two n ih word a b d plain.0 plain.1.0 path e h
event_form_inv n ih word (a ∷ b ∷ c ∷ ps) d plain path e h = cc

event_inv : (n : ℕ) → EventReader n
unfolding event_of
event_inv zero d plain e h = cc
event_inv (suc n) d plain e h =
    let r = then_inv (λ (f : Form). event_of_form (event_of n) f.word f.parts) (form_of d) e h in
    let path = form_inv d r.0 r.1 in
    event_form_inv n (event_inv n) r.0.word r.0.parts d (plain_parts d r.0.word r.0.parts plain path) (sym path) e r.2

-- ---- rows, aggregates and queries

three_inv : {A B C D : Type 0} (make : A → B → C → D) (a : Option A) (b : Option B) (c : Option C) (y : D) → of_three make a b c ≡ Some y
    → (x : A) × (z : B) × (v : C) × (a ≡ Some x) × (b ≡ Some z) × (c ≡ Some v) × (make x z v ≡ y)
three_inv make None b c y e = cc
three_inv make (Some x) b c y e = let r = two_inv (make x) b c y e in (x, r.0, r.1, refl, r.2, r.3, r.4)

record RowsGot (x c e : Data) (r : Rows) : Type 0 where
  same_name : string r.name ≡ x
  same_class : string r.class ≡ c
  same_predicate : expression_data r.predicate ≡ e
  fit : AreFitRows r

rows_inv : (x c e : Data) → IsPlain e → (r : Rows) → rows_of x c e ≡ Some r → RowsGot x c e r
rows_inv x c e plain r h =
    let t = three_inv make_rows (name_of x) (name_of c) (any_expression e) r h in
    let n = name_inv x t.0 t.3 in
    let m = name_inv c t.1 t.4 in
    let p = any_inv e plain t.2 t.5 in
    subst (RowsGot x c e) t.6 (record { same_name = n.0; same_class = m.0; same_predicate = p.0; fit = record { name = n.1; class = m.1; predicate = p.1 } })
  where
    make_rows : List ℕ → List ℕ → Expression → Rows
    make_rows a b q = record { name = a; class = b; predicate = q }

abbrev GoodA : Data → Aggregate → Type 0
GoodA d a = (aggregate_data a ≡ d) × IsFitAggregate a

fold_inv : (word : List ℕ) (f : Fold) → fold_named word ≡ Some f → word ≡ fold_word f
fold_inv word f h = go (beside_inv word ((codes "sum", total) ∷ (codes "least", least) ∷ (codes "greatest", greatest) ∷ []) f h)
  where
    go : Beside word ((codes "sum", total) ∷ (codes "least", least) ∷ (codes "greatest", greatest) ∷ []) f → word ≡ fold_word f
    go (inl x) = x.0 ∙ ap fold_word x.1
    go (inr (inl x)) = x.0 ∙ ap fold_word x.1
    go (inr (inr (inl x))) = x.0 ∙ ap fold_word x.1
    go (inr (inr (inr x))) = absurd x

aggregate_form_inv : (word : List ℕ) (ps : List Data) (d : Data) → ArePlain (items ps) → list_data (string word ∷ ps) ≡ d → Part (aggregate_of_form word ps) d aggregate_data IsFitAggregate
aggregate_form_inv word [] d plain path a h = cc
aggregate_form_inv word (x ∷ []) d plain path a h =
    let t = test_inv (bytes_eq word (codes "next")) (of_one next_key (name_of x)) a h in
    one_part aggregate_data IsFitAggregate next_key (codes "next") word x d (name_of x) string OkName a (name_inv x) (λ y. refl) (λ y f. f) (word_is word (codes "next") t.0) t.1 path
aggregate_form_inv word (x ∷ c ∷ []) d plain path a h = cc
aggregate_form_inv word (x ∷ c ∷ e ∷ []) d plain path a h =
    let t = test_inv (bytes_eq word (codes "count")) (of_one count_of (rows_of x c e)) a h in
    let m = map_inv count_of (rows_of x c e) a t.1 in
    let r = rows_inv x c e plain.1.1.0 m.0 m.1 in
    let is = sym (word_is word (codes "count") t.0) in
    (ap aggregate_data (sym m.2) ∙ (λ i. form_data (is i) (r.same_name i ∷ r.same_class i ∷ r.same_predicate i ∷ [])) ∙ path, subst IsFitAggregate m.2 r.fit)
aggregate_form_inv word (x ∷ c ∷ e ∷ v ∷ []) d plain path a h =
    let t = then_inv (λ (f : Fold). of_two (fold_of f) (rows_of x c e) (any_expression v)) (fold_named word) a h in
    let m = two_inv (fold_of t.0) (rows_of x c e) (any_expression v) a t.2 in
    let r = rows_inv x c e plain.1.1.0 m.0 m.2 in
    let q = any_inv v plain.1.1.1.0 m.1 m.3 in
    let is = sym (fold_inv word t.0 t.1) in
    (ap aggregate_data (sym m.4) ∙ (λ i. form_data (is i) (r.same_name i ∷ r.same_class i ∷ r.same_predicate i ∷ q.0 i ∷ [])) ∙ path, subst IsFitAggregate m.4 (r.fit, q.1))
aggregate_form_inv word (x ∷ c ∷ e ∷ v ∷ w ∷ ps) d plain path a h = cc

aggregate_inv : (d : Data) → IsPlain d → Part (aggregate_of d) d aggregate_data IsFitAggregate
aggregate_inv d plain a h = go (or_inv _ _ a h)
  where
    go : (option_and_then (λ (f : Form). aggregate_of_form f.word f.parts) (form_of d) ≡ Some a) ⊎ (of_one F_plain (any_expression d) ≡ Some a) → GoodA d a
    go (inl x) =
        let r = then_inv (λ (f : Form). aggregate_of_form f.word f.parts) (form_of d) a x in
        let path = form_inv d r.0 r.1 in
        aggregate_form_inv r.0.word r.0.parts d (plain_parts d r.0.word r.0.parts plain path) (sym path) a r.2
    go (inr x) =
        let m = map_inv F_plain (any_expression d) a x in
        let p = any_inv d plain m.0 m.1 in
        (ap aggregate_data (sym m.2) ∙ p.0, subst IsFitAggregate m.2 p.1)

abbrev GoodQ : Bool → Data → Query → Type 0
GoodQ lets d q = (query_data q ≡ d) × IsFitQuery lets q

query_form_inv : (lets : Bool) (word : List ℕ) (ps : List Data) (d : Data) → ArePlain (items ps) → list_data (string word ∷ ps) ≡ d → Part (query_of_form lets word ps) d query_data (IsFitQuery lets)
query_form_inv true word [] d plain path q h = cc
query_form_inv false word [] d plain path q h = cc
query_form_inv true word (x ∷ []) d plain path q h = cc
query_form_inv false word (x ∷ []) d plain path q h = cc
query_form_inv true word (x ∷ a ∷ []) d plain path q h =
    let t = test_inv (bytes_eq word (codes "let")) (of_two named_value (name_of x) (aggregate_of a)) q h in
    two_parts query_data (IsFitQuery true) named_value (codes "let") word x a d (name_of x) (aggregate_of a) string aggregate_data OkName IsFitAggregate
    q (name_inv x) (aggregate_inv a plain.1.0) (λ y z. refl)
    (λ y z f g. (refl, f, g)) (word_is word (codes "let") t.0) t.1 path
query_form_inv false word (x ∷ a ∷ []) d plain path q h = cc
query_form_inv lets word (x ∷ c ∷ e ∷ []) d plain path q h =
    let t = test_inv (bytes_eq word (codes "no")) (of_one no_rows (rows_of x c e)) q h in
    let m = map_inv no_rows (rows_of x c e) q t.1 in
    let r = rows_inv x c e plain.1.1.0 m.0 m.1 in
    let is = sym (word_is word (codes "no") t.0) in
    (ap query_data (sym m.2) ∙ (λ i. form_data (is i) (r.same_name i ∷ r.same_class i ∷ r.same_predicate i ∷ [])) ∙ path, subst (IsFitQuery lets) m.2 r.fit)
query_form_inv true word (x ∷ c ∷ e ∷ v ∷ ps) d plain path q h = cc
query_form_inv false word (x ∷ c ∷ e ∷ v ∷ ps) d plain path q h = cc

not_misread : (lets : Bool) (f : Form) (name : List ℕ) → is_let_form lets f ≡ false → f.word ≡ name → (lets && bytes_eq name (codes "let")) ≡ false
not_misread true f name h same = ap (λ w. bytes_eq w (codes "let")) (sym same) ∙ h
not_misread false f name h same = refl

some_inv : (lets : Bool) (d : Data) (ds : List Data) (f : Form) → IsPlain d → d ≡ list_data ds → d ≡ list_data (string f.word ∷ f.parts) → is_let_form lets f ≡ false
    → Part (of_one some_rows (rows_in ds)) d query_data (IsFitQuery lets)
some_inv lets d [] f plain list form none q h = cc
some_inv lets d (x ∷ []) f plain list form none q h = cc
some_inv lets d (x ∷ c ∷ []) f plain list form none q h = cc
some_inv lets d (x ∷ c ∷ e ∷ []) f plain list form none q h =
    let m = map_inv some_rows (rows_of x c e) q h in
    let r = rows_inv x c e (subst IsPlain list plain).1.1.0 m.0 m.1 in
    let both : list_data (x ∷ c ∷ e ∷ []) ≡ list_data (string f.word ∷ f.parts) = sym list ∙ form in
    let head : x ≡ string f.word = cc in
    let named : string m.0.name ≡ string f.word = r.same_name ∙ head in
    let word : f.word ≡ m.0.name = cc in
    (ap query_data (sym m.2) ∙ (λ i. list_data (r.same_name i ∷ r.same_class i ∷ r.same_predicate i ∷ [])) ∙ sym list, subst (IsFitQuery lets) m.2 (r.fit, not_misread lets f m.0.name none word))
some_inv lets d (x ∷ c ∷ e ∷ v ∷ ds) f plain list form none q h = cc

query_inv : (lets : Bool) (d : Data) → IsPlain d → Part (query_of lets d) d query_data (IsFitQuery lets)
query_inv lets d plain q h =
    let l = then_inv (λ (ds : List Data). option_and_then (query_of_list lets ds) (form_of d)) (list_of d) q h in
    let f = then_inv (query_of_list lets l.0) (form_of d) q l.2 in
    go l.0 (list_inv d l.0 l.1) f.0 (form_inv d f.0 f.1) (is_let_form lets f.0) refl f.2
  where
    go : (ds : List Data) → d ≡ list_data ds → (f : Form) → d ≡ list_data (string f.word ∷ f.parts) → (b : Bool) → is_let_form lets f ≡ b
        → query_unless_let b (query_of_form lets f.word f.parts) (of_one some_rows (rows_in ds)) ≡ Some q → GoodQ lets d q
    go ds list f form true is x = query_form_inv lets f.word f.parts d (plain_parts d f.word f.parts plain form) (sym form) q x
    go ds list f form false is x = elim (or_inv _ _ q x) [
      | inl y ↦ query_form_inv lets f.word f.parts d (plain_parts d f.word f.parts plain form) (sym form) q y
      | inr y ↦ some_inv lets d ds f plain list form is q y
    ]

-- ---- lists

pair_inv : (d : Data) (x : Data × Data) → pair_of d ≡ Some x → d ≡ list_data (x.0 ∷ x.1 ∷ [])
pair_inv d x h = let l = then_inv two_in (list_of d) x h in go l.0 (list_inv d l.0 l.1) l.2
  where
    go : (ds : List Data) → d ≡ list_data ds → two_in ds ≡ Some x → d ≡ list_data (x.0 ∷ x.1 ∷ [])
    go [] path e = cc
    go (a ∷ []) path e = cc
    go (a ∷ b ∷ []) path e = let same : (a, b) ≡ x = cc in path ∙ ap (λ (y : Data × Data). list_data (y.0 ∷ y.1 ∷ [])) same
    go (a ∷ b ∷ c ∷ ds) path e = cc

each_inv : {A : Type 0} (read : Data → Option A) (data_of : A → Data) (Fit : A → Type 0) → ((d : Data) → IsPlain d → Part (read d) d data_of Fit) → (ds : List Data) → ArePlain (items ds)
    → (xs : List A) → each_of read ds ≡ Some xs → (map data_of xs ≡ ds) × EachIs Fit xs
each_inv read data_of Fit one [] plain xs h = go xs h
  where
    go : (xs : List _) → Some [] ≡ Some xs → (map data_of xs ≡ []) × EachIs Fit xs
    go [] h = (refl, tt)
    go (x ∷ xs) h = cc
each_inv read data_of Fit one (d ∷ ds) plain xs h =
    let t = two_inv (λ x others. x ∷ others) (read d) (each_of read ds) xs h in
    let first = one d plain.0 t.0 t.2 in
    let rest = each_inv read data_of Fit one ds plain.1 t.1 t.3 in
    (ap (map data_of) (sym t.4) ∙ (λ i. first.0 i ∷ rest.0 i), subst (EachIs Fit) t.4 (first.1, rest.1))

list_form_inv : {A : Type 0} (read : Data → Option A) (data_of : A → Data) (Fit : A → Type 0) → ((d : Data) → IsPlain d → Part (read d) d data_of Fit) → (d : Data) → IsPlain d
    → Part (list_form read d) d (λ xs. list_data (map data_of xs)) (EachIs Fit)
list_form_inv read data_of Fit one d plain xs h =
    let l = then_inv (each_of read) (list_of d) xs h in
    let path = list_inv d l.0 l.1 in
    let e = each_inv read data_of Fit one l.0 (subst IsPlain path plain) xs l.2 in
    (ap list_data e.0 ∙ sym path, e.1)

-- ---- statements

abbrev IsFitAssignment : Assignment → Type 0
IsFitAssignment a = (is_name a.field ≡ true) × IsFitExpression a.value

make_assignment : List ℕ → Expression → Assignment
make_assignment x e = record { field = x; value = e }

assignment_inv : (d : Data) → IsPlain d → Part (assignment_of d) d assignment_data IsFitAssignment
unfolding make_assignment
assignment_inv d plain a h =
    let l = then_inv (λ (p : Data × Data). of_two make_assignment (name_of p.0) (any_expression p.1)) (pair_of d) a h in
    let path = pair_inv d l.0 l.1 in
    let t = two_inv make_assignment (name_of l.0.0) (any_expression l.0.1) a l.2 in
    let n = name_inv l.0.0 t.0 t.2 in
    let e = any_inv l.0.1 (subst IsPlain path plain).1.0 t.1 t.3 in
    (ap assignment_data (sym t.4) ∙ (λ i. list_data (n.0 i ∷ e.0 i ∷ [])) ∙ sym path, subst IsFitAssignment t.4 (n.1, e.1))

fit_assignments : (ps : List Assignment) → EachIs IsFitAssignment ps → AreFitAssignments ps
fit_assignments [] w = tt
fit_assignments (a ∷ ps) w = (w.0.0, w.0.1, fit_assignments ps w.1)

fit_expressions : (es : List Expression) → EachIs IsFitExpression es → AreFitExpressions es
fit_expressions [] w = tt
fit_expressions (e ∷ es) w = (w.0, fit_expressions es w.1)

abbrev FitB : ℕ → Body → Type 0
FitB n b = IsFitBody b × (body_levels b ≤ n)

abbrev FitS : ℕ → Statement → Type 0
FitS n x = IsFitStatement x × (statement_levels x ≤ suc n)

abbrev BodyReader : ℕ → Type 0
BodyReader n = (d : Data) → IsPlain d → Part (body_of n d) d (λ b. array (body_data b)) (FitB n)

rule_operation_inv : (word : List ℕ) (op : RuleOperation) → rule_operation_of word ≡ Some op → word ≡ spelling (operation_mark op)
rule_operation_inv word op h = go (beside_inv word rule_operations op h)
  where
    go : Beside word rule_operations op → word ≡ spelling (operation_mark op)
    go (inl x) = x.0 ∙ ap (λ o. spelling (operation_mark o)) x.1
    go (inr (inl x)) = x.0 ∙ ap (λ o. spelling (operation_mark o)) x.1
    go (inr (inr (inl x))) = x.0 ∙ ap (λ o. spelling (operation_mark o)) x.1
    go (inr (inr (inr (inl x)))) = x.0 ∙ ap (λ o. spelling (operation_mark o)) x.1
    go (inr (inr (inr (inr (inl x))))) = x.0 ∙ ap (λ o. spelling (operation_mark o)) x.1
    go (inr (inr (inr (inr (inr x))))) = absurd x

statement_none : (n : ℕ) (word : List ℕ) (d : Data) → list_data (string word ∷ []) ≡ d → Part (statement_of_none word) d statement_data (FitS n)
statement_none n word d path y h = go (beside_inv word ((codes "abort", abort) ∷ (codes "veto", veto) ∷ []) y h)
  where
    go : Beside word ((codes "abort", abort) ∷ (codes "veto", veto) ∷ []) y → (statement_data y ≡ d) × FitS n y
    go (inl x) = (ap statement_data (sym x.1) ∙ ap (λ w. list_data (string w ∷ [])) (sym x.0) ∙ path, subst (FitS n) x.1 (tt, omega arith))
    go (inr (inl x)) = (ap statement_data (sym x.1) ∙ ap (λ w. list_data (string w ∷ [])) (sym x.0) ∙ path, subst (FitS n) x.1 (tt, omega arith))
    go (inr (inr x)) = absurd x

statement_one : (n : ℕ) (word : List ℕ) (a d : Data) → IsPlain a → list_data (string word ∷ a ∷ []) ≡ d → Part (statement_of_one word a) d statement_data (FitS n)
statement_one n word a d plain path y h = go (or_inv _ _ y h)
  where
    other : Chosen word (statements_of_one a) y → (statement_data y ≡ d) × FitS n y
    other (inl x) = one_part statement_data (FitS n) emit (codes "emit") word a d (any_expression a) expression_data IsFitExpression y (any_inv a plain)
        (λ z. refl) (λ z f. (f, omega arith)) x.0 x.1 path
    other (inr (inl x)) = one_part statement_data (FitS n) veto_with (codes "veto") word a d (any_expression a) expression_data IsFitExpression y
        (any_inv a plain) (λ z. refl) (λ z f. (f, omega arith)) x.0 x.1 path
    other (inr (inr x)) = absurd x

    go : (option_and_then (λ op. of_one (on_rule op) (name_of a)) (rule_operation_of word) ≡ Some y) ⊎ (chosen (beside word (statements_of_one a)) ≡ Some y) → (statement_data y ≡ d) × FitS n y
    go (inl x) =
        let r = then_inv (λ (op : RuleOperation). of_one (on_rule op) (name_of a)) (rule_operation_of word) y x in
        one_part statement_data (FitS n) (on_rule r.0) (spelling (operation_mark r.0)) word a d (name_of a) string OkName y (name_inv a) (λ z. refl)
        (λ z f. (f, omega arith)) (rule_operation_inv word r.0 r.1) r.2 path
    go (inr x) = other (chosen_inv word (statements_of_one a) y x)

statement_two : (n : ℕ) → BodyReader n → (word : List ℕ) (a b d : Data) → IsPlain a → IsPlain b → list_data (string word ∷ a ∷ b ∷ []) ≡ d
    → Part (statement_of_two (body_of n) word a b) d statement_data (FitS n)
statement_two n ih word a b d plain_a plain_b path y h = go (chosen_inv word (statements_of_two (body_of n) a b) y h)
  where
    go : Chosen word (statements_of_two (body_of n) a b) y → (statement_data y ≡ d) × FitS n y
    go (inl x) = two_parts statement_data (FitS n) delete (codes "delete") word a b d (name_of a) (any_expression b) string expression_data OkName
        IsFitExpression y (name_inv a) (any_inv b plain_b) (λ z v. refl) (λ z v f g. ((f, g), omega arith)) x.0 x.1 path
    go (inr (inl x)) = two_parts statement_data (FitS n) signal (codes "signal") word a b d (name_of a) (list_form any_expression b) string
        (λ es. list_data (map expression_data es)) OkName (EachIs IsFitExpression) y (name_inv a) (list_form_inv any_expression expression_data IsFitExpression any_inv b plain_b)
        (λ z v. refl) (λ z v f g. ((f, fit_expressions v g), omega arith)) x.0 x.1 path
    go (inr (inr (inl x))) = two_parts statement_data (FitS n) for_answer (codes "for") word a b d (name_of a) (body_of n b) string (λ c. array (body_data c))
        OkName (FitB n) y (name_inv a) (ih b plain_b) (λ z v. refl) (λ z v f g. ((f, g.0), omega (arith, g.1))) x.0 x.1 path
    go (inr (inr (inr (inl x)))) = two_parts statement_data (FitS n) subtransaction (codes "sub") word a b d (body_of n a) (body_of n b) (λ c. array (body_data c))
        (λ c. array (body_data c)) (FitB n) (FitB n) y (ih a plain_a) (ih b plain_b) (λ z v. refl) (λ z v f g. ((f.0, g.0), omega (arith, f.1, g.1))) x.0 x.1 path
    go (inr (inr (inr (inr x)))) = absurd x

three_parts : {A B C X : Type 0} (data_of : X → Data) (Good : X → Type 0) (make : A → B → C → X) (w word : List ℕ) (a b c d : Data) (read_a : Option A) (read_b : Option B) (read_c : Option C)
    (data_a : A → Data) (data_b : B → Data) (data_c : C → Data) (Fit_a : A → Type 0) (Fit_b : B → Type 0) (Fit_c : C → Type 0) (y : X)
    → Part read_a a data_a Fit_a → Part read_b b data_b Fit_b → Part read_c c data_c Fit_c → ((x : A) (z : B) (v : C) → data_of (make x z v) ≡ form_data w (data_a x ∷ data_b z ∷ data_c v ∷ []))
    → ((x : A) (z : B) (v : C) → Fit_a x → Fit_b z → Fit_c v → Good (make x z v)) → word ≡ w → of_three make read_a read_b read_c ≡ Some y
    → list_data (string word ∷ a ∷ b ∷ c ∷ []) ≡ d → (data_of y ≡ d) × Good y
three_parts data_of Good make w word a b c d read_a read_b read_c data_a data_b data_c Fit_a Fit_b Fit_c y part_a part_b part_c spelled good is e path =
    let r = three_inv make read_a read_b read_c y e in
    let p = part_a r.0 r.3 in
    let q = part_b r.1 r.4 in
    let t = part_c r.2 r.5 in
    (ap data_of (sym r.6) ∙ spelled r.0 r.1 r.2 ∙ (λ i. form_data (is_back i) (p.0 i ∷ q.0 i ∷ t.0 i ∷ [])) ∙ path, subst Good r.6 (good r.0 r.1 r.2 p.1 q.1 t.1))
  where
    is_back : w ≡ word
    is_back = sym is

abbrev assignments_data : List Assignment → Data
assignments_data ps = list_data (map assignment_data ps)

statement_three : (n : ℕ) → BodyReader n → (word : List ℕ) (a b c d : Data) → IsPlain a → IsPlain b → IsPlain c → list_data (string word ∷ a ∷ b ∷ c ∷ []) ≡ d
    → Part (statement_of_three (body_of n) word a b c) d statement_data (FitS n)
statement_three n ih word a b c d plain_a plain_b plain_c path y h = go (chosen_inv word (statements_of_three (body_of n) a b c) y h)
  where
    set : (t : Setting) → word ≡ spelling (setting_mark t) → of_three (set_object t) (name_of a) (any_expression b) (list_form assignment_of c) ≡ Some y → (statement_data y ≡ d) × FitS n y
    set t is x = three_parts statement_data (FitS n) (set_object t) (spelling (setting_mark t)) word a b c d (name_of a) (any_expression b) (list_form assignment_of c)
        string expression_data assignments_data OkName IsFitExpression (EachIs IsFitAssignment) y
        (name_inv a) (any_inv b plain_b) (list_form_inv assignment_of assignment_data IsFitAssignment assignment_inv c plain_c) (λ z v q. refl)
        (λ z v q f g k. ((f, g, fit_assignments q k), omega arith)) is x path

    go : Chosen word (statements_of_three (body_of n) a b c) y → (statement_data y ≡ d) × FitS n y
    go (inl x) = set create x.0 x.1
    go (inr (inl x)) = set update x.0 x.1
    go (inr (inr (inl x))) = three_parts statement_data (FitS n) when (codes "if") word a b c d (any_expression a) (body_of n b) (body_of n c) expression_data
        (λ q. array (body_data q)) (λ q. array (body_data q)) IsFitExpression (FitB n) (FitB n) y
        (any_inv a plain_a) (ih b plain_b) (ih c plain_c) (λ z v q. refl) (λ z v q f g k. ((f, g.0, k.0), omega (arith, g.1, k.1))) x.0 x.1 path
    go (inr (inr (inr (inl x)))) = three_parts statement_data (FitS n) with_value (codes "let") word a b c d (name_of a) (aggregate_of b) (body_of n c)
        string aggregate_data (λ q. array (body_data q)) OkName IsFitAggregate (FitB n) y
        (name_inv a) (aggregate_inv b plain_b) (ih c plain_c) (λ z v q. refl) (λ z v q f g k. ((f, g, k.0), omega (arith, k.1))) x.0 x.1 path
    go (inr (inr (inr (inr x)))) = absurd x

statement_four : (n : ℕ) → BodyReader n → (word : List ℕ) (a b c e d : Data) → IsPlain a → IsPlain b → IsPlain c → IsPlain e → list_data (string word ∷ a ∷ b ∷ c ∷ e ∷ []) ≡ d
    → Part (statement_of_four (body_of n) word a b c e) d statement_data (FitS n)
statement_four n ih word a b c e d plain_a plain_b plain_c plain_e path y h = go (chosen_inv word (statements_of_four (body_of n) a b c e) y h)
  where
    go : Chosen word (statements_of_four (body_of n) a b c e) y → (statement_data y ≡ d) × FitS n y
    go (inl x) =
        let t = two_inv each (rows_of a b c) (body_of n e) y x.1 in
        let r = rows_inv a b c plain_c t.0 t.2 in
        let q = ih e plain_e t.1 t.3 in (
          ap statement_data (sym t.4) ∙ (λ i. form_data (sym x.0 i) (r.same_name i ∷ r.same_class i ∷ r.same_predicate i ∷ q.0 i ∷ []))
              ∙ path,
          subst (FitS n) t.4 ((r.fit, q.1.0), omega (arith, q.1.1)),
        )
    go (inr (inl x)) =
        let o = then_inv (λ (z : List ℕ). of_three (with_object z) (name_of b) (any_expression c) (body_of n e)) (name_of a) y x.1 in
        let m = name_inv a o.0 o.1 in
        let t = three_inv (with_object o.0) (name_of b) (any_expression c) (body_of n e) y o.2 in
        let p = name_inv b t.0 t.3 in
        let v = any_inv c plain_c t.1 t.4 in
        let q = ih e plain_e t.2 t.5 in
        (ap statement_data (sym t.6) ∙ (λ i. form_data (sym x.0 i) (m.0 i ∷ p.0 i ∷ v.0 i ∷ q.0 i ∷ [])) ∙ path, subst (FitS n) t.6 ((m.1, p.1, v.1, q.1.0), omega (arith, q.1.1)))
    go (inr (inr x)) = absurd x

statement_form_inv : (n : ℕ) → BodyReader n → (word : List ℕ) (ps : List Data) (d : Data) → ArePlain (items ps) → list_data (string word ∷ ps) ≡ d
    → Part (statement_of_form (body_of n) word ps) d statement_data (FitS n)
statement_form_inv n ih word [] d plain path y h = statement_none n word d path y h
statement_form_inv n ih word (a ∷ []) d plain path y h = statement_one n word a d plain.0 path y h
statement_form_inv n ih word (a ∷ b ∷ []) d plain path y h = statement_two n ih word a b d plain.0 plain.1.0 path y h
statement_form_inv n ih word (a ∷ b ∷ c ∷ []) d plain path y h = statement_three n ih word a b c d plain.0 plain.1.0 plain.1.1.0 path y h
statement_form_inv n ih word (a ∷ b ∷ c ∷ e ∷ []) d plain path y h = statement_four n ih word a b c e d plain.0 plain.1.0 plain.1.1.0 plain.1.1.1.0 path y h
statement_form_inv n ih word (a ∷ b ∷ c ∷ e ∷ v ∷ ps) d plain path y h = cc

abbrev read_statement : ℕ → Data → Option Statement
read_statement n x = option_and_then (λ (f : Form). statement_of_form (body_of n) f.word f.parts) (form_of x)

statement_inv : (n : ℕ) → BodyReader n → (d : Data) → IsPlain d → Part (read_statement n d) d statement_data (FitS n)
statement_inv n ih d plain y h =
    let r = then_inv (λ (f : Form). statement_of_form (body_of n) f.word f.parts) (form_of d) y h in
    let path = form_inv d r.0 r.1 in
    statement_form_inv n ih r.0.word r.0.parts d (plain_parts d r.0.word r.0.parts plain path) (sym path) y r.2

body_of_statements : (n : ℕ) (ss : List Statement) → EachIs (FitS n) ss → (body_data (body_in ss) ≡ items (map statement_data ss)) × FitB (suc n) (body_in ss)
body_of_statements n [] w = (refl, (tt, omega arith))
body_of_statements n (x ∷ ss) w =
    let r = body_of_statements n ss w.1 in
    (ap (item (statement_data x)) r.0, ((w.0.0, r.1.0), omega (arith, w.0.1, r.1.1)))

body_inv : (n : ℕ) → BodyReader n
unfolding body_of
body_inv zero d plain b h = cc
body_inv (suc n) d plain b h =
    let m = map_inv body_in (list_form (read_statement n) d) b h in
    let l = list_form_inv (read_statement n) statement_data (FitS n) (statement_inv n (body_inv n)) d plain m.0 m.1 in
    let r = body_of_statements n m.0 l.1 in
    (ap (λ c. array (body_data c)) (sym m.2) ∙ ap array r.0 ∙ l.0, subst (FitB (suc n)) m.2 r.1)

-- ---- scripts

kind_inv : (word : List ℕ) (k : Kind) → kind_named word ≡ Some k → word ≡ kind_word k
kind_inv word k h = go (beside_inv word ((codes "int", integer_kind) ∷ (codes "bool", boolean_kind) ∷ (codes "text", text_kind) ∷ []) k h)
  where
    go : Beside word ((codes "int", integer_kind) ∷ (codes "bool", boolean_kind) ∷ (codes "text", text_kind) ∷ []) k → word ≡ kind_word k
    go (inl x) = x.0 ∙ ap kind_word x.1
    go (inr (inl x)) = x.0 ∙ ap kind_word x.1
    go (inr (inr (inl x))) = x.0 ∙ ap kind_word x.1
    go (inr (inr (inr x))) = absurd x

make_field : List ℕ → Kind → Field
make_field x k = record { name = x; kind = k }

field_inv : (d : Data) → IsPlain d → Part (field_form d) d field_data IsFitField
unfolding make_field
field_inv d plain f h =
    let l = then_inv (λ (p : Data × Data). of_two make_field (name_of p.0) (option_and_then kind_named (as_str p.1))) (pair_of d) f h in
    let path = pair_inv d l.0 l.1 in
    let t = two_inv make_field (name_of l.0.0) (option_and_then kind_named (as_str l.0.1)) f l.2 in
    let n = name_inv l.0.0 t.0 t.2 in
    let k = then_inv kind_named (as_str l.0.1) t.1 t.3 in
    let word = ap string (sym (kind_inv k.0 t.1 k.2)) ∙ sym (string_inv l.0.1 k.0 k.1) in
    (ap field_data (sym t.4) ∙ (λ i. list_data (n.0 i ∷ word i ∷ [])) ∙ sym path, subst IsFitField t.4 n.1)

make_class : List ℕ → List Field → Class
make_class x fs = record { name = x; fields = fs }

class_inv : (d : Data) → IsPlain d → Part (class_form d) d class_data IsFitClass
unfolding make_class
class_inv d plain c h =
    let l = then_inv (λ (p : Data × Data). of_two make_class (name_of p.0) (list_form field_form p.1)) (pair_of d) c h in
    let path = pair_inv d l.0 l.1 in
    let t = two_inv make_class (name_of l.0.0) (list_form field_form l.0.1) c l.2 in
    let n = name_inv l.0.0 t.0 t.2 in
    let fs = list_form_inv field_form field_data IsFitField field_inv l.0.1 (subst IsPlain path plain).1.0 t.1 t.3 in
    (ap class_data (sym t.4) ∙ (λ i. list_data (n.0 i ∷ fs.0 i ∷ [])) ∙ sym path, subst IsFitClass t.4 (record { name = n.1; fields = fs.1 }))

abbrev modes : List (List ℕ × Coupling)
modes = (codes "immediate", immediate) ∷ (codes "deferred", deferred) ∷ (codes "separate", separate) ∷ (codes "dependent", dependent) ∷ (codes "exclusive", exclusive) ∷ []

mode_inv : (d : Data) (m : Coupling) → mode_of d ≡ Some m → string (coupling_word m) ≡ d
mode_inv d m h = let r = then_inv mode_named (as_str d) m h in ap string (sym (go r.0 (beside_inv r.0 modes m r.2))) ∙ sym (string_inv d r.0 r.1)
  where
    go : (word : List ℕ) → Beside word modes m → word ≡ coupling_word m
    go word (inl x) = x.0 ∙ ap coupling_word x.1
    go word (inr (inl x)) = x.0 ∙ ap coupling_word x.1
    go word (inr (inr (inl x))) = x.0 ∙ ap coupling_word x.1
    go word (inr (inr (inr (inl x)))) = x.0 ∙ ap coupling_word x.1
    go word (inr (inr (inr (inr (inl x))))) = x.0 ∙ ap coupling_word x.1
    go word (inr (inr (inr (inr (inr x))))) = absurd x

closed_inv : (ds : List Data) (c : Bool) → closed_of ds ≡ Some c → closed_data c ≡ ds
closed_inv [] c h = let same : false ≡ c = cc in ap closed_data (sym same)
closed_inv (d ∷ []) c h =
    let r = then_inv (λ (word : List ℕ). if bytes_eq word (codes "closed") then Some true else None) (as_str d) c h in
    let t = test_inv (bytes_eq r.0 (codes "closed")) (Some true) c r.2 in
    let same : true ≡ c = cc in
    ap closed_data (sym same) ∙ ap (λ x. x ∷ []) (ap string (sym (word_is r.0 (codes "closed") t.0)) ∙ sym (string_inv d r.0 r.1))
closed_inv (d ∷ e ∷ ds) c h = cc

make_rule : List ℕ → Bool → Event → Coupling → List Query → Coupling → Body → Rule
make_rule name is_closed event event_mode condition action_mode action =
    record { name = name; is_closed = is_closed; event = event; event_mode = event_mode; condition = condition; action_mode = action_mode; action = action }

rule_parts_inv : (lets : Bool) (x e m qs k b : Data) (c : List Data) → ArePlain (items (x ∷ e ∷ m ∷ qs ∷ k ∷ b ∷ c)) → (d : Data) → list_data (x ∷ e ∷ m ∷ qs ∷ k ∷ b ∷ c) ≡ d
    → Part (rule_of_parts lets x e m qs k b c) d rule_data (IsFitRule lets)
unfolding make_rule
rule_parts_inv lets x e m qs k b c plain d path r h =
    let last = λ (is_closed : Bool) (name : List ℕ) (event : Event) (mode : Coupling). of_three (make_rule name is_closed event mode) (list_form (query_of lets) qs) (mode_of k) (any_body b) in
    let a1 = then_inv (λ (is_closed : Bool). option_and_then (λ (name : List ℕ). option_and_then (λ (event : Event). option_and_then (last is_closed name event) (mode_of m)) (event_of 64 e))
    (name_of x)) (closed_of c) r h in
    let a2 = then_inv (λ (name : List ℕ). option_and_then (λ (event : Event). option_and_then (last a1.0 name event) (mode_of m)) (event_of 64 e)) (name_of x) r a1.2 in
    let a3 = then_inv (λ (event : Event). option_and_then (last a1.0 a2.0 event) (mode_of m)) (event_of 64 e) r a2.2 in
    let a4 = then_inv (last a1.0 a2.0 a3.0) (mode_of m) r a3.2 in
    let t = three_inv (make_rule a2.0 a1.0 a3.0 a4.0) (list_form (query_of lets) qs) (mode_of k) (any_body b) r a4.2 in
    let n = name_inv x a2.0 a2.1 in
    let v = event_inv 64 e plain.1.0 a3.0 a3.1 in
    let q = list_form_inv (query_of lets) query_data (IsFitQuery lets) (query_inv lets) qs plain.1.1.1.0 t.0 t.3 in
    let y = body_inv 64 b plain.1.1.1.1.1.0 t.2 t.5 in
    let first = mode_inv m a4.0 a4.1 in
    let second = mode_inv k t.1 t.4 in
    let closes = closed_inv c a1.0 a1.1 in (
      ap rule_data (sym t.6) ∙ (λ i. list_data (n.0 i ∷ v.0 i ∷ first i ∷ q.0 i ∷ second i ∷ y.0 i ∷ closes i)) ∙ path,
      subst (IsFitRule lets) t.6 (record { name = n.1; event = v.1.0; event_levels = v.1.1; condition = q.1; action = y.1.0; action_levels = y.1.1 }),
    )

rule_in_inv : (lets : Bool) (ds : List Data) → ArePlain (items ds) → (d : Data) → list_data ds ≡ d → Part (rule_in lets ds) d rule_data (IsFitRule lets)
rule_in_inv lets [] plain d path r h = cc
rule_in_inv lets (x ∷ []) plain d path r h = cc
rule_in_inv lets (x ∷ e ∷ []) plain d path r h = cc
rule_in_inv lets (x ∷ e ∷ m ∷ []) plain d path r h = cc
rule_in_inv lets (x ∷ e ∷ m ∷ qs ∷ []) plain d path r h = cc
rule_in_inv lets (x ∷ e ∷ m ∷ qs ∷ k ∷ []) plain d path r h = cc
rule_in_inv lets (x ∷ e ∷ m ∷ qs ∷ k ∷ b ∷ c) plain d path r h = rule_parts_inv lets x e m qs k b c plain d path r h

rule_inv : (lets : Bool) (d : Data) → IsPlain d → Part (rule_form lets d) d rule_data (IsFitRule lets)
rule_inv lets d plain r h =
    let l = then_inv (rule_in lets) (list_of d) r h in
    let path = list_inv d l.0 l.1 in
    rule_in_inv lets l.0 (subst IsPlain path plain) d (sym path) r l.2

item_in_inv : (word : List ℕ) (ps : List Data) (d : Data) → ArePlain (items ps) → list_data (string word ∷ ps) ≡ d → Part (item_in word ps) d item_data IsFitItem
item_in_inv word [] d plain path i h = cc
item_in_inv word (a ∷ []) d plain path i h = go (chosen_inv word (items_of_one a) i h)
  where
    go : Chosen word (items_of_one a) i → (item_data i ≡ d) × IsFitItem i
    go (inl x) = one_part item_data IsFitItem transaction (codes "tx") word a d (any_body a) (λ c. array (body_data c)) (FitB 64) i (body_inv 64 a plain.0) (λ z. refl) (λ z f. f) x.0 x.1 path
    go (inr (inl x)) = one_part item_data IsFitItem clock (codes "clock") word a d (natural_of a) natural_data Fits i (natural_inv a plain.0) (λ z. refl) (λ z f. f) x.0 x.1 path
    go (inr (inr x)) = absurd x
item_in_inv word (a ∷ b ∷ ps) d plain path i h = cc

item_inv : (d : Data) → IsPlain d → Part (item_form d) d item_data IsFitItem
unfolding item_form
item_inv d plain i h =
    let r = then_inv (λ (f : Form). item_in f.word f.parts) (form_of d) i h in
    let path = form_inv d r.0 r.1 in
    item_in_inv r.0.word r.0.parts d (plain_parts d r.0.word r.0.parts plain path) (sym path) i r.2

-- ---- trees with places

mutual
  plain_node : (n : T.Node) → IsPlain (T.data_of n)
  plain_node (T.integer at (pos z)) = tt
  plain_node (T.integer at (negsuc z)) = tt
  plain_node (T.truth at b) = tt
  plain_node (T.text at t) = tt
  plain_node (T.list at ns) = plain_nodes ns

  plain_nodes : (ns : T.Nodes) → ArePlain (T.items_of ns)
  plain_nodes T.no_nodes = tt
  plain_nodes (T.node n ns) = (plain_node n, plain_nodes ns)

depth_inv : (o : Option T.Node) (d : Option ℕ) → depth_form (T.data_if_any o) ≡ Some d → (depth_data d ≡ T.data_if_any o) × IsFitDepth d
depth_inv None d h = let same : None ≡ d = cc in (ap depth_data (sym same), subst IsFitDepth same tt)
depth_inv (Some n) d h =
    let m = map_inv Some (natural_of (T.data_of n)) d h in
    let r = natural_inv (T.data_of n) (plain_node n) m.0 m.1 in
    (ap depth_data (sym m.2) ∙ ap Some r.0, subst IsFitDepth m.2 r.1)

script_inv : (r : T.Script) (s : Script) → script_form (T.script_data r) ≡ Some s → (script_data s ≡ T.script_data r) × IsFitScript s
unfolding script_form
script_inv r s h =
    let root : Root = record { version = T.data_of r.version; depth = T.data_if_any r.depth; classes = T.data_of r.classes; rules = T.data_of r.rules; items = T.data_of r.items } in
    let is = root_valued (T.data_of r.version) (T.data_if_any r.depth) (T.data_of r.classes) (T.data_of r.rules) (T.data_of r.items) in
    let whole = sym (ap (option_and_then (λ (q : Root). option_and_then (script_of_version q) (natural_of q.version))) is) ∙ h in
    let v = then_inv (script_of_version root) (natural_of (T.data_of r.version)) s whole in
    let lets = has_let (pos v.0) in
    let parts = λ (d : Option ℕ). of_three (script_with v.0 d) (list_form class_form root.classes) (list_form (rule_form lets) root.rules) (list_form item_form root.items) in
    let d = then_inv parts (depth_form root.depth) s v.2 in
    let t = three_inv (script_with v.0 d.0) (list_form class_form root.classes) (list_form (rule_form lets) root.rules) (list_form item_form root.items) s d.2 in
    let version = natural_inv root.version (plain_node r.version) v.0 v.1 in
    let depth = depth_inv r.depth d.0 d.1 in
    let classes = list_form_inv class_form class_data IsFitClass class_inv root.classes (plain_node r.classes) t.0 t.3 in
    let rules = list_form_inv (rule_form lets) rule_data (IsFitRule lets) (rule_inv lets) root.rules (plain_node r.rules) t.1 t.4 in
    let items = list_form_inv item_form item_data IsFitItem item_inv root.items (plain_node r.items) t.2 t.5 in (
      ap script_data (sym t.6) ∙ (λ i. root_data (version.0 i) (depth.0 i) (classes.0 i) (rules.0 i) (items.0 i)),
      subst IsFitScript t.6 (record { version = version.1; depth = depth.1; classes = classes.1; rules = rules.1; items = items.1 }),
    )

pub canonical_is_fixed : CanonicalIsFixed
canonical_is_fixed r canonical h =
    let m = map_inv print_script (script_form (T.script_data r)) canonical h in
    let w = script_inv r m.0 m.1 in
    let read = scripts_are_read m.0 w.1 in
    (read.0, ap read_script (sym m.2) ∙ read.1, read.2 ∙ w.0)
