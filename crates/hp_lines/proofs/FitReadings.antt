-- What is read from JSON fits: each constant and each moment has 64 bits, and what is created is of an existing class.
use Rattle.std.proofs.Common.{◌≡◌, refl, subst, ℕ, zero, suc, ℤ, pos, negsuc, List, [], ◌∷◌, ◌++◌, length, Option, None, Some, Bool, true, false, ◌&&◌, IsTrue, Ok, Err}
use Rattle.std.proofs.lemmas.Bool.{and_from}
use Rattle.std.specs.Prelude.{⊤, nat_lt, codes, option_map, option_and_then, bytes_eq, if◌then◌else◌}
use Rattle.std.specs.Option.{option_or}
use Rattle.std.specs.List.{AllByRecursion, list_all}
use Rattle.serde_json.specs.Data.{Data, null, boolean, number, string, array, object}
use Rattle.serde_json.specs.Find.{as_i64}
use Rattle.hp_model.specs.Values.{Name, fits_64}
use Rattle.hp_model.specs.Expressions.{Expression}
use Rattle.hp_model.specs.Refusals.{Refusal, bad_name, over_limit, expression_limit, Path, item_at, Decoded, Limit, shaped, whole}
use Rattle.hp_model.specs.Json.{Form, form_of, beside, list_of}
use Rattle.hp_model.specs.Parts.{index_at, name_at, integer_at, not_below, number_from, list_at, short_list_at, place_at, read_from, read_each}
use Rattle.hp_model.specs.Scopes as S
use Rattle.hp_model.specs.Scopes.{is_fourth}
use Rattle.hp_model.specs.ExpressionGrammar as X
use Rattle.hp_model.specs.ExpressionGrammar.{ExpressionForm, expression_form_at, text_at, field_of_at, key_of_at, new_field_at, old_field_at, key_in_at, argument_at, time_of_at}
use Rattle.hp_model.specs.ExpressionGrammar.{value_named_at, operands_at, expression_from, expression_within, expression_at, expression_form, common_form, form_of_two, other_form_of_two}
use Rattle.hp_model.specs.ExpressionGrammar.{new_expression_form, arithmetic_of, comparison_of}
use Rattle.hp_model.specs.Decode.{Version}
use Rattle.hp_model.specs.Ranges.{expression_fits}
use Rattle.hp_model.proofs.WellFormedParts.{Reads, Reads-value, Reads-none, Reads-any, Reads-more, Reads-then, Reads-unless, Reads-shaped, IsNumber, place_reads}
use Rattle.hp_lines.proofs.FitData.{DataFits, AllFit, whole_fits, mapped, chained, tested, list_fits, form_fits}

-- ---- readings

pub Reads-whole : {A : Type 0} (path : Path) (o : Option A) → Reads (λ x. o ≡ Some x) (whole path o)
Reads-whole path (Some x) = Reads-value x refl
Reads-whole path None = Reads-none _

pub Reads-cond : {A : Type 0} {P : A → Type 0} (b : Bool) {x y : Decoded A} → Reads P x → Reads P y → Reads P (if b then x else y)
Reads-cond true h k = h
Reads-cond false h k = k

-- what is read of a value that fits
abbrev pub Fits : {A : Type 0} → (A → Type 0) → (Path → Data → Decoded A) → Type 0
Fits P read = (path : Path) (d : Data) → DataFits d → Reads P (read path d)

pub list_reads : Fits AllFit list_at
list_reads path d h = Reads-more (λ ds is. list_fits d ds h is) (Reads-shaped path (list_of d))

pub short_reads : (most : ℕ) (limit : Limit) → Fits AllFit (short_list_at most limit)
unfolding short_list_at
short_reads most limit path d h = Reads-then (list_reads path d h) λ ds fit. Reads-unless (nat_lt most (length ds)) _ ds (λ few. fit)

pub all_append : {A : Type 0} (P : A → Type 0) (xs ys : List A) → AllByRecursion P xs → AllByRecursion P ys → AllByRecursion P (xs ++ ys)
all_append P [] ys h k = k
all_append P (x ∷ xs) ys h k = (h.0, all_append P xs ys h.1 k)

from_reads : {A D : Type 0} (P : A → Type 0) (Q : D → Type 0) (read : List A → Path → D → Decoded A) → ((before : List A) (path : Path) (d : D) → Q d → Reads P (read before path d))
    → (path : Path) (before : List A) (i : ℕ) (ds : List D) → AllByRecursion Q ds → AllByRecursion P before → Reads (AllByRecursion P) (read_from read path before i ds)
from_reads P Q read one path before i [] h fit = Reads-value before fit
from_reads P Q read one path before i (d ∷ ds) h fit =
    Reads-then (one before (item_at path i) d h.0) λ x is. from_reads P Q read one path (before ++ x ∷ []) (suc i) ds h.1 (all_append P before (x ∷ []) fit (is, tt))

pub each_reads : {A D : Type 0} (P : A → Type 0) (Q : D → Type 0) (read : List A → Path → D → Decoded A) → ((before : List A) (path : Path) (d : D) → Q d → Reads P (read before path d))
    → (path : Path) (ds : List D) → AllByRecursion Q ds → Reads (AllByRecursion P) (read_each read path ds)
each_reads P Q read one path ds h = from_reads P Q read one path [] 0 ds h tt

pub list_true : {A : Type 0} (p : A → Bool) (xs : List A) → AllByRecursion (λ x. IsTrue (p x)) xs → IsTrue (list_all p xs)
list_true p [] h = refl
list_true p (x ∷ xs) h = and_from (p x) (list_all p xs) h.0 (list_true p xs h.1)

-- ---- numbers

integer_reads : Fits (λ z. IsTrue (fits_64 z)) integer_at
unfolding integer_at
integer_reads path (number n) h = Reads-more (λ z is. whole_fits n z h is) (Reads-whole path (as_i64 n))
integer_reads path null h = Reads-none _
integer_reads path (boolean b) h = Reads-none _
integer_reads path (string s) h = Reads-none _
integer_reads path (array ds) h = Reads-none _
integer_reads path (object ms) h = Reads-none _

not_below_fits : (least : ℕ) (z : ℤ) (n : ℕ) → IsTrue (fits_64 z) → not_below least z ≡ Some n → IsTrue (fits_64 (pos n))
not_below_fits least (pos m) n h e = by (nat_lt m least) e
  where
    by : (b : Bool) → (if b then None else Some m) ≡ Some n → IsTrue (fits_64 (pos n))
    by true is = cc
    by false is = let same : m ≡ n = cc in subst (λ k. IsTrue (fits_64 (pos k))) same h
not_below_fits least (negsuc m) n h e = cc

pub time_reads : (least : ℕ) → Fits (λ n. IsTrue (fits_64 (pos n))) (number_from least)
unfolding number_from
time_reads least path d h = Reads-then (integer_reads path d h) λ z fit. Reads-more (λ n is. not_below_fits least z n fit is) (Reads-shaped path (not_below least z))

abbrev Passed : Decoded ⊤ → Type 0
Passed check = check ≡ Ok tt

passed_if : (b : Bool) (r : Refusal) → Passed (if b then Ok tt else Err r) → b ≡ true
passed_if true r is = refl
passed_if false r is = cc

class_below : (count n : ℕ) → IsNumber count n → IsTrue (nat_lt n count)
class_below count n h = passed_if (nat_lt n count) (bad_name []) (h [])

pub class_reads : (classes : List Name) (path : Path) (d : Data) → Reads (λ n. IsTrue (nat_lt n (length classes))) (place_at classes path d)
class_reads classes path d = Reads-more (λ n is. class_below (length classes) n is) (place_reads classes path d)

-- ---- tables of forms

pub beside_fits : {A : Type 0} (P : A → Type 0) (word : List ℕ) (table : List (List ℕ × A)) (x : A) → beside word table ≡ Some x → AllByRecursion (λ (e : List ℕ × A). P e.1) table → P x
beside_fits P word [] x e h = cc
beside_fits P word (entry ∷ entries) x e h = by (bytes_eq word entry.0) (λ is. beside_fits P word entries x is h.1) e
  where
    by : (b : Bool) → (beside word entries ≡ Some x → P x) → (if b then Some entry.1 else beside word entries) ≡ Some x → P x
    by true later is = let same : entry.1 ≡ x = cc in subst P same h.0
    by false later is = later is

pub or_fits : {A : Type 0} (P : A → Type 0) (o p : Option A) (x : A) → ((y : A) → o ≡ Some y → P y) → ((y : A) → p ≡ Some y → P y) → option_or o p ≡ Some x → P x
or_fits P None p x h k e = k x e
or_fits P (Some y) p x h k e = h x e

pub if_fits : {A : Type 0} (P : A → Type 0) (b : Bool) (o : Option A) (x : A) → ((y : A) → o ≡ Some y → P y) → (if b then o else None) ≡ Some x → P x
if_fits P b o x h e = h x (tested b o x e).1

pub either_fits : {A : Type 0} (P : A → Type 0) (b : Bool) (o p : Option A) (x : A) → ((y : A) → o ≡ Some y → P y) → ((y : A) → p ≡ Some y → P y) → (if b then o else p) ≡ Some x → P x
either_fits P true o p x h k e = h x e
either_fits P false o p x h k e = k x e

pub map_fits : {A B : Type 0} (P : B → Type 0) (f : A → B) (o : Option A) (x : B) → ((y : A) → P (f y)) → option_map f o ≡ Some x → P x
map_fits P f o x h e = let m = mapped f o x e in subst P m.2 (h m.0)

pub some_fits : {A : Type 0} (P : A → Type 0) (y x : A) → Some y ≡ Some x → P y → P x
some_fits P y x e h = let same : y ≡ x = cc in subst P same h

-- the form of a value
pub formed : {A : Type 0} (P : A → Type 0) (f : Form → Option A) → ((g : Form) (x : A) → AllFit g.parts → f g ≡ Some x → P x) → Fits P (λ path d. shaped path (option_and_then f (form_of d)))
formed P f one path d h =
    Reads-more (λ x is. let c = chained f (form_of d) x is in one c.0 x (form_fits d c.0 h c.1) c.2) (Reads-shaped path (option_and_then f (form_of d)))

-- ---- expressions

abbrev ExpressionFormFits : ExpressionForm → Type 0
ExpressionFormFits (X.number_form z) = IsTrue (fits_64 z)
ExpressionFormFits (X.arithmetic_form op a b) = DataFits a × DataFits b
ExpressionFormFits (X.comparison_form op a b) = DataFits a × DataFits b
ExpressionFormFits (X.negated_form a) = DataFits a
ExpressionFormFits (X.inverted_form a) = DataFits a
ExpressionFormFits (X.both_form a b) = DataFits a × DataFits b
ExpressionFormFits (X.either_form a b) = DataFits a × DataFits b
ExpressionFormFits form = ⊤

of_two : (word : List ℕ) (a b : Data) (x : ExpressionForm) → DataFits a → DataFits b → form_of_two word a b ≡ Some x → ExpressionFormFits x
of_two word a b x h k e =
    or_fits ExpressionFormFits (option_map (λ op. X.arithmetic_form op a b) (arithmetic_of word))
    (option_or (option_map (λ op. X.comparison_form op a b) (comparison_of word)) (other_form_of_two word a b)) x
    (λ y is. map_fits ExpressionFormFits (λ op. X.arithmetic_form op a b) (arithmetic_of word) y (λ op. (h, k)) is)
    (λ y is. or_fits ExpressionFormFits (option_map (λ op. X.comparison_form op a b) (comparison_of word)) (other_form_of_two word a b) y
    (λ z at. map_fits ExpressionFormFits (λ op. X.comparison_form op a b) (comparison_of word) z (λ op. (h, k)) at)
    (λ z at. beside_fits ExpressionFormFits word
    ((codes "and", X.both_form a b) ∷ (codes "or", X.either_form a b) ∷ (codes "of", X.field_form a b) ∷ (codes "new", X.new_form a b) ∷
    (codes "old", X.old_form a b) ∷ (codes "arg", X.argument_form a b) ∷ [])
    z at ((h, k), ((h, k), (tt, (tt, (tt, (tt, tt))))))) is) e

common : (word : List ℕ) (parts : List Data) (x : ExpressionForm) → AllFit parts → common_form word parts ≡ Some x → ExpressionFormFits x
common word [] x h e = if_fits ExpressionFormFits (bytes_eq word (codes "count")) (Some X.count_form) x (λ y is. some_fits ExpressionFormFits X.count_form y is tt) e
common word (a ∷ []) x h e =
    beside_fits ExpressionFormFits word
    ((codes "neg", X.negated_form a) ∷ (codes "not", X.inverted_form a) ∷ (codes "key", X.key_form a) ∷ (codes "id", X.key_in_form a) ∷
    (codes "time", X.time_form a) ∷ []) x e (h.0, (h.0, (tt, (tt, (tt, tt)))))
common word (a ∷ b ∷ []) x h e = of_two word a b x h.0 h.1.0 e
common word (a ∷ b ∷ c ∷ parts) x h e = cc

newer : (word : List ℕ) (parts : List Data) (x : ExpressionForm) → new_expression_form word parts ≡ Some x → ExpressionFormFits x
newer word [] x e = beside_fits ExpressionFormFits word ((codes "now", X.now_form) ∷ []) x e (tt, tt)
newer word (a ∷ []) x e = beside_fits ExpressionFormFits word ((codes "value", X.value_form a) ∷ []) x e (tt, tt)
newer word (a ∷ b ∷ parts) x e = cc

form_fitting : (version : Version) (f : Form) (x : ExpressionForm) → AllFit f.parts → expression_form version f.word f.parts ≡ Some x → ExpressionFormFits x
form_fitting version f x h e =
    or_fits ExpressionFormFits (common_form f.word f.parts) (if is_fourth version then new_expression_form f.word f.parts else None) x (λ y is. common f.word f.parts y h is)
    (λ y is. if_fits ExpressionFormFits (is_fourth version) (new_expression_form f.word f.parts) y (λ z at. newer f.word f.parts z at) is) e

expression_form_reads : (version : Version) → Fits ExpressionFormFits (expression_form_at version)
expression_form_reads version path (number n) h = Reads-then (Reads-whole path (as_i64 n)) λ z is. Reads-value _ (whole_fits n z h is)
expression_form_reads version path (boolean b) h = Reads-value _ tt
expression_form_reads version path (string t) h = Reads-value _ tt
expression_form_reads version path null h = formed ExpressionFormFits (λ f. expression_form version f.word f.parts) (form_fitting version) path null h
expression_form_reads version path (array ds) h = formed ExpressionFormFits (λ f. expression_form version f.word f.parts) (form_fitting version) path (array ds) h
expression_form_reads version path (object ms) h = formed ExpressionFormFits (λ f. expression_form version f.word f.parts) (form_fitting version) path (object ms) h

abbrev pub ExpressionFits : Expression → Type 0
ExpressionFits e = IsTrue (expression_fits e)

text_reads : (t : List ℕ) → Reads ExpressionFits (text_at t)
unfolding text_at
text_reads t = Reads-unless (nat_lt 1024 (length t)) _ _ (λ few. refl)

field_reads : (setting : S.Setting) (path : Path) (a b : Data) → Reads ExpressionFits (field_of_at setting path a b)
unfolding field_of_at
field_reads setting path a b = Reads-then (Reads-any (S.row_at setting.names (item_at path 1) a)) λ x _. Reads-then (Reads-any (name_at (item_at path 2) b)) λ f _. Reads-value _ refl

key_reads : (setting : S.Setting) (path : Path) (a : Data) → Reads ExpressionFits (key_of_at setting path a)
unfolding key_of_at
key_reads setting path a = Reads-then (Reads-any (S.row_at setting.names (item_at path 1) a)) λ x _. Reads-value _ refl

new_reads : (path : Path) (a b : Data) → Reads ExpressionFits (new_field_at path a b)
unfolding new_field_at
new_reads path a b = Reads-then (Reads-any (index_at (item_at path 1) a)) λ x _. Reads-then (Reads-any (name_at (item_at path 2) b)) λ f _. Reads-value _ refl

old_reads : (path : Path) (a b : Data) → Reads ExpressionFits (old_field_at path a b)
unfolding old_field_at
old_reads path a b = Reads-then (Reads-any (index_at (item_at path 1) a)) λ x _. Reads-then (Reads-any (name_at (item_at path 2) b)) λ f _. Reads-value _ refl

key_in_reads : (path : Path) (a : Data) → Reads ExpressionFits (key_in_at path a)
unfolding key_in_at
key_in_reads path a = Reads-then (Reads-any (index_at (item_at path 1) a)) λ x _. Reads-value _ refl

argument_reads : (path : Path) (a b : Data) → Reads ExpressionFits (argument_at path a b)
unfolding argument_at
argument_reads path a b = Reads-then (Reads-any (index_at (item_at path 1) a)) λ x _. Reads-then (Reads-any (index_at (item_at path 2) b)) λ f _. Reads-value _ refl

time_of_reads : (path : Path) (a : Data) → Reads ExpressionFits (time_of_at path a)
unfolding time_of_at
time_of_reads path a = Reads-then (Reads-any (index_at (item_at path 1) a)) λ x _. Reads-value _ refl

value_reads : (setting : S.Setting) (path : Path) (a : Data) → Reads ExpressionFits (value_named_at setting path a)
unfolding value_named_at
value_reads setting path a = Reads-then (Reads-any (S.let_at setting.names (item_at path 1) a)) λ x _. Reads-value _ refl

operands_reads : (operand : Path → Data → Decoded Expression) → Fits ExpressionFits operand → (path : Path) (a b : Data) → DataFits a → DataFits b
    → Reads (λ (pair : Expression × Expression). IsTrue (expression_fits pair.0 && expression_fits pair.1)) (operands_at operand path a b)
unfolding operands_at
operands_reads operand one path a b h k =
    Reads-then (one (item_at path 1) a h) λ x fit. Reads-then (one (item_at path 2) b k) λ y fits. Reads-value _ (and_from (expression_fits x) (expression_fits y) fit fits)

expression_from_reads : (setting : S.Setting) (operand : Path → Data → Decoded Expression) → Fits ExpressionFits operand → (path : Path) (form : ExpressionForm) → ExpressionFormFits form
    → Reads ExpressionFits (expression_from setting operand path form)
expression_from_reads setting operand one path (X.number_form z) h = Reads-value _ h
expression_from_reads setting operand one path (X.truth_form b) h = Reads-value _ refl
expression_from_reads setting operand one path (X.text_form t) h = text_reads t
expression_from_reads setting operand one path (X.arithmetic_form op a b) h = Reads-then (operands_reads operand one path a b h.0 h.1) λ pair fit. Reads-value _ fit
expression_from_reads setting operand one path (X.comparison_form op a b) h = Reads-then (operands_reads operand one path a b h.0 h.1) λ pair fit. Reads-value _ fit
expression_from_reads setting operand one path (X.negated_form a) h = Reads-then (one (item_at path 1) a h) λ e fit. Reads-value _ fit
expression_from_reads setting operand one path (X.inverted_form a) h = Reads-then (one (item_at path 1) a h) λ e fit. Reads-value _ fit
expression_from_reads setting operand one path (X.both_form a b) h = Reads-then (operands_reads operand one path a b h.0 h.1) λ pair fit. Reads-value _ fit
expression_from_reads setting operand one path (X.either_form a b) h = Reads-then (operands_reads operand one path a b h.0 h.1) λ pair fit. Reads-value _ fit
expression_from_reads setting operand one path (X.field_form a b) h = field_reads setting path a b
expression_from_reads setting operand one path (X.key_form a) h = key_reads setting path a
expression_from_reads setting operand one path (X.new_form a b) h = new_reads path a b
expression_from_reads setting operand one path (X.old_form a b) h = old_reads path a b
expression_from_reads setting operand one path (X.key_in_form a) h = key_in_reads path a
expression_from_reads setting operand one path (X.argument_form a b) h = argument_reads path a b
expression_from_reads setting operand one path (X.time_form a) h = time_of_reads path a
expression_from_reads setting operand one path X.count_form h = Reads-value _ refl
expression_from_reads setting operand one path X.now_form h = Reads-value _ refl
expression_from_reads setting operand one path (X.value_form a) h = value_reads setting path a

expression_reads : (setting : S.Setting) (levels : ℕ) → Fits ExpressionFits (expression_within setting levels)
unfolding expression_within
expression_reads setting zero path d h = Reads-then (Reads-any (expression_form_at setting.version path d)) λ form _. Reads-none (over_limit expression_limit)
expression_reads setting (suc levels) path d h =
    Reads-then (expression_form_reads setting.version path d h) λ form fit. expression_from_reads setting (expression_within setting levels) (expression_reads setting levels) path form fit

pub whole_reads : (setting : S.Setting) → Fits ExpressionFits (expression_at setting)
whole_reads setting = expression_reads setting 16
