-- What the grammar reads is well formed: how readings and checks compose, names, numbers and lists.
use Rattle.std.proofs.Common.{arith, ◌≡◌, refl, ap, sym, ◌∙◌, subst, ℕ, suc, ◌+◌, ◌<◌, ℤ, pos, negsuc, List, [], ◌∷◌, ◌++◌, length, append_assoc, append-nil, Option, None, Some}
use Rattle.std.proofs.Common.{Bool, true, false, ◌||◌}
use Rattle.std.proofs.lemmas.Bool.Decides.{nat_tests}
use Rattle.std.specs.Prelude.{⊤, Ok, Err, not, nat_lt, cond, is_some, bytes_eq, option_and_then, if◌then◌else◌}
use Rattle.std.specs.List.{list_any, position_from}
use Rattle.serde_json.specs.Data.{Data}
use Rattle.serde_json.specs.Find.{as_str}
use Rattle.hp_model.specs.Values.{Name, ◌>>=◌}
use Rattle.hp_model.specs.Refusals.{Path, item_at, Limit, Refusal, Decoded, shaped, known}
use Rattle.hp_model.specs.Parts.{is_name, name_in, name_of, name_at, place_of, contains_name, new_name_at, place_at, integer_at, not_below, number_from, list_at, short_list_at, read_from, read_each}
use Rattle.hp_model.specs.Scopes as S
use Rattle.hp_model.specs.Scopes.{row_at, let_at, new_row_at}
use Rattle.hp_model.specs.Checked.{Checked, is_known, name_check, name_unless, new_name_check, known_name_check, number_check, limit_check, each_check}

-- ---- readings

-- what is read, if anything is, has a property
pub record Reads {A : Type 0} (P : A → Type 0) (read : Decoded A) : Type 0 where
  pub fact : (x : A) → read ≡ Ok x → P x

pub Reads-value : {A : Type 0} {P : A → Type 0} (x : A) → P x → Reads P (Ok x)
Reads-value {P = P} x h = record { fact = λ y e. let same : x ≡ y = cc in subst P same h }

pub Reads-none : {A : Type 0} {P : A → Type 0} (e : Refusal) → Reads P (Err e)
Reads-none e = record { fact = λ y h. cc }

pub Reads-any : {A : Type 0} (read : Decoded A) → Reads (λ _. ⊤) read
Reads-any read = record { fact = λ y h. tt }

pub Reads-more : {A : Type 0} {P Q : A → Type 0} {read : Decoded A} → ((x : A) → P x → Q x) → Reads P read → Reads Q read
Reads-more more reads = record { fact = λ y e. more y (reads.fact y e) }

-- two properties of what is read
pub Reads-both : {A : Type 0} {P Q : A → Type 0} {read : Decoded A} → Reads P read → Reads Q read → Reads (λ x. P x × Q x) read
Reads-both p q = record { fact = λ y e. (p.fact y e, q.fact y e) }

-- one reading after another
pub Reads-then : {A B : Type 0} {P : A → Type 0} {Q : B → Type 0} {read : Decoded A} {f : A → Decoded B}
    → Reads P read → ((x : A) → P x → Reads Q (f x)) → Reads Q (read >>= f)
Reads-then {read = Ok x} reads next = record { fact = λ y e. (next x (reads.fact x refl)).fact y e }
Reads-then {read = Err e} reads next = record { fact = λ y e. cc }

-- what a test refuses
pub Reads-unless : {A : Type 0} {P : A → Type 0} (b : Bool) (e : Refusal) (x : A) → (b ≡ false → P x) → Reads P (if b then Err e else Ok x)
Reads-unless true e x h = Reads-none e
Reads-unless false e x h = Reads-value x (h refl)

pub Reads-if : {A : Type 0} {P : A → Type 0} (b : Bool) (e : Refusal) (x : A) → (b ≡ true → P x) → Reads P (if b then Ok x else Err e)
Reads-if true e x h = Reads-value x (h refl)
Reads-if false e x h = Reads-none e

pub Reads-shaped : {A : Type 0} (path : Path) (o : Option A) → Reads (λ x. o ≡ Some x) (shaped path o)
Reads-shaped path (Some x) = Reads-value x refl
Reads-shaped path None = Reads-none _

pub Reads-known : {A : Type 0} (path : Path) (o : Option A) → Reads (λ x. o ≡ Some x) (known path o)
Reads-known path (Some x) = Reads-value x refl
Reads-known path None = Reads-none _

-- ---- checks

-- one check after another
pub passes_then : (first second : Checked) → first ≡ Ok tt → second ≡ Ok tt → (first >>= λ _. second) ≡ Ok tt
passes_then first second h k = rw h k

-- ---- names

is_named : (o : Option (List ℕ)) (x : Name) → option_and_then name_in o ≡ Some x → is_name x ≡ true
is_named None x h = cc
is_named (Some text) x h = go (is_name text) refl h
  where
    go : (b : Bool) → is_name text ≡ b → (if b then Some text else None) ≡ Some x → is_name x ≡ true
    go true is e = let same : text ≡ x = cc in subst (λ t. is_name t ≡ true) same is
    go false is e = cc

pub name_reads : (path : Path) (d : Data) → Reads (λ x. is_name x ≡ true) (name_at path d)
name_reads path d = Reads-more (λ x. is_named (as_str d) x) (Reads-shaped path (name_of d))

pub name_passes : (path : Path) (x : Name) → is_name x ≡ true → name_check path x ≡ Ok tt
name_passes path x h = rw h refl

unless_passes : (refused : Bool) (path : Path) (x : Name) → is_name x ≡ true → refused ≡ false → name_unless refused path x ≡ Ok tt
unfolding name_unless
unless_passes refused path x h k = rw (h, k) refl

pub any_position : {X : Type 0} (test : X → Bool) (i : ℕ) (xs : List X) → is_some (position_from test i xs) ≡ list_any test xs
any_position test i [] = refl
any_position test i (x ∷ xs) = go (test x) (any_position test (i + 1) xs)
  where
    go : (b : Bool) → is_some (position_from test (i + 1) xs) ≡ list_any test xs → is_some (cond b (Some i) (position_from test (i + 1) xs)) ≡ (b || list_any test xs)
    go true same = refl
    go false same = same

pub known_same : (names : List Name) (x : Name) → S.is_known names x ≡ is_known names x
known_same [] x = refl
known_same (n ∷ ns) x = ap (λ b. bytes_eq n x || b) (known_same ns x)

new_passes : (names : List Name) (path : Path) (x : Name) → is_name x ≡ true → is_known names x ≡ false → new_name_check names path x ≡ Ok tt
new_passes names path x h k = unless_passes (is_known names x) path x h k

pub known_passes : (names : List Name) (path : Path) (x : Name) → is_name x ≡ true → is_known names x ≡ true → known_name_check names path x ≡ Ok tt
known_passes names path x h k = unless_passes (not (is_known names x)) path x h (ap not k)

-- a name that may be new, and one that is known
abbrev pub IsNew : List Name → Name → Type 0
IsNew names x = (path : Path) → new_name_check names path x ≡ Ok tt

abbrev pub IsKnown : List Name → Name → Type 0
IsKnown names x = (path : Path) → known_name_check names path x ≡ Ok tt

pub new_name_reads : (names : List Name) (path : Path) (d : Data) → Reads (IsNew names) (new_name_at names path d)
unfolding new_name_at
new_name_reads names path d =
    Reads-then (name_reads path d) λ x named.
    Reads-unless (contains_name names x) _ x λ none q. new_passes names q x named (sym (any_position (λ n. bytes_eq n x) 0 names) ∙ none)

pub new_row_reads : (names : S.Names) (path : Path) (d : Data) → Reads (IsNew (S.taken names)) (new_row_at names path d)
unfolding new_row_at
new_row_reads names path d =
    Reads-then (name_reads path d) λ x named.
    Reads-unless (S.is_known (S.taken names) x) _ x λ none q. new_passes (S.taken names) q x named (sym (known_same (S.taken names) x) ∙ none)

pub row_reads : (names : S.Names) (path : Path) (d : Data) → Reads (IsKnown names.rows) (row_at names path d)
unfolding row_at
row_reads names path d =
    Reads-then (name_reads path d) λ x named.
    Reads-if (S.is_known names.rows x) _ x λ some q. known_passes names.rows q x named (sym (known_same names.rows x) ∙ some)

pub let_reads : (names : S.Names) (path : Path) (d : Data) → Reads (IsKnown names.values) (let_at names path d)
unfolding let_at
let_reads names path d =
    Reads-then (name_reads path d) λ x named.
    Reads-if (S.is_known names.values x) _ x λ some q. known_passes names.values q x named (sym (known_same names.values x) ∙ some)

-- ---- numbers

position_within : {X : Type 0} (test : X → Bool) (xs : List X) (i n : ℕ) → position_from test i xs ≡ Some n → n < i + length xs
position_within test [] i n h = cc
position_within test (x ∷ xs) i n h = go (test x) h (position_within test xs (i + 1) n)
  where
    go : (b : Bool) → cond b (Some i) (position_from test (i + 1) xs) ≡ Some n → (position_from test (i + 1) xs ≡ Some n → n < i + 1 + length xs) → n < i + suc (length xs)
    go true here later = let same : i ≡ n = cc in omega arith
    go false there later = omega (arith, later there)

number_passes : (count : ℕ) (path : Path) (n : ℕ) → n < count → number_check count path n ≡ Ok tt
number_passes count path n h = let below : nat_lt n count ≡ true = grind (arith, nat_tests) in rw below refl

-- the number of an item of a list
abbrev pub IsNumber : ℕ → ℕ → Type 0
IsNumber count n = (path : Path) → number_check count path n ≡ Ok tt

pub place_reads : (names : List Name) (path : Path) (d : Data) → Reads (IsNumber (length names)) (place_at names path d)
unfolding place_at
place_reads names path d =
    Reads-then (Reads-any (name_at path d)) λ x _.
    Reads-more (λ n found q. number_passes (length names) q n (let below = position_within (λ m. bytes_eq m x) names 0 n found in omega (arith, below))) (Reads-known path (place_of names x))

not_below_least : (least n : ℕ) (z : ℤ) → not_below least z ≡ Some n → nat_lt n least ≡ false
not_below_least least n (pos m) h = go (nat_lt m least) refl h
  where
    go : (b : Bool) → nat_lt m least ≡ b → (if b then None else Some m) ≡ Some n → nat_lt n least ≡ false
    go true is e = cc
    go false is e = let same : m ≡ n = cc in subst (λ k. nat_lt k least ≡ false) same is
not_below_least least n (negsuc m) h = cc

pub number_reads : (least : ℕ) (path : Path) (d : Data) → Reads (λ n. nat_lt n least ≡ false) (number_from least path d)
unfolding number_from
number_reads least path d = Reads-then (Reads-any (integer_at path d)) λ z _. Reads-more (λ n h. not_below_least least n z h) (Reads-shaped path (not_below least z))

-- ---- lists

pub short_list_reads : (most : ℕ) (limit : Limit) (path : Path) (d : Data) → Reads (λ ds. nat_lt most (length ds) ≡ false) (short_list_at most limit path d)
unfolding short_list_at
short_list_reads most limit path d = Reads-then (Reads-any (list_at path d)) λ ds _. Reads-unless (nat_lt most (length ds)) _ ds λ few. few

pub limit_passes : (most : ℕ) (limit : Limit) (n m : ℕ) → n ≡ m → nat_lt most m ≡ false → limit_check most limit n ≡ Ok tt
limit_passes most limit n m same few = rw (same, few) refl

-- items that were read, each of which passes its check after those before it
record Listed {A : Type 0} (check : List A → Path → A → Checked) (before : List A) (count : ℕ) (all : List A) : Type 0 where
  pub items : List A
  pub are : all ≡ before ++ items
  pub as_many : length items ≡ count
  pub pass : (path : Path) (i : ℕ) → each_check check path before i items ≡ Ok tt

-- reading an item agrees with checking it
abbrev pub EachReads : {A D : Type 0} → (List A → Path → D → Decoded A) → (List A → Path → A → Checked) → Type 0
EachReads {A} {D} read check = (before : List A) (path : Path) (d : D) → Reads (λ x. (q : Path) → check before q x ≡ Ok tt) (read before path d)

from_reads : {A D : Type 0} (read : List A → Path → D → Decoded A) (check : List A → Path → A → Checked) → EachReads read check
    → (path : Path) (before : List A) (i : ℕ) (ds : List D) → Reads (Listed check before (length ds)) (read_from read path before i ds)
from_reads read check each path before i [] = Reads-value before (record { items = []; are = sym (append-nil before); as_many = refl; pass = λ path i. refl })
from_reads read check each path before i (d ∷ ds) =
    Reads-then (each before (item_at path i) d) λ x checked.
    Reads-more
    (λ all rest. record {
      items = x ∷ rest.items;
      are = rest.are ∙ append_assoc before (x ∷ []) rest.items;
      as_many = ap suc rest.as_many;
      pass = λ q j. passes_then (check before (item_at q j) x) (each_check check q (before ++ x ∷ []) (suc j) rest.items) (checked (item_at q j)) (rest.pass q (suc j));
    })
    (from_reads read check each path (before ++ x ∷ []) (suc i) ds)

-- all items of a list
pub record EachChecked {A : Type 0} (check : List A → Path → A → Checked) (count : ℕ) (all : List A) : Type 0 where
  pub as_many : length all ≡ count
  pub pass : (path : Path) → each_check check path [] 0 all ≡ Ok tt

pub each_reads : {A D : Type 0} (read : List A → Path → D → Decoded A) (check : List A → Path → A → Checked) → EachReads read check
    → (path : Path) (ds : List D) → Reads (EachChecked check (length ds)) (read_each read path ds)
each_reads read check each path ds =
    Reads-more
    (λ all listed. record {
      as_many = rw listed.are listed.as_many;
      pass = λ q. rw listed.are (listed.pass q 0);
    })
    (from_reads read check each path [] 0 ds)
