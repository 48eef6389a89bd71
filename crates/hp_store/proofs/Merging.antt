-- Rising keys with the changes of a layer.
use Rattle.std.proofs.Common.{◌≡◌, refl, ap, ap₂, sym, ◌∙◌, subst, ℕ, ℤ, Bool, true, false, ◌&&◌, ◌||◌, cond, List, [], ◌∷◌, ◌++◌, map, Option, Some, None, is_some, int_eq}
use Rattle.std.proofs.Common.{append_assoc, IsTrue, to_z, of_z, w64}
use Rattle.std.specs.Prelude.{◌==◌, filter, if◌then◌else◌}
use Rattle.std.specs.declared.cmp.Ordering.{Ordering}
use Rattle.std.specs.declared.cmp.Ordering.TheVariants.{Less, Equal, Greater}
use Rattle.std.specs.Ordering.{is_eq, is_lt, is_gt, is_le, int_cmp, ordering_reverse}
use Rattle.std.specs.BTreeMap.Comparable.{le_lt_trans}
use Rattle.std.specs.Map.Iter.{TakesFirst}
use Rattle.std.specs.List.{AllByRecursion, list_any}
use Rattle.std.specs.List.Sorted.{IsStrictlySortedBy}
use Rattle.std.proofs.lemmas.Bool.Decides.{Decides-int_eq}
use Rattle.std.proofs.lemmas.Cmp.{int_cmp_total, int_eq_equiv, nat_eq_equiv}
use Rattle.std.proofs.lemmas.List.Folds.{list_any-append}
use Rattle.std.proofs.lemmas.List.Kept.{IsStrictlySortedBy-filter}
use Rattle.std.proofs.lemmas.Map.Iter.{rest_all}
use Rattle.std.proofs.lemmas.Map.Views.{any-filter_same}
use Rattle.hp_model.specs.Cells.{object_cell, rule_cell, detector_cell, CellValue, Cells, changed, over, AreKeys}
use Rattle.hp_value.specs.declared.cell.Cell.{Cell as Kept}
use Rattle.hp_value.specs.declared.cell.Cell.TheVariants.{Object, Rule, Detector}
use Rattle.hp_value.specs.Mapped.{cell}
use Rattle.hp_store.specs.declared.value.CellValue.{CellValue as Held}
use Rattle.hp_store.specs.Mapped.{change, entry}
use Rattle.hp_store.specs.Changes.{Entries, changes, class_entries, KeysFit}
use Rattle.hp_store.specs.Keys.{below, above, kept, merged, AboveKeys, KeysRise}
use Rattle.hp_store.proofs.Cells.{int_at}
use Rattle.hp_store.proofs.Entered.{fit_key, fit_rest}

-- ---- keys above a key, and below one

abbrev Above : ℤ → List ℤ → Type 0
Above k ks = AllByRecursion (λ j. int_cmp k j ≡ Less) ks

pub all_weaker : (P Q : ℤ → Type 0) → ((a : ℤ) → P a → Q a) → (xs : List ℤ) → AllByRecursion P xs → AllByRecursion Q xs
all_weaker P Q step [] all = tt
all_weaker P Q step (x ∷ xs) all = (step x all.0, all_weaker P Q step xs all.1)

all_append : (P : ℤ → Type 0) (xs ys : List ℤ) → AllByRecursion P xs → AllByRecursion P ys → AllByRecursion P (xs ++ ys)
all_append P [] ys front back = back
all_append P (x ∷ xs) ys front back = (front.0, all_append P xs ys front.1 back)

all_choice : (P : ℤ → Type 0) (b : Bool) (x : ℤ) (xs : List ℤ) → P x → AllByRecursion P xs → AllByRecursion P (cond b (x ∷ xs) xs)
all_choice P true x xs here rest = (here, rest)
all_choice P false x xs here rest = rest

pub all_filter : (P : ℤ → Type 0) (p : ℤ → Bool) (xs : List ℤ) → AllByRecursion P xs → AllByRecursion P (filter p xs)
all_filter P p [] all = tt
all_filter P p (x ∷ xs) all = all_choice P (p x) x (filter p xs) all.0 (all_filter P p xs all.1)

passing : (P : ℤ → Type 0) (b : Bool) (x : ℤ) (xs : List ℤ) → (b ≡ true → P x) → AllByRecursion P xs → AllByRecursion P (cond b (x ∷ xs) xs)
passing P true x xs here rest = (here refl, rest)
passing P false x xs here rest = rest

less_is : (r : Ordering) → is_lt r ≡ true → r ≡ Less
less_is Less h = refl
less_is Equal h = cc
less_is Greater h = cc

greater_is : (r : Ordering) → is_gt r ≡ true → ordering_reverse r ≡ Less
greater_is Less h = cc
greater_is Equal h = cc
greater_is Greater h = refl

pub below-all : (k : ℤ) (ks : List ℤ) → AllByRecursion (λ j. int_cmp j k ≡ Less) (below k ks)
below-all k [] = tt
below-all k (j ∷ ks) = passing (λ i. int_cmp i k ≡ Less) (is_lt (int_cmp j k)) j (below k ks) (less_is (int_cmp j k)) (below-all k ks)

pub above-all : (k : ℤ) (ks : List ℤ) → Above k (above k ks)
above-all k [] = tt
above-all k (j ∷ ks) =
    passing (λ i. int_cmp k i ≡ Less) (is_gt (int_cmp j k)) j (above k ks) (λ h. int_cmp_total.antisymm k j ∙ greater_is (int_cmp j k) h) (above-all k ks)

above_lower : (a k : ℤ) → int_cmp a k ≡ Less → (ks : List ℤ) → Above k ks → Above a ks
above_lower a k less ks all = all_weaker (λ j. int_cmp k j ≡ Less) (λ j. int_cmp a j ≡ Less) (λ j. int_cmp_total.trans a k j less) ks all

-- ---- the merged keys rise

kept_all : (P : ℤ → Type 0) (k : ℤ) (x : Option CellValue) (ks : List ℤ) → P k → AllByRecursion P ks → AllByRecursion P (kept k x ks)
kept_all P k None ks here rest = rest
kept_all P k (Some v) ks here rest = (here, rest)

merged_above : (k : ℤ) (ks : List ℤ) (es : Entries) → Above k ks → AboveKeys k es → Above k (merged ks es)
merged_above k ks [] all ups = all
merged_above k ks ((object_cell class j, x) ∷ es) all ups =
    all_append (λ i. int_cmp k i ≡ Less) (below j ks) (kept j x (merged (above j ks) es)) (all_filter (λ i. int_cmp k i ≡ Less) (λ i. is_lt (int_cmp i j)) ks all)
    (kept_all (λ i. int_cmp k i ≡ Less) j x (merged (above j ks) es) ups.0
    (merged_above k (above j ks) es (all_filter (λ i. int_cmp k i ≡ Less) (λ i. is_gt (int_cmp i j)) ks all) ups.1))
merged_above k ks ((rule_cell n, x) ∷ es) all ups = merged_above k ks es all ups
merged_above k ks ((detector_cell n, x) ∷ es) all ups = merged_above k ks es all ups

rise_append : (xs ys : List ℤ) → IsStrictlySortedBy int_cmp xs → IsStrictlySortedBy int_cmp ys → AllByRecursion (λ x. Above x ys) xs → IsStrictlySortedBy int_cmp (xs ++ ys)
unfolding IsStrictlySortedBy
rise_append [] ys rx ry apart = ry
rise_append (x ∷ xs) ys rx ry apart = (all_append (λ j. int_cmp x j ≡ Less) xs ys rx.0 apart.0, rise_append xs ys rx.1 ry apart.1)

kept_rise : (k : ℤ) (x : Option CellValue) (ks : List ℤ) → IsStrictlySortedBy int_cmp ks → Above k ks → IsStrictlySortedBy int_cmp (kept k x ks)
unfolding IsStrictlySortedBy
kept_rise k None ks rise ups = rise
kept_rise k (Some v) ks rise ups = (ups, rise)

merged_rise : (ks : List ℤ) (es : Entries) → IsStrictlySortedBy int_cmp ks → KeysRise es → IsStrictlySortedBy int_cmp (merged ks es)
merged_rise ks [] rise ups = rise
merged_rise ks ((object_cell class k, x) ∷ es) rise ups =
    let later = merged (above k ks) es in
    let all : Above k later = merged_above k (above k ks) es (above-all k ks) ups.0 in
    rise_append (below k ks) (kept k x later) (IsStrictlySortedBy-filter int_cmp (λ j. is_lt (int_cmp j k)) ks rise)
    (kept_rise k x later (merged_rise (above k ks) es (IsStrictlySortedBy-filter int_cmp (λ j. is_gt (int_cmp j k)) ks rise) ups.1) all)
    (all_weaker (λ j. int_cmp j k ≡ Less) (λ j. Above j (kept k x later)) (λ j less. kept_all (λ i. int_cmp j i ≡ Less) k x later less (above_lower j k less later all)) (below k ks) (below-all k ks))
merged_rise ks ((rule_cell n, x) ∷ es) rise ups = merged_rise ks es rise ups
merged_rise ks ((detector_cell n, x) ∷ es) rise ups = merged_rise ks es rise ups

-- ---- which keys they are

-- the change at a key, of whichever class
pub at_key : ℤ → Entries → Option (Option CellValue)
at_key q [] = None
at_key q ((object_cell class k, x) ∷ es) = if int_eq k q then Some x else at_key q es
at_key q ((rule_cell n, x) ∷ es) = at_key q es
at_key q ((detector_cell n, x) ∷ es) = at_key q es

has_after : Bool → Option (Option CellValue) → Bool
has_after before None = before
has_after before (Some x) = is_some x

pub apart_keys : (q k : ℤ) → int_cmp q k ≡ Less → int_eq k q ≡ false
apart_keys q k less = int_eq_equiv.symm k q ∙ sym (int_at q k) ∙ ap is_eq less

absent_key : (q k : ℤ) → IsTrue (is_le (int_cmp q k)) → (es : Entries) → AboveKeys k es → at_key q es ≡ None
unfolding at_key
absent_key q k le [] ups = refl
absent_key q k le ((object_cell class j, x) ∷ es) ups =
    ap (λ b. if b then Some x else at_key q es) (apart_keys q j (le_lt_trans int_cmp_total q k j le ups.0)) ∙ absent_key q k le es ups.1
absent_key q k le ((rule_cell n, x) ∷ es) ups = absent_key q k le es ups
absent_key q k le ((detector_cell n, x) ∷ es) ups = absent_key q k le es ups

-- before the others, the change at its own key, and those at lower and at higher keys
pub at_nothing : (q : ℤ) → at_key q [] ≡ None
unfolding at_key
at_nothing q = refl

pub at_itself : (key : ℤ) (class : ℕ) (x : Option CellValue) (es : Entries) → at_key key ((object_cell class key, x) ∷ es) ≡ Some x
unfolding at_key
at_itself key class x es = ap (λ b. if b then Some x else at_key key es) ((Decides-int_eq key key).1 refl)

pub at_lower : (q key : ℤ) (class : ℕ) (x : Option CellValue) (es : Entries) → int_cmp q key ≡ Less → AboveKeys key es → at_key q ((object_cell class key, x) ∷ es) ≡ None
unfolding at_key
at_lower q key class x es less ups = ap (λ b. if b then Some x else at_key q es) (apart_keys q key less) ∙ absent_key q key (ap is_le less) es ups

pub at_higher : (q key : ℤ) (class : ℕ) (x : Option CellValue) (es : Entries) → int_cmp key q ≡ Less → at_key q ((object_cell class key, x) ∷ es) ≡ at_key q es
unfolding at_key
at_higher q key class x es more = ap (λ b. if b then Some x else at_key q es) (int_eq_equiv.symm key q ∙ apart_keys key q more)

-- an entry that is no object's
pub at_skipped : (q : ℤ) (d : Kept) (x : Option Held) (t : List (Kept × Option Held)) → ((class : ℕ) (key : ℤ) → d ≡ Object class key → ⊥) → at_key q (map entry ((d, x) ∷ t)) ≡ at_key q (map entry t)
unfolding at_key
at_skipped q (Object class key) x t other = absurd (other class key refl)
at_skipped q (Rule n) x t other = refl
at_skipped q (Detector n) x t other = refl

kept_any : (q k : ℤ) (x : Option CellValue) (ks : List ℤ) → list_any (int_eq q) (kept k x ks) ≡ ((is_some x && int_eq q k) || list_any (int_eq q) ks)
kept_any q k None ks = refl
kept_any q k (Some v) ks = refl

filtered_any : (q : ℤ) (p : ℤ → Bool) (ks : List ℤ) → list_any (int_eq q) (filter p ks) ≡ (p q && list_any (int_eq q) ks)
filtered_any q p ks = any-filter_same (int_eq q) p (p q) (λ k h. ap p (sym ((Decides-int_eq q k).0 h))) ks

or_false : (b : Bool) → (b || false) ≡ b
or_false true = refl
or_false false = refl

true_and : (b : Bool) → (b && true) ≡ b
true_and true = refl
true_and false = refl

and_false : (b : Bool) → (b && false) ≡ false
and_false true = refl
and_false false = refl

merged_choice : (r : Ordering) (before : Bool) (x : Option CellValue) (later : Option (Option CellValue)) → (IsTrue (is_le r) → later ≡ None)
    → ((is_lt r && before) || ((is_some x && is_eq r) || has_after (is_gt r && before) later)) ≡ has_after before (if is_eq r then Some x else later)
unfolding has_after
merged_choice Less before x later none =
    (λ i. before || (and_false (is_some x) i || has_after false (none refl i))) ∙ or_false before ∙ ap (has_after before) (sym (none refl))
merged_choice Equal before x later none = (λ i. true_and (is_some x) i || has_after false (none refl i)) ∙ or_false (is_some x)
merged_choice Greater before x later none = ap (λ b. b || has_after before later) (and_false (is_some x))

merged_has : (q : ℤ) (ks : List ℤ) (es : Entries) → KeysRise es → list_any (int_eq q) (merged ks es) ≡ has_after (list_any (int_eq q) ks) (at_key q es)
unfolding at_key has_after
merged_has q ks [] ups = refl
merged_has q ks ((object_cell class k, x) ∷ es) ups =
    list_any-append (int_eq q) (below k ks) (kept k x (merged (above k ks) es))
    ∙ ap₂ (λ a b. a || b) (filtered_any q (λ j. is_lt (int_cmp j k)) ks)
    (kept_any q k x (merged (above k ks) es)
    ∙ ap₂ (λ a b. (is_some x && a) || b) (sym (int_at q k)) (merged_has q (above k ks) es ups.1 ∙ ap (λ b. has_after b (at_key q es)) (filtered_any q (λ j. is_gt (int_cmp j k)) ks)))
    ∙ merged_choice (int_cmp q k) (list_any (int_eq q) ks) x (at_key q es) (λ le. absent_key q k le es ups.0)
    ∙ ap (λ b. has_after (list_any (int_eq q) ks) (if b then Some x else at_key q es)) (int_at q k ∙ int_eq_equiv.symm q k)
merged_has q ks ((rule_cell n, x) ∷ es) ups = merged_has q ks es ups
merged_has q ks ((detector_cell n, x) ∷ es) ups = merged_has q ks es ups

class_choice : (same hit : Bool) (x : Option CellValue) (later later' : Option (Option CellValue)) → later ≡ later'
    → (if same && hit then Some x else later) ≡ (if same then (if hit then Some x else later') else later')
class_choice true true x later later' is = refl
class_choice true false x later later' is = is
class_choice false hit x later later' is = is

at_choice : (b : Bool) (q k : ℤ) (class : ℕ) (x : Option CellValue) (es : Entries)
    → at_key q (cond b ((object_cell class k, x) ∷ es) es) ≡ (if b then (if int_eq k q then Some x else at_key q es) else at_key q es)
unfolding at_key
at_choice true q k class x es = refl
at_choice false q k class x es = refl

pub changes-key : (class : ℕ) (q : ℤ) (es : Entries) → changes es (object_cell class q) ≡ at_key q (class_entries class es)
unfolding at_key
changes-key class q [] = refl
changes-key class q ((object_cell of k, x) ∷ es) =
    class_choice (of == class) (int_eq k q) x (changes es (object_cell class q)) (at_key q (class_entries class es)) (changes-key class q es)
    ∙ ap (λ b. if b then (if int_eq k q then Some x else at_key q (class_entries class es)) else at_key q (class_entries class es)) (nat_eq_equiv.symm of class)
    ∙ sym (at_choice (class == of) q k of x (class_entries class es))
changes-key class q ((rule_cell n, x) ∷ es) = changes-key class q es
changes-key class q ((detector_cell n, x) ∷ es) = changes-key class q es

has_changed : (o : Option CellValue) (c : Option (Option CellValue)) → has_after (is_some o) c ≡ is_some (changed o c)
unfolding has_after
has_changed o None = refl
has_changed o (Some x) = refl

-- the keys of the class in the cells beneath, and in the cells that the layer makes of them
pub keys_merged : (base : Cells) (class : ℕ) (ks : List ℤ) (es : Entries) → KeysRise (class_entries class es) → AreKeys base class ks
    → AreKeys (over base (changes es)) class (merged ks (class_entries class es))
keys_merged base class ks es ups are = record {
  rise = merged_rise ks (class_entries class es) are.rise ups;
  has = λ q.
      merged_has q ks (class_entries class es) ups
      ∙ ap₂ has_after (are.has q) (sym (changes-key class q es))
      ∙ has_changed (base (object_cell class q)) (changes es (object_cell class q));
}

-- ---- a loop over a map's entries

abbrev pub Entered : Type 0
Entered = List (Kept × Option Held)

-- m has the keys up to an entry, rest has those after it
pub record Merges (whole m rest : List ℤ) (it : Entered) : Type 0 where
  pub rise : IsStrictlySortedBy int_cmp rest
  pub fit : KeysFit (map entry it)
  pub so_far : m ++ merged rest (map entry it) ≡ whole

kept_value : (key : ℤ) (x : Option Held) (ks : List ℤ) → is_some x ≡ true → kept key (change x) ks ≡ key ∷ ks
kept_value key None ks some = cc
kept_value key (Some v) ks some = refl

kept_none : (key : ℤ) (x : Option Held) (ks : List ℤ) → is_some x ≡ false → kept key (change x) ks ≡ ks
kept_none key None ks none = refl
kept_none key (Some v) ks none = cc

module _ (whole m rest : List ℤ) (it t : Entered) (d : Kept) (x : Option Held) (class : ℕ) (key : ℤ) (merges : Merges whole m rest it) (steps : it ≡ (d, x) ∷ t) (is : d ≡ Object class key) where
  same_key : to_z w64 (of_z w64 key) ≡ key
  same_key = fit_key it t (d, x) class key merges.fit steps is

  next_change : merged rest (map entry it) ≡ below key rest ++ kept key (change x) (merged (above key rest) (map entry t))
  next_change = ap (λ l. merged rest (map entry l)) steps ∙ ap (λ c. merged rest ((cell c, change x) ∷ map entry t)) is

  above_rise : (a : List ℤ) → a ≡ above (to_z w64 (of_z w64 key)) rest → IsStrictlySortedBy int_cmp a
  above_rise a back =
      subst (IsStrictlySortedBy int_cmp) (sym back) (IsStrictlySortedBy-filter int_cmp (λ j. is_gt (int_cmp j (to_z w64 (of_z w64 key)))) rest merges.rise)

  -- the changed object is there
  pub merges_value : (b a n : List ℤ) → is_some x ≡ true → b ≡ below (to_z w64 (of_z w64 key)) rest → a ≡ above (to_z w64 (of_z w64 key)) rest
      → n ≡ (m ++ b) ++ to_z w64 (of_z w64 key) ∷ [] → Merges whole n a t
  unfolding same_key next_change above_rise
  merges_value b a n some front back new = record {
    rise = above_rise a back;
    fit = fit_rest it t (d, x) merges.fit steps;
    so_far =
        ap (λ l. l ++ merged a (map entry t)) new
        ∙ append_assoc (m ++ b) (to_z w64 (of_z w64 key) ∷ []) (merged a (map entry t)) ∙ append_assoc m b (to_z w64 (of_z w64 key) ∷ merged a (map entry t))
        ∙ ap (λ l. m ++ l)
        ((λ i. front i ++ to_z w64 (of_z w64 key) ∷ merged (back i) (map entry t)) ∙ ap (λ k. below k rest ++ k ∷ merged (above k rest) (map entry t)) same_key
        ∙ ap (λ l. below key rest ++ l) (sym (kept_value key x (merged (above key rest) (map entry t)) some)) ∙ sym next_change)
        ∙ merges.so_far;
  }

  -- it isn't
  pub merges_none : (b a n : List ℤ) → is_some x ≡ false → b ≡ below (to_z w64 (of_z w64 key)) rest → a ≡ above (to_z w64 (of_z w64 key)) rest → n ≡ m ++ b → Merges whole n a t
  unfolding same_key next_change above_rise
  merges_none b a n none front back new = record {
    rise = above_rise a back;
    fit = fit_rest it t (d, x) merges.fit steps;
    so_far =
        ap (λ l. l ++ merged a (map entry t)) new
        ∙ append_assoc m b (merged a (map entry t))
        ∙ ap (λ l. m ++ l)
        ((λ i. front i ++ merged (back i) (map entry t)) ∙ ap (λ k. below k rest ++ merged (above k rest) (map entry t)) same_key
        ∙ ap (λ l. below key rest ++ l) (sym (kept_none key x (merged (above key rest) (map entry t)) none)) ∙ sym next_change)
        ∙ merges.so_far;
  }

-- before the first entry
pub merges_first : (keys m rest : List ℤ) (es : Entries) (found it : Entered) → IsStrictlySortedBy int_cmp keys → KeysFit es → map entry found ≡ es
    → it ≡ found → m ≡ [] → rest ≡ keys → Merges (merged keys es) m rest it
merges_first keys m rest es found it rise fit entries is none all = record {
  rise = subst (IsStrictlySortedBy int_cmp) (sym all) rise;
  fit = subst KeysFit (sym (ap (map entry) is ∙ entries)) fit;
  so_far = (λ i. none i ++ merged (all i) (map entry (is i))) ∙ ap (merged keys) entries;
}

-- an entry that is no object's
pub merges_other : (whole m rest : List ℤ) (it t : Entered) (d : Kept) (x : Option Held) → Merges whole m rest it → it ≡ (d, x) ∷ t → ((class : ℕ) (key : ℤ) → d ≡ Object class key → ⊥)
    → Merges whole m rest t
merges_other whole m rest it t d x merges steps other = record {
  rise = merges.rise;
  fit = fit_rest it t (d, x) merges.fit steps;
  so_far = ap (λ l. m ++ l) (sym (ap (λ l. merged rest (map entry l)) steps ∙ skipped d other)) ∙ merges.so_far;
}
  where
    skipped : (d : Kept) → ((class : ℕ) (key : ℤ) → d ≡ Object class key → ⊥) → merged rest (map entry ((d, x) ∷ t)) ≡ merged rest (map entry t)
    skipped (Object class key) other = absurd (other class key refl)
    skipped (Rule n) other = refl
    skipped (Detector n) other = refl

-- after the last
pub merges_last : (whole m rest n : List ℤ) (it : Entered) → Merges whole m rest it → it ≡ [] → n ≡ m ++ rest → whole ≡ n
merges_last whole m rest n it merges none last = sym merges.so_far ∙ ap (λ l. m ++ merged rest (map entry l)) none ∙ sym last

-- no changes of the class
pub keys_kept : (base : Cells) (class : ℕ) (ks : List ℤ) (es : Entries) → class_entries class es ≡ [] → AreKeys base class ks → AreKeys (over base (changes es)) class ks
keys_kept base class ks es none are =
    subst (λ l. AreKeys (over base (changes es)) class (merged ks l)) none (keys_merged base class ks es (subst KeysRise (sym none) tt) are)

pub unnamed : (class : ℕ) (es : Entries) → class_entries class es ≡ [] → (key : ℤ) → changes es (object_cell class key) ≡ None
unfolding at_key
unnamed class es none key = changes-key class key es ∙ ap (at_key key) none

pub keys_found : (base : Cells) (class : ℕ) (ks result : List ℤ) (es : Entries) → merged ks (class_entries class es) ≡ result → KeysRise (class_entries class es) → AreKeys base class ks
    → AreKeys (over base (changes es)) class result
keys_found base class ks result es is ups are = subst (AreKeys (over base (changes es)) class) is (keys_merged base class ks es ups are)

none_is : {A : Type 0} (r : Option A) → is_some r ≡ false → r ≡ None
none_is None is = refl
none_is (Some x) is = cc

-- an iterator that gives nothing has nothing
pub nothing_left : {A X : Type 0} (shows : A → X) (s t : List X) (r : Option A) → is_some r ≡ false → TakesFirst shows s r t → s ≡ []
nothing_left shows s t r none step = rest_all shows s t r (none_is r none) step
