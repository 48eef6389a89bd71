-- A class's objects with the changes of a layer.
use Rattle.std.proofs.Common.{◌≡◌, refl, sym, ap, ◌∙◌, subst, ℕ, zero, suc, ℤ, List, [], ◌∷◌, ◌++◌, map, take, drop, Option, Some, None, to_z, of_z, w64}
use Rattle.std.specs.declared.cmp.Ordering.TheVariants.{Less}
use Rattle.std.specs.Ordering.{int_cmp, is_lt}
use Rattle.std.specs.List.{AllByRecursion}
use Rattle.std.specs.List.Sorted.{IsStrictlySortedBy}
use Rattle.std.proofs.lemmas.Cmp.{int_cmp_total}
use Rattle.std.proofs.lemmas.List.{take-map, drop-map, map-append}
use Rattle.std.proofs.lemmas.List.Elements.{All-from_recursion, recursion_from_All}
use Rattle.hp_model.specs.Values.{KeyedRow}
use Rattle.hp_model.specs.Cells.{row_value, Cells, object_cell, changed, over, AreObjects}
use Rattle.hp_value.specs.declared.cell.Cell.{Cell}
use Rattle.hp_value.specs.declared.cell.Cell.TheVariants.{Object, Rule, Detector}
use Rattle.hp_value.specs.Mapped.{cell, keys_of}
use Rattle.hp_store.specs.declared.value.CellValue.{CellValue}
use Rattle.hp_store.specs.declared.value.CellValue.TheVariants.{Row, Status as RuleStatus, Detector as Past}
use Rattle.hp_store.specs.Mapped.{change, entry}
use Rattle.hp_store.specs.Changes.{Entries, changes, class_entries, KeysFit}
use Rattle.hp_store.specs.Keys.{below, above, merged, AboveKeys, KeysRise}
use Rattle.hp_store.specs.Kept.{MakesObjects}
use Rattle.hp_store.proofs.Entered.{fit_key}
use Rattle.hp_store.proofs.Merging.{all_weaker, all_filter, below-all, above-all, at_key, at_nothing, at_itself, at_lower, at_higher, at_skipped, changes-key, keys_found, Entered}
use Rattle.hp_store.proofs.Merging.{Merges, merges_first, merges_value, merges_none, merges_other, merges_last}
use Rattle.hp_store.proofs.Wholes.{HasRow, unchanged}

-- ---- facts of each item of a list

all_both : (P Q : ℤ → Type 0) (xs : List ℤ) → AllByRecursion P xs → AllByRecursion Q xs → AllByRecursion (λ x. P x × Q x) xs
all_both P Q [] p q = tt
all_both P Q (x ∷ xs) p q = ((p.0, q.0), all_both P Q xs p.1 q.1)

module _ (P : KeyedRow → Type 0) where
  all_joined : (xs ys : List KeyedRow) → AllByRecursion P xs → AllByRecursion P ys → AllByRecursion P (xs ++ ys)
  all_joined [] ys p q = q
  all_joined (x ∷ xs) ys p q = (p.0, all_joined xs ys p.1 q)

  all_take : (n : ℕ) (xs : List KeyedRow) → AllByRecursion P xs → AllByRecursion P (take n xs)
  all_take zero xs p = tt
  all_take (suc n) [] p = tt
  all_take (suc n) (x ∷ xs) p = (p.0, all_take n xs p.1)

  all_drop : (n : ℕ) (xs : List KeyedRow) → AllByRecursion P xs → AllByRecursion P (drop n xs)
  all_drop zero xs p = p
  all_drop (suc n) [] p = tt
  all_drop (suc n) (x ∷ xs) p = all_drop n xs p.1

-- the layer doesn't name an object
abbrev IsUnnamed : Entries → ℕ → ℤ → Type 0
IsUnnamed layer class key = changes layer (object_cell class key) ≡ None

-- objects that it doesn't name keep their rows
rows_kept : (base : Cells) (class : ℕ) (layer : Entries) (os : List KeyedRow) → AllByRecursion (HasRow base class) os → AllByRecursion (IsUnnamed layer class) (keys_of os)
    → AllByRecursion (HasRow (over base (changes layer)) class) os
rows_kept base class layer [] here none = tt
rows_kept base class layer (o ∷ os) here none =
    (unchanged (base (object_cell class o.key)) (changes layer (object_cell class o.key)) none.0 ∙ here.0, rows_kept base class layer os here.1 none.1)

-- the one that it makes has its row
rows_made : (base : Cells) (class : ℕ) (layer : Entries) (os new : List KeyedRow) (key named : ℤ) (x : Option CellValue) → named ≡ key → changes layer (object_cell class key) ≡ Some (change x)
    → AllByRecursion (HasRow (over base (changes layer)) class) os → MakesObjects os named (change x) new → AllByRecursion (HasRow (over base (changes layer)) class) new
rows_made base class layer os new key named None same said rows made = subst (AllByRecursion (HasRow (over base (changes layer)) class)) (sym made) rows
rows_made base class layer os new key named (Some (Row r)) same said rows made =
    let here : over base (changes layer) (object_cell class named) ≡ Some (row_value r) =
    ap (λ k. over base (changes layer) (object_cell class k)) same ∙ ap (changed (base (object_cell class key))) said in
    subst (AllByRecursion (HasRow (over base (changes layer)) class)) (sym made)
    (all_joined (HasRow (over base (changes layer)) class) os (record { key = named; row = r } ∷ []) rows (here, tt))
rows_made base class layer os new key named (Some (RuleStatus s)) same said rows made = absurd made
rows_made base class layer os new key named (Some (Past k)) same said rows made = absurd made

-- and its key stands behind the others
keys_made : (whole : List ℤ) (m front new : List KeyedRow) (ks higher : List ℤ) (it t : Entered) (d : Cell) (x : Option CellValue) (of : ℕ) (key : ℤ)
    → Merges whole (keys_of m) ks it → it ≡ (d, x) ∷ t → d ≡ Object of key → keys_of front ≡ below (to_z w64 (of_z w64 key)) ks → higher ≡ above (to_z w64 (of_z w64 key)) ks
    → MakesObjects (m ++ front) (to_z w64 (of_z w64 key)) (change x) new → Merges whole (keys_of new) higher t
keys_made whole m front new ks higher it t d None of key merges steps is low high made =
    merges_none whole (keys_of m) ks it t d None of key merges steps is (keys_of front) higher (keys_of new) refl low high (ap keys_of made ∙ map-append (λ (o : KeyedRow). o.key) m front)
keys_made whole m front new ks higher it t d (Some (Row r)) of key merges steps is low high made =
    merges_value whole (keys_of m) ks it t d (Some (Row r)) of key merges steps is (keys_of front) higher (keys_of new) refl low high
    (ap keys_of made ∙ map-append (λ (o : KeyedRow). o.key) (m ++ front) (record { key = to_z w64 (of_z w64 key); row = r } ∷ [])
    ∙ ap (λ l. l ++ to_z w64 (of_z w64 key) ∷ []) (map-append (λ (o : KeyedRow). o.key) m front))
keys_made whole m front new ks higher it t d (Some (RuleStatus s)) of key merges steps is low high made = absurd made
keys_made whole m front new ks higher it t d (Some (Past k)) of key merges steps is low high made = absurd made

-- ---- a loop over the changes of a class's objects

-- above a key, if there is one
abbrev pub Beyond : Option ℤ → ℤ → Type 0
Beyond None q = Unit {0}
Beyond (Some k) q = int_cmp k q ≡ Less

abbrev pub AllBeyond : Option ℤ → Entries → Type 0
AllBeyond None es = Unit {0}
AllBeyond (Some k) es = AboveKeys k es

-- m has the objects up to a change, and the last change was at the key low; the objects after it stand from a place on
pub record Walks (base : Cells) (class : ℕ) (old : List KeyedRow) (layer : Entries) (m : List KeyedRow) (from : ℕ) (it : Entered) : Type 0 where
  pub merges : Merges (merged (keys_of old) (class_entries class layer)) (keys_of m) (drop from (keys_of old)) it
  pub ups : KeysRise (map entry it)
  pub low : Option ℤ
  pub keys_up : AllByRecursion (Beyond low) (drop from (keys_of old))
  pub changes_up : AllBeyond low (map entry it)
  pub named : (q : ℤ) → Beyond low q → changes layer (object_cell class q) ≡ at_key q (map entry it)
  pub beneath : AllByRecursion (HasRow base class) old
  pub rows : AllByRecursion (HasRow (over base (changes layer)) class) m

all_anywhere : (xs : List ℤ) → AllByRecursion (Beyond None) xs
all_anywhere [] = tt
all_anywhere (x ∷ xs) = (tt, all_anywhere xs)

-- before the first change
pub walks_first : (base : Cells) (class : ℕ) (old m : List KeyedRow) (layer : Entries) (found it : Entered) → KeysRise (class_entries class layer) → KeysFit (class_entries class layer)
    → map entry found ≡ class_entries class layer → it ≡ found → m ≡ [] → AreObjects base class old → Walks base class old layer m 0 it
walks_first base class old m layer found it rise fit entries is none are = record {
  merges = merges_first (keys_of old) (keys_of m) (keys_of old) (class_entries class layer) found it are.keys.rise fit entries is (ap keys_of none) refl;
  ups = subst KeysRise (sym (ap (map entry) is ∙ entries)) rise;
  low = None;
  keys_up = all_anywhere (keys_of old);
  changes_up = tt;
  named = λ q up. changes-key class q layer ∙ ap (at_key q) (sym (ap (map entry) is ∙ entries));
  beneath = recursion_from_All (HasRow base class) old are.rows;
  rows = subst (AllByRecursion (HasRow (over base (changes layer)) class)) (sym none) tt;
}

module _ (base : Cells) (class : ℕ) (old : List KeyedRow) (layer : Entries) (m : List KeyedRow) (from : ℕ) (it t : Entered) (d : Cell) (x : Option CellValue) (of : ℕ) (key : ℤ)
    (w : Walks base class old layer m from it) (steps : it ≡ (d, x) ∷ t) (is : d ≡ Object of key) where
  entries_are : map entry it ≡ (object_cell of key, change x) ∷ map entry t
  entries_are = ap (map entry) steps ∙ ap (λ c. (cell c, change x) ∷ map entry t) is

  rise_here : KeysRise ((object_cell of key, change x) ∷ map entry t)
  rise_here = subst KeysRise entries_are w.ups

  next_up : Beyond w.low key
  next_up = by w.low (subst (AllBeyond w.low) entries_are w.changes_up)
    where
      by : (low : Option ℤ) → AllBeyond low ((object_cell of key, change x) ∷ map entry t) → Beyond low key
      by None up = tt
      by (Some k) up = up.0

  named_here : (q : ℤ) → Beyond w.low q → changes layer (object_cell class q) ≡ at_key q ((object_cell of key, change x) ∷ map entry t)
  named_here q up = w.named q up ∙ ap (at_key q) entries_are

  named_above : (q : ℤ) → int_cmp key q ≡ Less → changes layer (object_cell class q) ≡ at_key q (map entry t)
  named_above q more = named_here q (by w.low next_up) ∙ at_higher q key of (change x) (map entry t) more
    where
      by : (low : Option ℤ) → Beyond low key → Beyond low q
      by None up = tt
      by (Some k) up = int_cmp_total.trans k key q up more

  said : changes layer (object_cell class key) ≡ Some (change x)
  said = named_here key next_up ∙ at_itself key of (change x) (map entry t)

  none_below : AllByRecursion (IsUnnamed layer class) (below key (drop from (keys_of old)))
  none_below =
      all_weaker (λ q. Beyond w.low q × (int_cmp q key ≡ Less)) (IsUnnamed layer class) (λ q up. named_here q up.0 ∙ at_lower q key of (change x) (map entry t) up.1 rise_here.0)
      (below key (drop from (keys_of old)))
      (all_both (Beyond w.low) (λ q. int_cmp q key ≡ Less) (below key (drop from (keys_of old))) (all_filter (Beyond w.low) (λ q. is_lt (int_cmp q key)) (drop from (keys_of old)) w.keys_up)
      (below-all key (drop from (keys_of old))))

  -- after a change
  pub walks_on : (ks : List ℤ) (count next : ℕ) (new : List KeyedRow) → ks ≡ keys_of old
      → (IsStrictlySortedBy int_cmp (drop from ks) → take count (drop from ks) ≡ below (to_z w64 (of_z w64 key)) (drop from ks))
      → (IsStrictlySortedBy int_cmp (drop from ks) → drop next ks ≡ above (to_z w64 (of_z w64 key)) (drop from ks))
      → MakesObjects (m ++ take count (drop from old)) (to_z w64 (of_z w64 key)) (change x) new → Walks base class old layer new next t
  walks_on ks count next new same lower higher made = record {
    merges = keys_made (merged (keys_of old) (class_entries class layer)) m (take count (drop from old)) new (drop from (keys_of old)) (drop next (keys_of old))
        it t d x of key w.merges steps is front_keys keys_above made;
    ups = rise_here.1;
    low = Some key;
    keys_up = subst (AllByRecursion (Beyond (Some key))) (sym (keys_above ∙ ap (λ k. above k (drop from (keys_of old))) fit)) (above-all key (drop from (keys_of old)));
    changes_up = rise_here.0;
    named = named_above;
    beneath = w.beneath;
    rows = rows_made base class layer (m ++ take count (drop from old)) new key (to_z w64 (of_z w64 key)) x fit said
        (all_joined (HasRow (over base (changes layer)) class) m (take count (drop from old)) w.rows front_rows) made;
  }
    where
      fit : to_z w64 (of_z w64 key) ≡ key
      fit = fit_key it t (d, x) of key w.merges.fit steps is

      keys_above : drop next (keys_of old) ≡ above (to_z w64 (of_z w64 key)) (drop from (keys_of old))
      keys_above = subst (λ l. IsStrictlySortedBy int_cmp (drop from l) → drop next l ≡ above (to_z w64 (of_z w64 key)) (drop from l)) same higher w.merges.rise

      front_keys : keys_of (take count (drop from old)) ≡ below (to_z w64 (of_z w64 key)) (drop from (keys_of old))
      front_keys =
          sym (take-map (λ (o : KeyedRow). o.key) count (drop from old)) ∙ ap (take count) (sym (drop-map (λ (o : KeyedRow). o.key) from old))
          ∙ subst (λ l. IsStrictlySortedBy int_cmp (drop from l) → take count (drop from l) ≡ below (to_z w64 (of_z w64 key)) (drop from l)) same lower w.merges.rise

      front_rows : AllByRecursion (HasRow (over base (changes layer)) class) (take count (drop from old))
      front_rows =
          rows_kept base class layer (take count (drop from old)) (all_take (HasRow base class) count (drop from old) (all_drop (HasRow base class) from old w.beneath))
          (subst (AllByRecursion (IsUnnamed layer class)) (sym (front_keys ∙ ap (λ k. below k (drop from (keys_of old))) fit)) none_below)

-- an entry that is no object's
rise_skipped : (d : Cell) (x : Option CellValue) (t : Entered) → ((class : ℕ) (key : ℤ) → d ≡ Object class key → ⊥) → KeysRise (map entry ((d, x) ∷ t)) → KeysRise (map entry t)
rise_skipped (Object class key) x t other ups = absurd (other class key refl)
rise_skipped (Rule n) x t other ups = ups
rise_skipped (Detector n) x t other ups = ups

up_skipped : (low : Option ℤ) (d : Cell) (x : Option CellValue) (t : Entered) → ((class : ℕ) (key : ℤ) → d ≡ Object class key → ⊥) → AllBeyond low (map entry ((d, x) ∷ t))
    → AllBeyond low (map entry t)
up_skipped None d x t other ups = tt
up_skipped (Some k) (Object class key) x t other ups = absurd (other class key refl)
up_skipped (Some k) (Rule n) x t other ups = ups
up_skipped (Some k) (Detector n) x t other ups = ups

pub walks_other : (base : Cells) (class : ℕ) (old : List KeyedRow) (layer : Entries) (m : List KeyedRow) (from : ℕ) (it t : Entered) (d : Cell) (x : Option CellValue)
    → Walks base class old layer m from it → it ≡ (d, x) ∷ t → ((class : ℕ) (key : ℤ) → d ≡ Object class key → ⊥) → Walks base class old layer m from t
walks_other base class old layer m from it t d x w steps other = record {
  merges = merges_other (merged (keys_of old) (class_entries class layer)) (keys_of m) (drop from (keys_of old)) it t d x w.merges steps other;
  ups = rise_skipped d x t other (subst (λ l. KeysRise (map entry l)) steps w.ups);
  low = w.low;
  keys_up = w.keys_up;
  changes_up = up_skipped w.low d x t other (subst (λ l. AllBeyond w.low (map entry l)) steps w.changes_up);
  named = λ q up. w.named q up ∙ ap (λ l. at_key q (map entry l)) steps ∙ at_skipped q d x t other;
  beneath = w.beneath;
  rows = w.rows;
}

-- after the last change
pub walks_last : (base : Cells) (class : ℕ) (old m new : List KeyedRow) (layer : Entries) (from : ℕ) (it : Entered) → KeysRise (class_entries class layer) → it ≡ [] → new ≡ m ++ drop from old
    → AreObjects base class old → Walks base class old layer m from it → AreObjects (over base (changes layer)) class new
walks_last base class old m new layer from it rise none last are w = record {
  keys =
      keys_found base class (keys_of old) (keys_of new) layer
      (merges_last (merged (keys_of old) (class_entries class layer)) (keys_of m) (drop from (keys_of old)) (keys_of new) it w.merges none
      (ap keys_of last ∙ map-append (λ (o : KeyedRow). o.key) m (drop from old) ∙ ap (λ l. keys_of m ++ l) (sym (drop-map (λ (o : KeyedRow). o.key) from old)))) rise are.keys;
  rows =
      All-from_recursion (HasRow (over base (changes layer)) class) new
      (subst (AllByRecursion (HasRow (over base (changes layer)) class)) (sym last)
      (all_joined (HasRow (over base (changes layer)) class) m (drop from old) w.rows (rows_kept base class layer (drop from old) (all_drop (HasRow base class) from old w.beneath) unnamed)));
}
  where
    unnamed : AllByRecursion (IsUnnamed layer class) (keys_of (drop from old))
    unnamed =
        subst (AllByRecursion (IsUnnamed layer class)) (drop-map (λ (o : KeyedRow). o.key) from old)
        (all_weaker (Beyond w.low) (IsUnnamed layer class) (λ q up. w.named q up ∙ ap (λ l. at_key q (map entry l)) none ∙ at_nothing q) (drop from (keys_of old)) w.keys_up)

-- ---- the changes that still come are those of the layer

abbrev pub TellsOne : ℕ → Entries → Cell → Option CellValue → Type 0
TellsOne class layer (Object of key) x = changes layer (object_cell class key) ≡ Some (change x)
TellsOne class layer (Rule n) x = Unit {0}
TellsOne class layer (Detector n) x = Unit {0}

abbrev pub Tells : ℕ → Entries → Entered → Type 0
Tells class layer [] = Unit {0}
Tells class layer (e ∷ t) = TellsOne class layer e.0 e.1 × Tells class layer t

beyond_later : (low : Option ℤ) (key q : ℤ) → Beyond low key → int_cmp key q ≡ Less → Beyond low q
beyond_later None key q up more = tt
beyond_later (Some k) key q up more = int_cmp_total.trans k key q up more

beyond_key : (low : Option ℤ) (of : ℕ) (key : ℤ) (x : Option CellValue) (t : Entered) → AllBeyond low (map entry ((Object of key, x) ∷ t)) → Beyond low key
beyond_key None of key x t up = tt
beyond_key (Some k) of key x t up = up.0

beyond_rule : (low : Option ℤ) (n : ℕ) (x : Option CellValue) (t : Entered) → AllBeyond low (map entry ((Rule n, x) ∷ t)) → AllBeyond low (map entry t)
beyond_rule None n x t up = tt
beyond_rule (Some k) n x t up = up

beyond_detector : (low : Option ℤ) (n : ℕ) (x : Option CellValue) (t : Entered) → AllBeyond low (map entry ((Detector n, x) ∷ t)) → AllBeyond low (map entry t)
beyond_detector None n x t up = tt
beyond_detector (Some k) n x t up = up

tells_from : (class : ℕ) (layer : Entries) (it : Entered) (low : Option ℤ) → KeysRise (map entry it) → AllBeyond low (map entry it)
    → ((q : ℤ) → Beyond low q → changes layer (object_cell class q) ≡ at_key q (map entry it)) → Tells class layer it
tells_from class layer [] low rise up named = tt
tells_from class layer ((Object of key, x) ∷ t) low rise up named = (
  named key (beyond_key low of key x t up) ∙ at_itself key of (change x) (map entry t),
  tells_from class layer t (Some key) rise.1 rise.0
      (λ q more. named q (beyond_later low key q (beyond_key low of key x t up) more) ∙ at_higher q key of (change x) (map entry t) more),
)
tells_from class layer ((Rule n, x) ∷ t) low rise up named =
    (tt, tells_from class layer t low rise (beyond_rule low n x t up) (λ q more. named q more ∙ at_skipped q (Rule n) x t (λ c k e. cc)))
tells_from class layer ((Detector n, x) ∷ t) low rise up named =
    (tt, tells_from class layer t low rise (beyond_detector low n x t up) (λ q more. named q more ∙ at_skipped q (Detector n) x t (λ c k e. cc)))

-- before the first change, and after another one
pub tells_first : (class : ℕ) (layer : Entries) (found it : Entered) → KeysRise (class_entries class layer) → map entry found ≡ class_entries class layer → it ≡ found → Tells class layer it
tells_first class layer found it rise entries is =
    tells_from class layer it None (subst KeysRise (sym (ap (map entry) is ∙ entries)) rise) tt
    (λ q up. changes-key class q layer ∙ ap (at_key q) (sym (ap (map entry) is ∙ entries)))

pub tells_next : (class : ℕ) (layer : Entries) (it t : Entered) (d : Cell) (x : Option CellValue) → Tells class layer it → it ≡ (d, x) ∷ t → Tells class layer t
tells_next class layer it t d x tells steps = let now : Tells class layer ((d, x) ∷ t) = subst (Tells class layer) steps tells in now.1
