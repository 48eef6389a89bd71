-- Keys of a class among which a part's objects are.
use Rattle.std.proofs.Common.{◌≡◌, refl, ap, ap₂, sym, ◌∙◌, subst, ℕ, ℤ, Bool, true, false, not, ◌&&◌, ◌||◌, cond, List, [], ◌∷◌, map, length, take, get_or, ◌+◌, ◌<◌, Option, Some}
use Rattle.std.proofs.Common.{None, IsTrue, int_eq, int_lt, Ok}
use Rattle.std.specs.Prelude.{◌==◌, option_map, if◌then◌else◌}
use Rattle.std.specs.declared.cmp.Ordering.{Ordering}
use Rattle.std.specs.declared.cmp.Ordering.TheVariants.{Less, Equal, Greater}
use Rattle.std.specs.declared.ops.Bound.{Bound}
use Rattle.std.specs.declared.ops.Bound.TheVariants.{Included}
use Rattle.std.specs.Ordering.{is_lt, is_le, nat_cmp, int_cmp, ordering_then, ordering_reverse}
use Rattle.std.specs.BTreeMap.{is_at}
use Rattle.std.specs.BTreeMap.Range.{range_contains, entries_between, is_from_start, is_past_end}
use Rattle.std.specs.Map.{lookup}
use Rattle.std.proofs.lemmas.Bool.Decides.{Decides-eqb, Decides-int_eq}
use Rattle.std.proofs.lemmas.Cmp.{int_cmp_total, nat_cmp_total, tied_itself}
use Rattle.hp_model.specs.Values.{KeyedRow, integer, fits_64}
use Rattle.hp_model.specs.ClassParts.{ClassPart, belongs, lies_within}
use Rattle.hp_model.specs.Cells as C
use Rattle.hp_model.specs.Cells.{object_cell, row_value, Cells, Changes, changed, over, same_cell, belongs_in}
use Rattle.hp_value.specs.declared.cell.Cell.TheVariants.{Object, Rule, Detector}
use Rattle.hp_store.specs.declared.value.CellValue.{CellValue}
use Rattle.hp_store.specs.Changes.{Entries, changes, changes_in, KeysFit}
use Rattle.hp_store.specs.Mapped.{cell_value, change, entry}
use Rattle.hp_store.specs.declared.base.Base.{Base}
use Rattle.hp_store.specs.Stack.{Stack, cells_in}
use Rattle.hp_store.specs.Tables.{tables, table_at, base_cells}
use Rattle.hp_store.specs.Parts.{object_keys, bound_of, lies_between, Covers, is_among, no_cells}
use Rattle.hp_store.proofs.Cells.{cell_cmp, int_at}
use Rattle.hp_store.proofs.Entered.{Kept}
use Rattle.hp_store.proofs.Keeping.{cells_shown}
use Rattle.hp_store.proofs.Layered.{changes_in-more, over_or}

-- ---- an object outside the bounds

from_low : (l k : ℤ) → not (int_lt k l) ≡ is_le (int_cmp l k)
from_low l k = ap not (sym (is_below (int_lt k l) (int_lt l k))) ∙ ap (λ r. not (is_lt r)) (int_cmp_total.antisymm k l) ∙ turned (int_cmp l k)
  where
    is_below : (a b : Bool) → is_lt (cond a Less (cond b Greater Equal)) ≡ a
    is_below true b = refl
    is_below false true = refl
    is_below false false = refl

    turned : (r : Ordering) → not (is_lt (ordering_reverse r)) ≡ is_le r
    turned Less = refl
    turned Equal = refl
    turned Greater = refl

up_to : (h k : ℤ) → not (int_lt h k) ≡ not (is_lt (int_cmp h k))
up_to h k = by (int_lt h k) (int_lt k h)
  where
    by : (a b : Bool) → not a ≡ not (is_lt (cond a Less (cond b Greater Equal)))
    by true b = refl
    by false true = refl
    by false false = refl

pub outside : (low high : Option ℤ) (k : ℤ) → lies_between low high k ≡ false → lies_within (option_map integer low) (option_map integer high) (integer k) ≡ Ok false
outside None None k is = cc
outside None (Some h) k is = ap Ok (up_to h k ∙ is)
outside (Some l) None k is = ap (λ b. Ok (b && true)) (from_low l k) ∙ ap Ok is
outside (Some l) (Some h) k is = ap₂ (λ a b. Ok (a && b)) (from_low l k) (up_to h k) ∙ ap Ok is

-- ---- keys that cover a class

-- what is nowhere named isn't there, and what lies past the bounds belongs to no part
pub covers_between : (keys : List ℤ) (p : ClassPart) (class : ℕ) (cells : Cells) (low high : Option ℤ) → ((o : KeyedRow) → lies_between low high o.key ≡ false → belongs p o ≡ Ok false)
    → ((key : ℤ) → lies_between low high key ≡ true → is_among keys key ≡ false → cells (object_cell class key) ≡ None) → Covers (is_among keys) p class cells
covers_between keys p class cells low high past none key out = by (lies_between low high key) refl
  where
    gone : (v : Option C.CellValue) → lies_between low high key ≡ false → belongs_in p key v ≡ Ok false
    gone None is = refl
    gone (Some (row_value row)) is = past (record { key = key; row = row }) is
    gone (Some (C.status_value s)) is = refl
    gone (Some (C.knowledge_value k)) is = refl

    by : (b : Bool) → lies_between low high key ≡ b → belongs_in p key (cells (object_cell class key)) ≡ Ok false
    by true is = ap (belongs_in p key) (none key is out)
    by false is = gone (cells (object_cell class key)) is

pub covers_over : (test : ℤ → Bool) (p : ClassPart) (class : ℕ) (base : Cells) (layer : Changes) → Covers test p class base → Covers test p class (over no_cells layer)
    → Covers test p class (over base layer)
covers_over test p class base layer below above key fails = by (layer (object_cell class key)) refl
  where
    by : (c : Option (Option C.CellValue)) → layer (object_cell class key) ≡ c → belongs_in p key (changed (base (object_cell class key)) c) ≡ Ok false
    by None is = below key fails
    by (Some v) is = ap (λ c. belongs_in p key (changed None c)) (sym is) ∙ above key fails

-- ---- the keys of a table

pub any_first : (a b : Bool) → (a || b) ≡ false → a ≡ false
any_first true b h = h
any_first false b h = refl

pub any_later : (a b : Bool) → (a || b) ≡ false → b ≡ false
any_later true b h = cc
any_later false b h = h

abbrev pub firsts : List (ℤ × CellValue) → List ℤ
firsts = map (λ (e : ℤ × CellValue). e.0)

pub table_between : (low high : Bound ℤ) (es : List (ℤ × CellValue)) (key : ℤ) → range_contains int_cmp low high key ≡ true → is_among (firsts (entries_between int_cmp low high es)) key ≡ false
    → lookup (is_at (int_cmp key)) es ≡ None
table_between low high [] key within out = refl
table_between low high (e ∷ es) key within out = by (table_between low high es key within) (is_at (int_cmp key) e.0) refl (range_contains int_cmp low high e.0) refl out
  where
    later : List (ℤ × CellValue)
    later = entries_between int_cmp low high es

    by : (is_among (firsts later) key ≡ false → lookup (is_at (int_cmp key)) es ≡ None) → (same : Bool) → is_at (int_cmp key) e.0 ≡ same → (inside : Bool)
        → range_contains int_cmp low high e.0 ≡ inside → is_among (firsts (cond inside (e ∷ later) later)) key ≡ false
        → cond same (Some e.1) (lookup (is_at (int_cmp key)) es) ≡ None
    by rest true is true inside out = absurd (cc (sym (any_first (int_eq key e.0) (is_among (firsts later) key) out) ∙ sym (int_at key e.0) ∙ is))
    by rest true is false inside out =
        absurd (cc (sym within ∙ ap (range_contains int_cmp low high) ((Decides-int_eq key e.0).0 (sym (int_at key e.0) ∙ is)) ∙ inside))
    by rest false is true inside out = rest (any_later (int_eq key e.0) (is_among (firsts later) key) out)
    by rest false is false inside out = rest out

-- ---- the keys that a layer names

pub layer_between : (class : ℕ) (low high : ℤ) (es : Kept) (key : ℤ) → is_le (int_cmp low key) ≡ true → is_lt (int_cmp high key) ≡ false
    → is_among (object_keys (entries_between cell_cmp (Included (Object class low)) (Included (Object class high)) es)) key ≡ false → changes (map entry es) (object_cell class key) ≡ None
layer_between class low high [] key from below out = refl
layer_between class low high ((Object of k, x) ∷ es) key from below out =
    by (layer_between class low high es key from below) (same_cell (object_cell of k) (object_cell class key)) refl
    (range_contains cell_cmp (Included (Object class low)) (Included (Object class high)) (Object of k)) refl out
  where
    later : Kept
    later = entries_between cell_cmp (Included (Object class low)) (Included (Object class high)) es

    inside_at : (r : Ordering) → r ≡ Equal → (is_le (ordering_then r (int_cmp low key)) && not (is_lt (ordering_then r (int_cmp high key)))) ≡ true
    inside_at r is = ap (λ s. is_le (ordering_then s (int_cmp low key)) && not (is_lt (ordering_then s (int_cmp high key)))) is ∙ ap₂ (λ a b. a && not b) from below

    and_first : (a b : Bool) → (a && b) ≡ true → a ≡ true
    and_first true b h = refl
    and_first false b h = h

    and_second : (a b : Bool) → (a && b) ≡ true → b ≡ true
    and_second true b h = h
    and_second false b h = cc

    there : same_cell (object_cell of k) (object_cell class key) ≡ true → range_contains cell_cmp (Included (Object class low)) (Included (Object class high)) (Object of k) ≡ true
    there same =
        ap₂ (λ c j. range_contains cell_cmp (Included (Object class low)) (Included (Object class high)) (Object c j))
        ((Decides-eqb of class).0 (and_first (of == class) (int_eq k key) same)) ((Decides-int_eq k key).0 (and_second (of == class) (int_eq k key) same))
        ∙ inside_at (nat_cmp class class) (tied_itself nat_cmp_total class)

    by : (is_among (object_keys later) key ≡ false → changes (map entry es) (object_cell class key) ≡ None) → (same : Bool) → same_cell (object_cell of k) (object_cell class key) ≡ same
        → (inside : Bool)
        → range_contains cell_cmp (Included (Object class low)) (Included (Object class high)) (Object of k) ≡ inside
        → is_among (object_keys (cond inside ((Object of k, x) ∷ later) later)) key ≡ false
        → (if same then Some (change x) else changes (map entry es) (object_cell class key)) ≡ None
    by rest true is true inside out =
        absurd (cc (sym (any_first (int_eq key k) (is_among (object_keys later) key) out)
        ∙ (Decides-int_eq key k).1 (sym ((Decides-int_eq k key).0 (and_second (of == class) (int_eq k key) is)))))
    by rest true is false inside out = absurd (cc (sym inside ∙ there is))
    by rest false is true inside out = rest (any_later (int_eq key k) (is_among (object_keys later) key) out)
    by rest false is false inside out = rest out
layer_between class low high ((Rule n, x) ∷ es) key from below out = layer_between class low high es key from below out
layer_between class low high ((Detector n, x) ∷ es) key from below out = layer_between class low high es key from below out

-- ---- what a function gives

-- a class's keys between two bounds, where its table is found
pub covers_table : (b : Base) (class : ℕ) (low high : Option ℤ) (lo hi : Bound ℤ) (es range : List (ℤ × CellValue)) → lo ≡ bound_of low → hi ≡ bound_of high → es ≡ table_at b.classes.items class
    → range ≡ entries_between int_cmp lo hi es → (key : ℤ) → lies_between low high key ≡ true → is_among (firsts range) key ≡ false → base_cells b (object_cell class key) ≡ None
covers_table b class low high lo hi es range from to is between key within out =
    ap (λ l. option_map cell_value (lookup (is_at (int_cmp key)) l)) (sym is)
    ∙ ap (option_map cell_value)
    (table_between (bound_of low) (bound_of high) es key within
    (ap (λ l. is_among (firsts l) key) (sym (between ∙ ap₂ (λ a b. entries_between int_cmp a b es) from to)) ∙ out))

-- what a layer names fits
pub named_fits : (es : Kept) (class : ℕ) (key : ℤ) → KeysFit (map entry es) → fits_64 key ≡ false → changes (map entry es) (object_cell class key) ≡ None
named_fits [] class key fit past = refl
named_fits ((Object of k, x) ∷ es) class key fit past = by (same_cell (object_cell of k) (object_cell class key)) refl ∙ named_fits es class key fit.1 past
  where
    second : (a b : Bool) → (a && b) ≡ true → b ≡ true
    second true b h = h
    second false b h = cc

    by : (same : Bool) → same_cell (object_cell of k) (object_cell class key) ≡ same
        → (if same then Some (change x) else changes (map entry es) (object_cell class key)) ≡ changes (map entry es) (object_cell class key)
    by true is = absurd (cc (sym fit.0 ∙ ap fits_64 ((Decides-int_eq k key).0 (second (of == class) (int_eq k key) is)) ∙ past))
    by false is = refl
named_fits ((Rule n, x) ∷ es) class key fit past = named_fits es class key fit.1 past
named_fits ((Detector n, x) ∷ es) class key fit past = named_fits es class key fit.1 past

-- the objects of a class between two bounds that a layer names
pub covers_layer : (p : ClassPart) (class : ℕ) (low high : Option ℤ) (least greatest : ℤ) (es range : Kept) (now : Entries) → map entry es ≡ now → KeysFit (map entry es)
    → ((o : KeyedRow) → lies_between low high o.key ≡ false → belongs p o ≡ Ok false)
    → ((key : ℤ) → IsTrue (fits_64 key) → is_from_start int_cmp (bound_of low) key ≡ true → is_le (int_cmp least key) ≡ true)
    → ((key : ℤ) → IsTrue (fits_64 key) → is_past_end int_cmp (bound_of high) key ≡ false → is_lt (int_cmp greatest key) ≡ false)
    → range ≡ entries_between cell_cmp (Included (Object class least)) (Included (Object class greatest)) es → Covers (is_among (object_keys range)) p class (over no_cells (changes now))
covers_layer p class low high least greatest es range now is fit past from to between =
    covers_between (object_keys range) p class (over no_cells (changes now)) low high past
    (λ key within out. ap (λ l. changed None (changes l (object_cell class key))) (sym is) ∙ ap (changed None) (none key (fits_64 key) refl within out))
  where
    first : (a b : Bool) → (a && not b) ≡ true → a ≡ true
    first true b h = refl
    first false b h = h

    second : (a b : Bool) → (a && not b) ≡ true → b ≡ false
    second true true h = cc
    second true false h = refl
    second false b h = cc

    none : (key : ℤ) (fits : Bool) → fits_64 key ≡ fits → lies_between low high key ≡ true → is_among (object_keys range) key ≡ false → changes (map entry es) (object_cell class key) ≡ None
    none key true fits within out =
        layer_between class least greatest es key
        (from key fits (first (is_from_start int_cmp (bound_of low) key) (is_past_end int_cmp (bound_of high) key) within))
        (to key fits (second (is_from_start int_cmp (bound_of low) key) (is_past_end int_cmp (bound_of high) key) within))
        (ap (λ l. is_among (object_keys l) key) (sym between) ∙ out)
    none key false fits within out = named_fits es class key fit fits

-- with one layer more
pub covers_more : (test : ℤ → Bool) (p : ClassPart) (class : ℕ) (layers : List Entries) (i : ℕ) (shared : Entries) → i < length layers → shared ≡ get_or layers i shared
    → Covers test p class (over no_cells (changes_in (take i layers))) → Covers test p class (over no_cells (changes shared)) → Covers test p class (over no_cells (changes_in (take (i + 1) layers)))
covers_more test p class layers i shared within is below above key fails =
    ap (belongs_in p key)
    (ap (changed None) (changes_in-more layers i shared (object_cell class key) within is) ∙ sym (over_or no_cells shared (changes_in (take i layers) (object_cell class key)) (object_cell class key)))
    ∙ covers_over test p class (over no_cells (changes_in (take i layers))) (changes shared) below above key fails

-- the base, the layers and the writes
pub covers_each : (test : ℤ → Bool) (p : ClassPart) (class : ℕ) (b : Base) (layers : List Entries) (now : Stack) (writes : Entries) → record { base = tables b; layers = layers } ≡ now
    → Covers test p class (base_cells b) → Covers test p class (over no_cells (changes_in layers)) → Covers test p class (over no_cells (changes writes))
    → Covers test p class (over (cells_in now) (changes writes))
covers_each test p class b layers now writes is base over_it written =
    subst (λ cs. Covers test p class (over cs (changes writes))) (cells_shown b layers now is)
    (covers_over test p class (over (base_cells b) (changes_in layers)) (changes writes) (covers_over test p class (base_cells b) (changes_in layers) base over_it) written)
