-- A snapshot's cells.
use Rattle.std.proofs.Common.{◌≡◌, refl, ap, sym, ◌∙◌, subst, ℕ, zero, suc, ◌+◌, ◌<◌, ℤ, List, [], ◌∷◌, map, length, take, get_or, Option, None}
use Rattle.std.specs.Prelude.{option_map}
use Rattle.std.specs.Option.{option_or}
use Rattle.std.specs.Ordering.{int_cmp}
use Rattle.std.specs.BTreeMap.{BTreeMap, is_at}
use Rattle.std.specs.Map.{lookup}
use Rattle.hp_model.specs.Cells.{Cell, CellValue as Value, object_cell, rule_cell, detector_cell, Cells, changed, over, AreKeys}
use Rattle.hp_store.specs.declared.value.CellValue.{CellValue}
use Rattle.hp_store.specs.declared.base.Base.{Base}
use Rattle.hp_store.specs.Changes.{Entries, changes, changes_in}
use Rattle.hp_store.specs.Mapped.{cell_value}
use Rattle.hp_store.specs.Stack.{Stack, cells_in}
use Rattle.hp_store.proofs.Layered.{over_or, changes_in-more, nothing_more}
use Rattle.hp_store.specs.Tables.{tables, table_at, entries_at, cells_at, base_cells}

entries_of : (ts : List (BTreeMap ℤ CellValue)) (i : ℕ) → entries_at (map (λ t. t.entries) ts) i ≡ table_at ts i
entries_of [] i = refl
entries_of (t ∷ ts) zero = refl
entries_of (t ∷ ts) (suc i) = entries_of ts i

-- the tables' cells are the base's
pub tables_show : (b : Base) (q : Cell) → cells_at (tables b) q ≡ base_cells b q
tables_show b (object_cell class key) = ap (λ es. option_map cell_value (lookup (is_at (int_cmp key)) es)) (entries_of b.classes.items class)
tables_show b (rule_cell n) = refl
tables_show b (detector_cell n) = refl

pub shown : (b : Base) (layers : List Entries) (q : Cell) → cells_in (record { base = tables b; layers = layers }) q ≡ over (base_cells b) (changes_in layers) q
shown b layers q = ap (λ v. changed v (changes_in layers q)) (tables_show b q)

-- with no layer, and nothing in the base
pub nothing_shown : (b new : Base) (layers : List Entries) → new ≡ b → layers ≡ [] → ((q : Cell) → base_cells b q ≡ None) → (q : Cell)
    → cells_in (record { base = tables new; layers = layers }) q ≡ None
nothing_shown b new layers same none empty q = shown new layers q ∙ ap (λ l. changed (base_cells new q) (changes_in l q)) none ∙ ap (λ c. base_cells c q) same ∙ empty q

-- what no layer names
pub found_below : (b : Base) (layers : List Entries) (now : Stack) (q : Cell) (r : Option Value) → record { base = tables b; layers = layers } ≡ now → None ≡ changes_in layers q → r ≡ base_cells b q
    → r ≡ cells_in now q
found_below b layers now q r is unnamed found = found ∙ ap (changed (base_cells b q)) unnamed ∙ sym (shown b layers q) ∙ ap (λ s. cells_in s q) is

-- with one layer more
pub shown_over : (b new : Base) (layers pile : List Entries) (now : Stack) (layer : Entries) → record { base = tables b; layers = layers } ≡ now
    → ((q : Cell) → over (base_cells new) (changes_in pile) q ≡ changed (base_cells b q) (option_or (changes layer q) (changes_in layers q)))
    → cells_in (record { base = tables new; layers = pile }) ≡ over (cells_in now) (changes layer)
shown_over b new layers pile now layer is step i q = at q i
  where
    at : (q : Cell) → cells_in (record { base = tables new; layers = pile }) q ≡ over (cells_in now) (changes layer) q
    at q =
        shown new pile q ∙ step q ∙ sym (over_or (base_cells b) layer (changes_in layers q) q) ∙ ap (λ v. changed v (changes layer q)) (sym (shown b layers q))
        ∙ ap (λ s. over (cells_in s) (changes layer) q) is

-- ---- layers taken in one by one

pub taken_more : (old b new : Base) (layers : List Entries) (i : ℕ) (shared layer : Entries) → i < length layers → shared ≡ get_or layers i shared → layer ≡ shared
    → ((q : Cell) → base_cells b q ≡ over (base_cells old) (changes_in (take i layers)) q) → ((q : Cell) → base_cells new q ≡ over (base_cells b) (changes layer) q)
    → (q : Cell) → base_cells new q ≡ over (base_cells old) (changes_in (take (i + 1) layers)) q
taken_more old b new layers i shared layer within is same so_far step q =
    step q ∙ ap (λ v. changed v (changes layer q)) (so_far q) ∙ over_or (base_cells old) layer (changes_in (take i layers) q) q
    ∙ ap (λ l. changed (base_cells old q) (option_or (changes l q) (changes_in (take i layers) q))) same ∙ ap (changed (base_cells old q)) (sym (changes_in-more layers i shared q within is))

pub taken_nothing : (old : Base) (layers : List Entries) (i : ℕ) (shared : Entries) → i < length layers → shared ≡ get_or layers i shared → shared ≡ []
    → (q : Cell) → over (base_cells old) (changes_in (take i layers)) q ≡ over (base_cells old) (changes_in (take (i + 1) layers)) q
taken_nothing old layers i shared within is none q = ap (changed (base_cells old q)) (nothing_more layers i shared within is none q)

-- ---- keys

-- under one layer more
pub keys_more : (base : Cells) (class : ℕ) (layers : List Entries) (i : ℕ) (shared layer : Entries) (ks new : List ℤ) → i < length layers → shared ≡ get_or layers i shared → layer ≡ shared
    → AreKeys (over base (changes_in (take i layers))) class ks → ((b : Cells) → AreKeys b class ks → AreKeys (over b (changes layer)) class new)
    → AreKeys (over base (changes_in (take (i + 1) layers))) class new
keys_more base class layers i shared layer ks new within is same have step = subst (λ cs. AreKeys cs class new) (λ j q. at q j) (step (over base (changes_in (take i layers))) have)
  where
    at : (q : Cell) → over (over base (changes_in (take i layers))) (changes layer) q ≡ over base (changes_in (take (i + 1) layers)) q
    at q =
        over_or base layer (changes_in (take i layers) q) q ∙ ap (λ l. changed (base q) (option_or (changes l q) (changes_in (take i layers) q))) same
        ∙ ap (changed (base q)) (sym (changes_in-more layers i shared q within is))

pub keys_same : (base : Cells) (class : ℕ) (layers : List Entries) (i : ℕ) (shared : Entries) (ks : List ℤ) → i < length layers → shared ≡ get_or layers i shared → shared ≡ []
    → AreKeys (over base (changes_in (take i layers))) class ks → AreKeys (over base (changes_in (take (i + 1) layers))) class ks
keys_same base class layers i shared ks within is none have = subst (λ cs. AreKeys cs class ks) (λ j q. ap (changed (base q)) (nothing_more layers i shared within is none q) j) have

-- of a snapshot
pub keys_shown : (b : Base) (layers : List Entries) (now : Stack) (class : ℕ) (ks : List ℤ) → record { base = tables b; layers = layers } ≡ now
    → AreKeys (over (base_cells b) (changes_in layers)) class ks
    → AreKeys (cells_in now) class ks
keys_shown b layers now class ks is have = subst (λ s. AreKeys (cells_in s) class ks) is (subst (λ cs. AreKeys cs class ks) (λ j q. sym (shown b layers q) j) have)

-- a class's table
pub table_shown : (b seen : Base) (layers : List Entries) (now : Stack) (class : ℕ) → record { base = tables b; layers = layers } ≡ now → seen ≡ b
    → table_at seen.classes.items class ≡ entries_at now.base.classes class
table_shown b seen layers now class is same = ap (λ (x : Base). table_at x.classes.items class) same ∙ sym (entries_of b.classes.items class) ∙ ap (λ s. entries_at s.base.classes class) is

-- where the tables are the same, the cells are
pub same_tables : (b new : Base) → tables new ≡ tables b → (q : Cell) → base_cells new q ≡ base_cells b q
same_tables b new same q = sym (tables_show new q) ∙ ap (λ t. cells_at t q) same ∙ tables_show b q
