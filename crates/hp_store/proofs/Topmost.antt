-- The greatest keys of a class in a table, in a layer and in a snapshot.
use Rattle.std.proofs.Common.{◌≡◌, refl, ap, sym, ◌∙◌, subst, ℕ, ℤ, pos, negsuc, Bool, true, false, cond, List, [], ◌∷◌, ◌++◌, map, Option, Some, None, is_some, IsTrue, IsSome}
use Rattle.std.proofs.Common.{int_lt, ◌+◌, ◌-◌, ◌^◌, ◌<◌, ⊎_elim, ◌⊎◌, length, take, get_or}
use Rattle.std.specs.declared.cmp.Ordering.{Ordering}
use Rattle.std.specs.declared.cmp.Ordering.TheVariants.{Less, Equal, Greater}
use Rattle.std.specs.declared.ops.Bound.{Bound}
use Rattle.std.specs.declared.ops.Bound.TheVariants.{Included, Unbounded}
use Rattle.std.specs.Prelude.{option_map, IfSome}
use Rattle.std.specs.Option.{option_or}
use Rattle.std.specs.Ordering.{is_lt, is_gt, is_le, nat_cmp, int_cmp, ordering_then, ordering_reverse}
use Rattle.std.specs.BTreeMap.{BTreeMap, get}
use Rattle.std.specs.Map.Iter.{TakesLast}
use Rattle.std.specs.BTreeMap.Range.{IsRangeOf, IsFromStart, IsUpToEnd}
use Rattle.std.proofs.lemmas.Cmp.{nat_cmp_total, int_cmp_total, tied_itself}
use Rattle.std.proofs.lemmas.Map.Lookups.{exact_unsigned}
use Rattle.hp_model.specs.Values.{fits_64}
use Rattle.hp_model.specs.Cells as C
use Rattle.hp_model.specs.Cells.{object_cell, changed, over, is_above}
use Rattle.hp_value.specs.declared.cell.Cell.{Cell}
use Rattle.hp_value.specs.declared.cell.Cell.TheVariants.{Object}
use Rattle.hp_store.specs.declared.value.CellValue.{CellValue}
use Rattle.hp_store.specs.declared.base.Base.{Base}
use Rattle.hp_store.specs.Changes.{Entries, changes, changes_in, KeysFit}
use Rattle.hp_store.specs.Greatest.{is_below, below_bound, class_end, NamesNone}
use Rattle.hp_store.specs.Mapped.{change, entry}
use Rattle.hp_store.specs.Stack.{Stack, cells_in}
use Rattle.hp_store.specs.Tables.{base_cells, tables}
use Rattle.hp_store.proofs.Cells.{cell_cmp}
use Rattle.hp_store.proofs.Covered.{named_fits}
use Rattle.hp_store.proofs.Entered.{Kept, changes-cell}
use Rattle.hp_store.proofs.Keeping.{cells_shown}
use Rattle.hp_store.proofs.Layered.{changes_in-more}
use Rattle.hp_store.proofs.Ranged.{least, greatest, above_least, below_greatest}

-- ---- tests and orderings

less_by : (a b : ℤ) → int_lt a b ≡ true → int_cmp a b ≡ Less
less_by a b h = ap (λ t. cond t Less (cond (int_lt b a) Greater Equal)) h

test_by : (a b : ℤ) → int_cmp a b ≡ Less → int_lt a b ≡ true
test_by a b h = by (int_lt a b) (int_lt b a) h
  where
    by : (s t : Bool) → cond s Less (cond t Greater Equal) ≡ Less → s ≡ true
    by true t e = refl
    by false true e = cc
    by false false e = cc

-- ---- a table

up_to_end : (bound : Option ℤ) (key : ℤ) → is_below bound key ≡ true → IsUpToEnd int_cmp (below_bound bound) key
up_to_end None key h = tt
up_to_end (Some b) key h = less_by key b h

gone : {A : Type 0} (o : Option A) → (IsSome o → ⊥) → o ≡ None
gone None never = refl
gone (Some a) never = absurd (never refl)

-- where no last entry comes there is none
pub none_left : {A X : Type 0} (shows : A → X) (s t : List X) (r : Option A) → r ≡ None → TakesLast shows s r t → s ≡ []
none_left shows s t None is steps = steps.0
none_left shows s t (Some x) is steps = cc

-- above the last key of a range up to a bound there is none below the bound
pub table_last : (bound : Option ℤ) (end : Bound ℤ) (table : BTreeMap ℤ CellValue) (range left : List (ℤ × CellValue)) (e : ℤ × CellValue) → end ≡ below_bound bound
    → IsRangeOf int_cmp Unbounded end table range
    → range ≡ left ++ e ∷ [] → (key : ℤ) → is_below bound key ≡ true → int_lt e.0 key ≡ true → get int_cmp table key ≡ None
table_last bound end table range left e is of last key below above =
    gone (get int_cmp table key) (λ some. cc (sym (of.4 e left last key (tt, subst (λ b. IsUpToEnd int_cmp b key) (sym is) (up_to_end bound key below)) some) ∙ ap is_lt (less_by e.0 key above)))

-- ---- a layer

-- cells between those of a class are of the class
same_class : (class of : ℕ) (x y : Ordering) → is_gt (ordering_then (nat_cmp class of) x) ≡ false → is_gt (ordering_then (nat_cmp of class) y) ≡ false → class ≡ of
same_class class of x y from to = by (nat_cmp class of) refl from
  where
    by : (r : Ordering) → nat_cmp class of ≡ r → is_gt (ordering_then r x) ≡ false → class ≡ of
    by Less e h = absurd (cc (sym to ∙ ap (λ s. is_gt (ordering_then s y)) (nat_cmp_total.antisymm of class ∙ ap ordering_reverse e)))
    by Equal e h = exact_unsigned class of e
    by Greater e h = cc

not_past : (r : Ordering) → r ≡ Less → is_gt r ≡ false
not_past r e = ap is_gt e

in_class : (class of : ℕ) (k : ℤ) (bound : Option ℤ) → IsFromStart cell_cmp (Included (Object class least)) (Object of k) → IsUpToEnd cell_cmp (class_end class bound) (Object of k) → class ≡ of
in_class class of k None from to = same_class class of (int_cmp least k) (int_cmp k greatest) from to
in_class class of k (Some b) from to = same_class class of (int_cmp least k) (int_cmp k b) from (not_past (ordering_then (nat_cmp of class) (int_cmp k b)) to)

at_class : (class : ℕ) (r : Ordering) → ordering_then (nat_cmp class class) r ≡ r
at_class class r = ap (λ o. ordering_then o r) (tied_itself nat_cmp_total class)

le_not_gt : (r : Ordering) → is_le r ≡ true → is_gt r ≡ false
le_not_gt Less e = refl
le_not_gt Equal e = refl
le_not_gt Greater e = cc

turned_not_gt : (r s : Ordering) → r ≡ ordering_reverse s → is_lt s ≡ false → is_gt r ≡ false
turned_not_gt r Less e h = cc
turned_not_gt r Equal e h = ap is_gt e
turned_not_gt r Greater e h = ap is_gt e

from_least : (class : ℕ) (key : ℤ) → IsTrue (fits_64 key) → IsFromStart cell_cmp (Included (Object class least)) (Object class key)
from_least class key fits = ap is_gt (at_class class (int_cmp least key)) ∙ le_not_gt (int_cmp least key) (above_least key fits)

to_class_end : (class : ℕ) (bound : Option ℤ) (key : ℤ) → IsTrue (fits_64 key) → is_below bound key ≡ true → IsUpToEnd cell_cmp (class_end class bound) (Object class key)
to_class_end class None key fits h = ap is_gt (at_class class (int_cmp key greatest)) ∙ turned_not_gt (int_cmp key greatest) (int_cmp greatest key)
    (int_cmp_total.antisymm key greatest) (below_greatest key fits)
to_class_end class (Some b) key fits h = at_class class (int_cmp key b) ∙ less_by key b h

module _ (class : ℕ) (bound : Option ℤ) (end : Bound Cell) (m : BTreeMap Cell (Option CellValue)) (now : Entries) (range : Kept) (is : end ≡ class_end class bound) (shown : map entry m.entries ≡ now)
    (fit : KeysFit (map entry m.entries)) (of : IsRangeOf cell_cmp (Included (Object class least)) end m range) where
  -- what the map lacks isn't named, and no key past 64 bits is
  unnamed : (key : ℤ) → (IsTrue (fits_64 key) → get cell_cmp m (Object class key) ≡ None) → changes now (object_cell class key) ≡ None
  unnamed key none = ap (λ es. changes es (object_cell class key)) (sym shown) ∙ by (fits_64 key) refl
    where
      by : (b : Bool) → fits_64 key ≡ b → changes (map entry m.entries) (object_cell class key) ≡ None
      by true e = changes-cell (Object class key) m.entries ∙ ap (option_map change) (none e)
      by false e = named_fits m.entries class key fit e

  -- above the last key of a range up to a bound the layer names none below the bound
  pub layer_last : (left : Kept) (e : Cell × Option CellValue) (other : ℕ) (k : ℤ) → range ≡ left ++ e ∷ [] → e.0 ≡ Object other k → (key : ℤ) → is_below bound key ≡ true → int_lt k key ≡ true
      → changes now (object_cell class key) ≡ None
  layer_last left e other k last at key below above =
      unnamed key (λ fits. gone (get cell_cmp m (Object class key)) (λ some. cc
      (sym (of.4 e left last (Object class key) (from_least class key fits, subst (λ b. IsUpToEnd cell_cmp b (Object class key)) (sym is) (to_class_end class bound key fits below)) some)
      ∙ ap (λ c. is_lt (cell_cmp c (Object class key))) at ∙ ap (λ n. is_lt (cell_cmp (Object n k) (Object class key))) (sym one) ∙ ap is_lt (at_class class (int_cmp k key) ∙ less_by k key above))))
    where
      inside : IsFromStart cell_cmp (Included (Object class least)) (Object other k) × IsUpToEnd cell_cmp end (Object other k)
      inside = subst (λ c. IsFromStart cell_cmp (Included (Object class least)) c × IsUpToEnd cell_cmp end c) at (of.3 e left last).0

      one : class ≡ other
      one = in_class class other k bound inside.0 (subst (λ b. IsUpToEnd cell_cmp b (Object other k)) is inside.1)

  -- where nothing lies in the range, it names none
  pub layer_none : range ≡ [] → (key : ℤ) → is_below bound key ≡ true → changes now (object_cell class key) ≡ None
  layer_none none key below =
      unnamed key (λ fits. of.5 none (Object class key) (from_least class key fits, subst (λ b. IsUpToEnd cell_cmp b (Object class key)) (sym is) (to_class_end class bound key fits below)))

-- ---- the greater one of two

pub one_of : (P : ℤ → Type 0) (new old more : Option ℤ) → (new ≡ old) ⊎ (new ≡ more) → IfSome old P → IfSome more P → IfSome new P
one_of P new old more is first second = ⊎_elim (λ e. subst (λ o. IfSome o P) (sym e) first) (λ e. subst (λ o. IfSome o P) (sym e) second) is

or_none : (a b : Option (Option C.CellValue)) → a ≡ None → b ≡ None → option_or a b ≡ None
or_none a b e f = ap (λ o. option_or o b) e ∙ f

-- with one layer more
pub names_more : (layers : List Entries) (i : ℕ) (shared : Entries) (class : ℕ) (bound old more new : Option ℤ) → i < length layers → shared ≡ get_or layers i shared
    → NamesNone (changes_in (take i layers)) class bound old → NamesNone (changes shared) class bound more → ((k : ℤ) → is_above new k ≡ true → is_above old k ≡ true)
    → ((k : ℤ) → is_above new k ≡ true → is_above more k ≡ true)
    → NamesNone (changes_in (take (i + 1) layers)) class bound new
names_more layers i shared class bound old more new within is none here first second key below above =
    changes_in-more layers i shared (object_cell class key) within is
    ∙ or_none (changes shared (object_cell class key)) (changes_in (take i layers) (object_cell class key)) (here key below (second key above)) (none key below (first key above))

-- ---- the base, the layers and the writes

nothing_there : (b : Option C.CellValue) (l w : Option (Option C.CellValue)) → b ≡ None → l ≡ None → w ≡ None → is_some (changed (changed b l) w) ≡ false
nothing_there b l w e f g = (λ i. is_some (changed (changed (e i) (f i)) (g i)))

pub none_named : (b : Base) (layers : List Entries) (now : Stack) (writes : Entries) (class : ℕ) (bound base named under written new : Option ℤ) → record { base = tables b; layers = layers } ≡ now
    → ((key : ℤ) → is_below bound key ≡ true → is_above base key ≡ true → base_cells b (object_cell class key) ≡ None) → NamesNone (changes_in layers) class bound named
    → NamesNone (changes writes) class bound written
    → ((k : ℤ) → is_above under k ≡ true → is_above base k ≡ true) → ((k : ℤ) → is_above under k ≡ true → is_above named k ≡ true)
    → ((k : ℤ) → is_above new k ≡ true → is_above under k ≡ true) → ((k : ℤ) → is_above new k ≡ true → is_above written k ≡ true)
    → (key : ℤ) → is_below bound key ≡ true → is_above new key ≡ true → is_some (over (cells_in now) (changes writes) (object_cell class key)) ≡ false
none_named b layers now writes class bound base named under written new is at_base in_layers in_writes first second third fourth key below above =
    ap (λ cs. is_some (over cs (changes writes) (object_cell class key))) (sym (cells_shown b layers now is))
    ∙ nothing_there (base_cells b (object_cell class key)) (changes_in layers (object_cell class key)) (changes writes (object_cell class key))
    (at_base key below (first key (third key above))) (in_layers key below (second key (third key above))) (in_writes key below (fourth key above))

-- ---- the search

-- a bound on how many keys lie below it
abbrev pub left_below : Option ℤ → ℕ
left_below None = 2 ^ 64 + 1
left_below (Some (pos n)) = 2 ^ 63 + n
left_below (Some (negsuc n)) = 2 ^ 63 - 1 - n

-- a bound on how many lie above it
abbrev pub left_above : Option ℤ → ℕ
left_above None = 2 ^ 64 + 1
left_above (Some (pos n)) = 2 ^ 63 - 1 - n
left_above (Some (negsuc n)) = 2 ^ 63 + n
