-- The part of a layer's map that a class's objects are.
use Rattle.std.proofs.Common.{◌≡◌, refl, ap, ap₂, sym, ◌∙◌, subst, ℕ, ℤ, pos, negsuc, Bool, true, false, not, ◌&&◌, cond, List, [], ◌∷◌, map, Option, IsTrue, nat_lt, ◌-◌, ◌^◌, arith}
use Rattle.std.specs.Prelude.{◌==◌}
use Rattle.std.specs.declared.cmp.Ordering.{Ordering}
use Rattle.std.specs.declared.cmp.Ordering.TheVariants.{Less, Equal, Greater}
use Rattle.std.specs.declared.ops.Bound.TheVariants.{Included}
use Rattle.std.specs.Ordering.{is_eq, is_lt, is_le, nat_cmp, int_cmp, ordering_then}
use Rattle.std.specs.BTreeMap.Range.{range_contains, entries_between}
use Rattle.std.specs.Map.{keys_of}
use Rattle.std.specs.List.{AllByRecursion}
use Rattle.std.specs.List.Sorted.{IsStrictlySortedBy}
use Rattle.std.proofs.lemmas.Bool.{le-ltb, ltb-true}
use Rattle.std.proofs.lemmas.Bool.Decides.{Decides-eqb}
use Rattle.std.proofs.lemmas.Cmp.{nat_cmp_total, tied_itself}
use Rattle.hp_model.specs.Values.{fits_64}
use Rattle.hp_model.specs.Cells as C
use Rattle.hp_value.specs.declared.cell.Cell.{Cell}
use Rattle.hp_value.specs.declared.cell.Cell.TheVariants.{Object, Rule, Detector}
use Rattle.hp_value.specs.Mapped.{cell}
use Rattle.hp_store.specs.declared.value.CellValue.{CellValue}
use Rattle.hp_store.specs.Changes.{cell_fits, KeysFit, is_of_class, class_entries}
use Rattle.hp_store.specs.Keys.{AboveKeys, KeysRise}
use Rattle.hp_store.specs.Mapped.{change, entry}
use Rattle.hp_store.proofs.Cells.{cell_cmp, nat_at}
use Rattle.hp_store.proofs.Entered.{Kept}

-- ---- the range

abbrev pub least : ℤ
least = negsuc (2 ^ 63 - 1)

abbrev pub greatest : ℤ
greatest = pos (2 ^ 63 - 1)

le_choice : (b c : Bool) → c ≡ false → is_le (cond b Less (cond c Greater Equal)) ≡ true
le_choice true c is = refl
le_choice false c is = ap (λ d. is_le (cond d Greater Equal)) is

lt_choice : (b c : Bool) → b ≡ false → is_lt (cond b Less (cond c Greater Equal)) ≡ false
lt_choice b true is = ap (λ d. is_lt (cond d Less Greater)) is
lt_choice b false is = ap (λ d. is_lt (cond d Less Equal)) is

at_most : (n : ℕ) → IsTrue (nat_lt n (2 ^ 63)) → nat_lt (2 ^ 63 - 1) n ≡ false
at_most n fit = le-ltb (2 ^ 63 - 1) n (omega (arith, ltb-true n (2 ^ 63) fit))

pub above_least : (k : ℤ) → IsTrue (fits_64 k) → is_le (int_cmp least k) ≡ true
above_least (pos n) fit = refl
above_least (negsuc n) fit = le_choice (nat_lt n (2 ^ 63 - 1)) (nat_lt (2 ^ 63 - 1) n) (at_most n fit)

pub below_greatest : (k : ℤ) → IsTrue (fits_64 k) → is_lt (int_cmp greatest k) ≡ false
below_greatest (pos n) fit = lt_choice (nat_lt (2 ^ 63 - 1) n) (nat_lt n (2 ^ 63 - 1)) (at_most n fit)
below_greatest (negsuc n) fit = refl

between_choice : (r s t : Ordering) → is_le s ≡ true → is_lt t ≡ false → (is_le (ordering_then r s) && not (is_lt (ordering_then r t))) ≡ is_eq r
between_choice Less s t low high = refl
between_choice Equal s t low high = ap₂ (λ a b. a && not b) low high
between_choice Greater s t low high = refl

in_class : (class : ℕ) (c : Cell) → IsTrue (cell_fits (cell c)) → range_contains cell_cmp (Included (Object class least)) (Included (Object class greatest)) c ≡ is_of_class class (cell c)
in_class class (Object of k) fit = between_choice (nat_cmp class of) (int_cmp least k) (int_cmp greatest k) (above_least k fit) (below_greatest k fit) ∙ nat_at class of
in_class class (Rule n) fit = refl
in_class class (Detector n) fit = refl

filter_step : (b c : Bool) (e : Cell × Option CellValue) (es : Kept) (fs : List (C.Cell × Option C.CellValue)) → b ≡ c → map entry es ≡ fs → map entry (cond b (e ∷ es) es) ≡ cond c (entry e ∷ fs) fs
filter_step true c e es fs is rest = ap (λ l. entry e ∷ l) rest ∙ ap (λ d. cond d (entry e ∷ fs) fs) is
filter_step false c e es fs is rest = rest ∙ ap (λ d. cond d (entry e ∷ fs) fs) is

pub class_range : (class : ℕ) (es : Kept) → KeysFit (map entry es)
    → map entry (entries_between cell_cmp (Included (Object class least)) (Included (Object class greatest)) es) ≡ class_entries class (map entry es)
class_range class [] fit = refl
class_range class (e ∷ es) fit =
    filter_step (range_contains cell_cmp (Included (Object class least)) (Included (Object class greatest)) e.0) (is_of_class class (cell e.0)) e
    (entries_between cell_cmp (Included (Object class least)) (Included (Object class greatest)) es) (class_entries class (map entry es))
    (in_class class e.0 fit.0) (class_range class es fit.1)

-- ---- its keys rise

less_key : (class of : ℕ) (k j : ℤ) → (class == of) ≡ true → ordering_then (nat_cmp class of) (int_cmp k j) ≡ Less → int_cmp k j ≡ Less
less_key class of k j same less =
    sym (ap (λ r. ordering_then r (int_cmp k j)) (ap (nat_cmp class) (sym ((Decides-eqb class of).0 same)) ∙ tied_itself nat_cmp_total class)) ∙ less

above_choice : (b : Bool) (k : ℤ) (of : ℕ) (j : ℤ) (x : Option C.CellValue) (fs : List (C.Cell × Option C.CellValue)) → (b ≡ true → int_cmp k j ≡ Less) → AboveKeys k fs
    → AboveKeys k (cond b ((C.object_cell of j, x) ∷ fs) fs)
above_choice true k of j x fs here rest = (here refl, rest)
above_choice false k of j x fs here rest = rest

class_above : (class : ℕ) (k : ℤ) (es : Kept) → AllByRecursion (λ d. cell_cmp (Object class k) d ≡ Less) (keys_of es) → AboveKeys k (class_entries class (map entry es))
class_above class k [] ups = tt
class_above class k ((Object of j, x) ∷ es) ups =
    above_choice (class == of) k of j (change x) (class_entries class (map entry es)) (λ same. less_key class of k j same ups.0) (class_above class k es ups.1)
class_above class k ((Rule n, x) ∷ es) ups = class_above class k es ups.1
class_above class k ((Detector n, x) ∷ es) ups = class_above class k es ups.1

rise_choice : (b : Bool) (of : ℕ) (j : ℤ) (x : Option C.CellValue) (fs : List (C.Cell × Option C.CellValue)) → (b ≡ true → AboveKeys j fs) → KeysRise fs
    → KeysRise (cond b ((C.object_cell of j, x) ∷ fs) fs)
rise_choice true of j x fs here rest = (here refl, rest)
rise_choice false of j x fs here rest = rest

pub class_rise : (class : ℕ) (es : Kept) → IsStrictlySortedBy cell_cmp (keys_of es) → KeysRise (class_entries class (map entry es))
unfolding IsStrictlySortedBy
class_rise class [] rise = tt
class_rise class ((Object of j, x) ∷ es) rise =
    rise_choice (class == of) of j (change x) (class_entries class (map entry es))
    (λ same. class_above class j es (subst (λ n. AllByRecursion (λ d. cell_cmp (Object n j) d ≡ Less) (keys_of es)) (sym ((Decides-eqb class of).0 same)) rise.0)) (class_rise class es rise.1)
class_rise class ((Rule n, x) ∷ es) rise = class_rise class es rise.1
class_rise class ((Detector n, x) ∷ es) rise = class_rise class es rise.1
