-- A layer's entries, as its map keeps them.
use Rattle.std.proofs.Common.{◌≡◌, refl, ap, sym, ◌∙◌, subst, Bool, true, false, cond, List, [], ◌∷◌, map, Option, Some, None, ℤ, pos, negsuc, ◌^◌, Bor, FitsSigned, w64, to_z, of_z, ℕ}
use Rattle.std.specs.Prelude.{if◌then◌else◌, option_map, IsTrue, IsSome}
use Rattle.std.specs.declared.cmp.Ordering.{Ordering}
use Rattle.std.specs.declared.cmp.Ordering.TheVariants.{Less, Equal, Greater}
use Rattle.std.specs.Ordering.{is_eq, match_ordering}
use Rattle.std.specs.Option.{option_copied}
use Rattle.std.proofs.lemmas.Bool.{lt-ltb, ltb-true}
use Rattle.std.proofs.lemmas.Int.{to_z-of_z}
use Rattle.std.specs.BTreeMap.{BTreeMap, get, is_at, insert_entry}
use Rattle.std.specs.Map.{lookup, keys_of, remove_entry}
use Rattle.std.specs.List.{AllByRecursion}
use Rattle.std.specs.List.Sorted.{IsStrictlySortedBy}
use Rattle.hp_model.specs.Values.{fits_64}
use Rattle.hp_model.specs.Cells as C
use Rattle.hp_model.specs.Cells.{same_cell, with_change}
use Rattle.hp_model.proofs.BridgesCells.{same_turn}
use Rattle.hp_value.specs.declared.cell.Cell.{Cell}
use Rattle.hp_value.specs.declared.cell.Cell.TheVariants.{Object, Rule, Detector}
use Rattle.hp_value.specs.Mapped.{cell}
use Rattle.hp_store.specs.declared.value.CellValue.{CellValue}
use Rattle.hp_store.specs.Changes.{Entries, changes, IsEachOnce, cell_fits, KeysFit, is_of_class, class_entries}
use Rattle.hp_store.specs.Mapped.{change, entry}
use Rattle.hp_store.proofs.Cells.{cell_cmp, same_at}

abbrev pub Kept : Type 0
Kept = List (Cell × Option CellValue)

-- ---- one cell

chosen : (b : Bool) (x : Option CellValue) (o : Option (Option CellValue)) → (if b then Some (change x) else option_map change o) ≡ option_map change (cond b (Some x) o)
chosen true x o = refl
chosen false x o = refl

-- what the map has at a cell
pub changes-cell : (c : Cell) (es : Kept) → changes (map entry es) (cell c) ≡ option_map change (lookup (is_at (cell_cmp c)) es)
changes-cell c [] = refl
changes-cell c (e ∷ es) =
    ap (λ o. if same_cell (cell e.0) (cell c) then Some (change e.1) else o) (changes-cell c es)
    ∙ ap (λ b. if b then Some (change e.1) else option_map change (lookup (is_at (cell_cmp c)) es)) (same_turn (cell e.0) (cell c) ∙ sym (same_at c e.0))
    ∙ chosen (is_at (cell_cmp c) e.0) e.1 (lookup (is_at (cell_cmp c)) es)

-- ---- one change

updated_choice : (b : Bool) (w o : Option (Option CellValue)) → option_map change (cond b w o) ≡ (if b then option_map change w else option_map change o)
updated_choice true w o = refl
updated_choice false w o = refl

-- the layer with another change at one cell, or with none there
pub updated : (m n : BTreeMap Cell (Option CellValue)) (c : Cell) (w : Option (Option CellValue))
    → ((d : Cell) → get cell_cmp n d ≡ cond (is_at (cell_cmp c) d) w (get cell_cmp m d))
    → changes (map entry n.entries) ≡ with_change (changes (map entry m.entries)) (cell c) (option_map change w)
updated m n c w step i q = at q i
  where
    here : (d : Cell) → changes (map entry n.entries) (cell d) ≡ with_change (changes (map entry m.entries)) (cell c) (option_map change w) (cell d)
    here d =
        changes-cell d n.entries ∙ ap (option_map change) (step d) ∙ updated_choice (is_at (cell_cmp c) d) w (get cell_cmp m d)
        ∙ ap (λ b. if b then option_map change w else option_map change (get cell_cmp m d)) (same_at c d)
        ∙ ap (λ o. if same_cell (cell c) (cell d) then option_map change w else o) (sym (changes-cell d m.entries))

    at : (q : C.Cell) → changes (map entry n.entries) q ≡ with_change (changes (map entry m.entries)) (cell c) (option_map change w) q
    at (C.object_cell class key) = here (Object class key)
    at (C.rule_cell k) = here (Rule k)
    at (C.detector_cell k) = here (Detector k)

-- ---- each cell once

absent_above : (c : Cell) (es : Kept) → AllByRecursion (λ d. cell_cmp c d ≡ Less) (keys_of es) → lookup (is_at (cell_cmp c)) es ≡ None
absent_above c [] above = refl
absent_above c (e ∷ es) above = ap (λ r. cond (is_eq r) (Some e.1) (lookup (is_at (cell_cmp c)) es)) above.0 ∙ absent_above c es above.1

pub each_once : (es : Kept) → IsStrictlySortedBy cell_cmp (keys_of es) → IsEachOnce (map entry es)
unfolding IsStrictlySortedBy
each_once [] rise = tt
each_once (e ∷ es) rise = (changes-cell e.0 es ∙ ap (option_map change) (absent_above e.0 es rise.0), each_once es rise.1)

-- ---- keys of 64 bits

pub fits : (key : ℤ) → FitsSigned w64 key → IsTrue (fits_64 key)
fits (pos n) here = lt-ltb n (2 ^ 63) here.sfits
fits (negsuc n) here = lt-ltb n (2 ^ 63) here.sfits

fit_signed : (key : ℤ) → IsTrue (fits_64 key) → FitsSigned w64 key
fit_signed (pos n) fit = record { sfits = ltb-true n (2 ^ 63) fit }
fit_signed (negsuc n) fit = record { sfits = ltb-true n (2 ^ 63) fit }

-- the first entry's key, and the others
pub fit_key : (it t : Kept) (e : Cell × Option CellValue) (class : ℕ) (key : ℤ) → KeysFit (map entry it) → it ≡ e ∷ t → e.0 ≡ Object class key → to_z w64 (of_z w64 key) ≡ key
fit_key it t e class key fit steps is =
    to_z-of_z w64 key (fit_signed key (subst (λ d. IsTrue (cell_fits (cell d))) is (subst (λ l. KeysFit (map entry l)) steps fit).0))

pub fit_rest : (it t : Kept) (e : Cell × Option CellValue) → KeysFit (map entry it) → it ≡ e ∷ t → KeysFit (map entry t)
fit_rest it t e fit steps = (subst (λ l. KeysFit (map entry l)) steps fit).1

fit_choice : (b : Bool) (e : C.Cell × Option C.CellValue) (es : Entries) → IsTrue (cell_fits e.0) → KeysFit es → KeysFit (cond b (e ∷ es) es)
fit_choice true e es here rest = (here, rest)
fit_choice false e es here rest = rest

pub fit-class : (class : ℕ) (es : Entries) → KeysFit es → KeysFit (class_entries class es)
fit-class class [] fit = tt
fit-class class (e ∷ es) fit = fit_choice (is_of_class class e.0) e (class_entries class es) fit.0 (fit-class class es fit.1)

insert_here : (c : Cell) (x : Option CellValue) (e : Cell × Option CellValue) (es later : Kept) (r : Ordering)
    → IsTrue (cell_fits (cell c)) → KeysFit (map entry (e ∷ es)) → KeysFit (map entry later) → KeysFit (map entry (match_ordering r ((c, x) ∷ e ∷ es) ((e.0, x) ∷ es) (e ∷ later)))
insert_here c x e es later Less here fit rest = (here, fit)
insert_here c x e es later Equal here fit rest = (fit.0, fit.1)
insert_here c x e es later Greater here fit rest = (fit.0, rest)

pub fit-insert : (c : Cell) (x : Option CellValue) (es : Kept) → IsTrue (cell_fits (cell c)) → KeysFit (map entry es) → KeysFit (map entry (insert_entry cell_cmp es c x))
fit-insert c x [] here fit = (here, tt)
fit-insert c x (e ∷ es) here fit = insert_here c x e es (insert_entry cell_cmp es c x) (cell_cmp c e.0) here fit (fit-insert c x es here fit.1)

remove_here : (b : Bool) (e : Cell × Option CellValue) (es later : Kept) → KeysFit (map entry (e ∷ es)) → KeysFit (map entry later) → KeysFit (map entry (cond b es (e ∷ later)))
remove_here true e es later fit rest = fit.1
remove_here false e es later fit rest = (fit.0, rest)

pub fit-remove : (test : Cell → Bool) (es : Kept) → KeysFit (map entry es) → KeysFit (map entry (remove_entry test es))
fit-remove test [] fit = tt
fit-remove test (e ∷ es) fit = remove_here (test e.0) e es (remove_entry test es) fit (fit-remove test es fit.1)

-- ---- what a call found

found_change : (r : Option (Bor (Option CellValue))) → option_map (λ x. change x.now) r ≡ option_map change (option_copied r)
found_change None = refl
found_change (Some x) = refl

pub read_change : (c : Cell) (m : BTreeMap Cell (Option CellValue)) (now : Entries) (r : Option (Bor (Option CellValue))) → map entry m.entries ≡ now
    → option_copied r ≡ get cell_cmp m c → option_map (λ x. change x.now) r ≡ changes now (cell c)
read_change c m now r is found = found_change r ∙ ap (option_map change) found ∙ sym (changes-cell c m.entries) ∙ ap (λ es. changes es (cell c)) is

-- the change that a cell had
pub old_change : (c : Cell) (m : BTreeMap Cell (Option CellValue)) (now : Entries) (r : Option (Option CellValue)) → map entry m.entries ≡ now
    → r ≡ get cell_cmp m c → option_map change r ≡ changes now (cell c)
old_change c m now r is found = ap (option_map change) found ∙ sym (changes-cell c m.entries) ∙ ap (λ es. changes es (cell c)) is

-- the layer with another change
pub new_change : (m n : BTreeMap Cell (Option CellValue)) (c : Cell) (w : Option (Option CellValue)) (now : Entries) → map entry m.entries ≡ now
    → ((d : Cell) → get cell_cmp n d ≡ cond (is_at (cell_cmp c) d) w (get cell_cmp m d)) → changes (map entry n.entries) ≡ with_change (changes now) (cell c) (option_map change w)
new_change m n c w now is step = updated m n c w step ∙ ap (λ es. with_change (changes es) (cell c) (option_map change w)) is

-- a cell that the map lacks is not named
pub unnamed : (c : Cell) (m : BTreeMap Cell (Option CellValue)) (now : Entries) → map entry m.entries ≡ now → get cell_cmp m c ≡ None → IsSome (changes now (cell c)) → ⊥
unnamed c m now is gone named = cc (subst IsSome (sym (old_change c m now None is (sym gone))) named)
