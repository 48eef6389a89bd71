-- Relates what a view shows to what a step finds.
use Rattle.std.proofs.Common.{arith, ◌≡◌, ◌+◌, ◌<◌, refl, ap, sym, ◌∙◌, subst, length, get_or, drop, drop-cons, ℕ, ℤ, zero, suc, List, [], ◌∷◌, Option, None}
use Rattle.std.specs.Prelude.{slice_get}
use Rattle.std.specs.List.{slice_index_or}
use Rattle.hp_model.specs.Rules.{Library}
use Rattle.hp_model.specs.Values.{Row}
use Rattle.hp_model.specs.State.{Objects, Status, find_object, rule_state}
use Rattle.hp_model.specs.Cells.{Cell, CellValue, object_cell, rule_cell, Cells, over, Holds}
use Rattle.hp_model.specs.Answers.{Finds}
use Rattle.hp_model.proofs.BridgesKeys.{ObjectsRise}
use Rattle.hp_model.proofs.BridgesReads.{row_at, status_at}
use Rattle.hp_model.proofs.FaithfulOperations.{finds_object, finds_status}
use Rattle.hp_store.specs.Changes.{changes}
use Rattle.hp_store.specs.Stack.{cells_in}
use Rattle.hp_view.specs.Seeing.{Seeing, written, now_in, OnlyReads, Shows}
use Rattle.hp_view.specs.Looks.{Allows}

-- what holds in each world that a view allows
pub finds_world : {A : Type 0} (library : Library) (of : Objects → A) (v : Seeing) (found : A) → ((world : Objects) → ObjectsRise world → Allows v world → of world ≡ found)
    → Finds library (λ S. of S.objects) v.reads (written v) found
finds_world library of v found shown = record {
  from = λ base held S ordered is.
      shown S.objects ordered.objects_rise (record { base = base; held = held; objects = λ class key. ap (λ c. c (object_cell class key)) (sym is) });
}

pub index_none : {X : Type 0} (xs : List X) (n : ℕ) (d : X) → slice_get xs n ≡ None → slice_index_or xs n d ≡ d
index_none [] n d is = refl
index_none (y ∷ ys) zero d is = cc
index_none (y ∷ ys) (suc n) d is = index_none ys n d is

-- a cell that was read is shown with its current value
pub shown_now : {v w : Seeing} {cell : Cell} → OnlyReads v w → Shows w cell (now_in v cell) → (base : Cells) → Holds base w.reads → over base (written w) cell ≡ now_in w cell
shown_now {v} {w} {cell} on shows base held = shows.everywhere base held ∙ (λ i. over (cells_in (sym on.base i)) (changes (sym on.writes i)) cell)

-- reads change no cell
pub still_now : {v w : Seeing} (cell : Cell) → OnlyReads v w → now_in v cell ≡ now_in w cell
still_now cell on = λ i. over (cells_in (sym on.base i)) (changes (sym on.writes i)) cell

-- what is found of an object
pub object_found : (library : Library) (class : ℕ) (key : ℤ) (v w : Seeing) (value : Option CellValue) (row : Option Row) → OnlyReads v w
    → Shows w (object_cell class key) (now_in v (object_cell class key))
    → value ≡ now_in w (object_cell class key) → row ≡ row_at value → Finds library (λ S. find_object S.objects class key) w.reads (written w) row
object_found library class key v w value row on shows is found =
    subst (λ r. Finds library (λ S. find_object S.objects class key) w.reads (written w) r) (sym (found ∙ ap row_at is))
    (finds_object library class key (shown_now on shows))

-- the same of a rule's status
pub status_found : (library : Library) (n : ℕ) (v w : Seeing) (value : Option CellValue) (s : Status) → OnlyReads v w → Shows w (rule_cell n) (now_in v (rule_cell n))
    → value ≡ now_in w (rule_cell n) → s ≡ status_at value
    → Finds library (λ S. (rule_state S n).status) w.reads (written w) s
status_found library n v w value s on shows is status =
    subst (λ t. Finds library (λ S. (rule_state S n).status) w.reads (written w) t) (sym (status ∙ ap status_at is))
    (finds_status library n (shown_now on shows))

pub status_shown : (n : ℕ) (v w : Seeing) (value : Option CellValue) (s : Status) → OnlyReads v w → Shows w (rule_cell n) (now_in v (rule_cell n))
    → value ≡ now_in w (rule_cell n) → s ≡ status_at value
    → (base : Cells) → Holds base w.reads → status_at (over base (written w) (rule_cell n)) ≡ s
status_shown n v w value s on shows is status base held = ap status_at (shown_now on shows base held ∙ sym is) ∙ sym status

pub split_at : {X : Type 0} (xs : List X) (i : ℕ) (x : X) → i < length xs → x ≡ get_or xs i x → drop i xs ≡ x ∷ drop (i + 1) xs
split_at xs i x low is =
    let e : suc i ≡ i + 1 = omega arith in
    drop-cons xs i x low ∙ ap (λ y. y ∷ drop (suc i) xs) (sym is) ∙ ap (λ n. x ∷ drop n xs) e
