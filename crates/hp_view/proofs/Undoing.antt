-- Writes that are taken back.
use Rattle.std.proofs.Common.{◌≡◌, refl, sym, ap, ◌∙◌, subst, ℕ, ◌+◌, ◌≤◌, ◌<◌, List, [], ◌∷◌, ◌++◌, append-nil, append_assoc, length, length-append, drop, take, map, Option, Some, IsSome, arith}
use Rattle.std.proofs.lemmas.List.{take-append-le, drop-append-le, length-take-le, take-append-drop, length-map, map-append}
use Rattle.std.proofs.Math.Seq.{drop-length}
use Rattle.hp_model.specs.Cells.{Cell, CellValue, Changes, over, with_change}
use Rattle.hp_model.proofs.BridgesCells.{with_change-here, with_change-back}
use Rattle.hp_store.specs.Changes.{Entries, changes}
use Rattle.hp_store.specs.Stack.{cells_in}
use Rattle.hp_view.specs.Seeing.{Undo, Seeing, written, undone, rewound, AreCovered, CanGoBack, Writes, GoesBack, GoesOn, Restores}

pub undone-push : (us : Undo) (u : Cell × Option (Option CellValue)) (w : Changes) → undone (us ++ u ∷ []) w ≡ undone us (with_change w u.0 u.1)
undone-push [] u w = refl
undone-push (v ∷ us) u w = ap (λ c. with_change c v.0 v.1) (undone-push us u w)

AreCovered-push : (us : Undo) (u : Cell × Option (Option CellValue)) (w : Changes) → AreCovered us (with_change w u.0 u.1) → IsSome (w u.0) → AreCovered (us ++ u ∷ []) w
AreCovered-push [] u w rest here = (here, tt)
AreCovered-push (v ∷ us) u w rest here =
    (subst (λ c. IsSome (c v.0)) (sym (undone-push us u w)) rest.0, AreCovered-push us u w rest.1 here)

AreCovered-pop : (us : Undo) (u : Cell × Option (Option CellValue)) (w : Changes) → AreCovered (us ++ u ∷ []) w → AreCovered us (with_change w u.0 u.1) × IsSome (w u.0)
AreCovered-pop [] u w h = (tt, h.0)
AreCovered-pop (v ∷ us) u w h =
    let rest = AreCovered-pop us u w h.1 in
    ((subst (λ c. IsSome (c v.0)) (undone-push us u w) h.0, rest.0), rest.1)

-- ---- a write

pub AreCovered-write : (us : Undo) (w to : Changes) (cell : Cell) (x : Option CellValue) → to ≡ with_change w cell (Some x) → AreCovered us w → AreCovered (us ++ (cell, w cell) ∷ []) to
AreCovered-write us w to cell x is h =
    subst (AreCovered (us ++ (cell, w cell) ∷ [])) (sym is)
    (AreCovered-push us (cell, w cell) (with_change w cell (Some x))
    (subst (AreCovered us) (sym (with_change-back w cell (Some x))) h)
    (subst IsSome (sym (with_change-here w cell (Some x))) refl))

-- what was undone before a write is undone after it
rewound-write : (old new : Seeing) (cell : Cell) (x : Option CellValue) → Writes old new cell x → (n : ℕ) → n ≤ length old.undo → rewound new n ≡ rewound old n
rewound-write old new cell x writes n within =
    (λ i. undone (drop n (writes.undo i)) (writes.changes i))
    ∙ ap (λ us. undone us (with_change (written old) cell (Some x))) (drop-append-le n old.undo ((cell, written old cell) ∷ []) within)
    ∙ undone-push (drop n old.undo) (cell, written old cell) (with_change (written old) cell (Some x))
    ∙ ap (undone (drop n old.undo)) (with_change-back (written old) cell (Some x))

pub GoesOn-write : (old new : Seeing) (cell : Cell) (x : Option CellValue) → Writes old new cell x → GoesOn old new
GoesOn-write old new cell x writes = record {
  base = writes.base;
  reads = ([], writes.reads ∙ sym (append-nil old.reads));
  undo = omega (arith, ap length writes.undo, length-append old.undo ((cell, written old cell) ∷ []));
  before = rewound-write old new cell x writes;
}

pub GoesOn-from : {v old new : Seeing} → v ≡ old → GoesOn v new → GoesOn old new
GoesOn-from {v} {old} {new} e on = subst (λ u. GoesOn u new) e on

-- ---- many writes

undone-append : (xs ys : Undo) (w : Changes) → undone (xs ++ ys) w ≡ undone xs (undone ys w)
undone-append [] ys w = refl
undone-append (u ∷ xs) ys w = ap (λ c. with_change c u.0 u.1) (undone-append xs ys w)

-- one write more
pub back_more : {before after : Undo} {earlier later : Changes} (us : Undo) (w : Changes) (cell : Cell) (x : Option CellValue)
    → CanGoBack before earlier after later → w ≡ with_change later cell (Some x) → us ≡ after ++ (cell, later cell) ∷ [] → CanGoBack before earlier us w
back_more {before} {after} {earlier} {later} us w cell x back is grown =
    let u : Cell × Option (Option CellValue) = (cell, later cell) in
    let more = back.writes.0 in
    record {
      covered = subst (λ l. AreCovered l w) (sym grown) (AreCovered-write after later w cell x is back.covered);
      writes = (
        more ++ u ∷ [],
        grown ∙ ap (λ l. l ++ u ∷ []) back.writes.1 ∙ append_assoc before more (u ∷ []),
        undone-push more u w ∙ ap (λ c. undone more (with_change c cell (later cell))) is ∙ ap (undone more) (with_change-back later cell (Some x)) ∙ back.writes.2,
      );
    }

pub GoesOn-in : {v old : Seeing} (writes : Entries) (undo : Undo) → v ≡ old → CanGoBack v.undo (written v) undo (changes writes) → GoesOn old (record v { writes = writes; undo = undo })
GoesOn-in {v} {old} writes undo from back =
    let more : Undo = back.writes.0 in
    GoesOn-from from (record {
      base = refl;
      reads = ([], sym (append-nil v.reads));
      undo = omega (arith, ap length back.writes.1, length-append v.undo more);
      before = λ n within.
          ap (λ us. undone (drop n us) (changes writes)) back.writes.1
          ∙ ap (λ us. undone us (changes writes)) (drop-append-le n v.undo more within)
          ∙ undone-append (drop n v.undo) more (changes writes)
          ∙ ap (undone (drop n v.undo)) back.writes.2;
    })

-- ---- one write less to take back

covered_last : (vs us : Undo) (u : Cell × Option (Option CellValue)) (w : Changes) → vs ≡ us ++ u ∷ [] → AreCovered vs w → IsSome (w u.0)
covered_last vs us u w is covered = (AreCovered-pop us u w (subst (λ l. AreCovered l w) is covered)).1

pub record Unwound (at : ℕ) (us : Undo) (w : Changes) (kept : Undo) (to : Changes) : Type 0 where
  pub within : at ≤ length us
  pub covered : AreCovered us w
  pub changes : undone (drop at us) w ≡ to
  pub undo : take at us ≡ kept

unwind_step : (at : ℕ) (vs us : Undo) (u : Cell × Option (Option CellValue)) (w v : Changes) (kept : Undo) (to : Changes)
    → vs ≡ us ++ u ∷ [] → at < length vs → AreCovered vs w → undone (drop at vs) w ≡ to → take at vs ≡ kept → v ≡ with_change w u.0 u.1
    → Unwound at us v kept to
unwind_step at vs us u w v kept to is below covered changes undo back =
    let long : length vs ≡ length us + 1 = ap length is ∙ length-append us (u ∷ []) in
    let within : at ≤ length us = omega arith in
    record {
      within = within;
      covered = subst (AreCovered us) (sym back) (AreCovered-pop us u w (subst (λ l. AreCovered l w) is covered)).0;
      changes = ap (undone (drop at us)) back ∙ sym (undone-push (drop at us) u w) ∙ ap (λ l. undone l w) (sym (drop-append-le at us (u ∷ []) within) ∙ ap (drop at) (sym is)) ∙ changes;
      undo = sym (take-append-le at us (u ∷ []) within) ∙ ap (take at) (sym is) ∙ undo;
    }

-- the same of a list that stands for what was replaced
module _ {A : Type 0} (f : A → Cell × Option (Option CellValue)) where
  mapped : (vs us : List A) (u : A) → vs ≡ us ++ u ∷ [] → map f vs ≡ map f us ++ f u ∷ []
  mapped vs us u is = ap (map f) is ∙ map-append f us (u ∷ [])

  pub covered_item : (vs us : List A) (u : A) (w : Changes) → vs ≡ us ++ u ∷ [] → AreCovered (map f vs) w → IsSome (w (f u).0)
  covered_item vs us u w is covered = covered_last (map f vs) (map f us) (f u) w (mapped vs us u is) covered

  pub unwind_item : (at : ℕ) (vs us : List A) (u : A) (w v : Changes) (kept : Undo) (to : Changes)
      → vs ≡ us ++ u ∷ [] → at < length vs → AreCovered (map f vs) w → undone (drop at (map f vs)) w ≡ to → take at (map f vs) ≡ kept → v ≡ with_change w (f u).0 (f u).1
      → Unwound at (map f us) v kept to
  unwind_item at vs us u w v kept to is below covered changes undo back =
      let long : length (map f vs) ≡ length vs = length-map vs f in
      unwind_step at (map f vs) (map f us) (f u) w v kept to (mapped vs us u is) (omega arith) covered changes undo back

-- ---- views that go back

-- a view that went on, and back again to where it was
went_back : (first went back : Seeing) → GoesOn first went → GoesBack went back (length first.undo) → (written back ≡ written first) × GoesOn first back
went_back first went back on to =
    let m : ℕ = length first.undo in
    let kept : length (take m went.undo) ≡ m = length-take-le m went.undo on.undo in
    let here : m ≤ m = omega arith in
    let same : written back ≡ written first = to.changes ∙ on.before m here ∙ ap (λ us. undone us (written first)) (drop-length first.undo) in (
      same,
      record {
        base = to.base ∙ on.base;
        reads = (on.reads.0, to.reads ∙ on.reads.1);
        undo = omega (arith, ap length to.undo, kept);
        before = λ n within.
            let fits : n ≤ length (take m went.undo) = omega (arith, kept) in
            (λ i. undone (drop n (to.undo i)) (to.changes i))
            ∙ sym (undone-append (drop n (take m went.undo)) (drop m went.undo) (written went))
            ∙ ap (λ us. undone us (written went)) (sym (drop-append-le n (take m went.undo) (drop m went.undo) fits) ∙ ap (drop n) (take-append-drop m went.undo))
            ∙ on.before n within;
      },
    )

pub restored : {v old new : Seeing} {n : ℕ} → v ≡ old → GoesBack v new n → (entered : Seeing) → GoesOn entered old → length entered.undo ≡ n → Restores entered new
restored {v} {old} {new} {n} from to entered on at =
    let both = went_back entered v new (subst (GoesOn entered) (sym from) on) (subst (GoesBack v new) (sym at) to) in
    record {
      cells = (λ i. over (cells_in (both.1.base i)) (both.0 i));
      goes_on = both.1;
    }
