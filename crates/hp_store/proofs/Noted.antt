-- Indexes of a layer's objects.
use Rattle.std.proofs.Common.{◌≡◌, refl, ap, sym, ◌∙◌, subst, ℤ, Bool, true, false, List, [], ◌∷◌, ◌++◌, append_assoc, map, Option, Some, None}
use Rattle.std.specs.Prelude.{option_map, if◌then◌else◌}
use Rattle.std.proofs.lemmas.List.{append-nil}
use Rattle.hp_model.specs.Cells as C
use Rattle.hp_model.specs.Cells.{Cell, object_cell, Cells, Changes, changed, over, same_cell, with_change}
use Rattle.hp_model.proofs.BridgesCells.{exact_cell}
use Rattle.hp_value.specs.declared.cell.Cell as V
use Rattle.hp_value.specs.Mapped.{cell}
use Rattle.hp_store.specs.declared.index.Index.{Index}
use Rattle.hp_store.specs.declared.value.CellValue.{CellValue}
use Rattle.hp_store.specs.Changes.{changes}
use Rattle.hp_store.specs.Indexed.{IsIn, IsComplete, AreComplete, with_value}
use Rattle.hp_store.specs.Mapped.{cell_value, change, entry}
use Rattle.hp_store.specs.Parts.{no_cells}
use Rattle.hp_store.proofs.Entered.{Kept}

-- ---- one change

-- the value in a changed cell, in the cells that a layer makes
pub complete_change : (f g : Changes) (q : Cell) (v : Option (Option C.CellValue)) (indexes : List Index) → g ≡ with_change f q v
    → AreComplete (with_value (over no_cells f) q (over no_cells g q)) indexes → AreComplete (over no_cells g) indexes
complete_change f g q v indexes is all = subst (λ cs. AreComplete cs indexes) (λ i r. at r i) all
  where
    choice : (r : Cell) (b : Bool) → same_cell q r ≡ b → (if b then over no_cells g q else over no_cells f r) ≡ over no_cells g r
    choice r true same = ap (over no_cells g) (exact_cell q r same)
    choice r false same = ap (changed None) (sym (ap (λ h. h r) is ∙ ap (λ b. if b then v else f r) same))

    at : (r : Cell) → with_value (over no_cells f) q (over no_cells g q) r ≡ over no_cells g r
    at r = choice r (same_cell q r) refl

-- ---- the changes of a layer, one after the other

-- the layer is what has been taken in, and what is left
pub record Notes (index : Index) (es left : Kept) : Type 0 where
  pub done : Kept
  pub are : es ≡ done ++ left
  pub entered : (key : ℤ) → IsIn index key (over no_cells (changes (map entry done)) (object_cell index.class key))

pub notes_none : (index : Index) (es left : Kept) → left ≡ es → Notes index es left
notes_none index es left is = record { done = []; are = sym is; entered = λ key. tt }

pub notes_more : (index new : Index) (es left rest : Kept) (e : (V.Cell × Option CellValue)) → left ≡ e ∷ rest → new.class ≡ index.class
    → ((key : ℤ) (w : Option C.CellValue) → IsIn index key w → IsIn new key w)
    → ((key : ℤ) → cell e.0 ≡ object_cell index.class key → IsIn new key (option_map cell_value e.1)) → Notes index es left → Notes new es rest
notes_more index new es left rest e step same kept entered have = record {
  done = have.done ++ e ∷ [];
  are = have.are ∙ ap (λ l. have.done ++ l) step ∙ sym (append_assoc have.done (e ∷ []) rest);
  entered = λ key. subst (λ c. IsIn new key (over no_cells (changes (map entry (have.done ++ e ∷ []))) (object_cell c key))) (sym same)
      (by key have.done (kept key (over no_cells (changes (map entry have.done)) (object_cell index.class key)) (have.entered key)));
}
  where
    last : (key : ℤ) (b : Bool) → same_cell (cell e.0) (object_cell index.class key) ≡ b → IsIn new key (changed None (if b then Some (change e.1) else None))
    last key true is = entered key (exact_cell (cell e.0) (object_cell index.class key) is)
    last key false is = tt

    choice : (key : ℤ) (d : (V.Cell × Option CellValue)) (done : Kept)
        → (IsIn new key (over no_cells (changes (map entry done)) (object_cell index.class key)) → IsIn new key (over no_cells (changes (map entry (done ++ e ∷ []))) (object_cell index.class key)))
        → (b : Bool) → IsIn new key (changed None (if b then Some (change d.1) else changes (map entry done) (object_cell index.class key)))
        → IsIn new key (changed None (if b then Some (change d.1) else changes (map entry (done ++ e ∷ [])) (object_cell index.class key)))
    choice key d done rest true was = was
    choice key d done rest false was = rest was

    by : (key : ℤ) (done : Kept) → IsIn new key (over no_cells (changes (map entry done)) (object_cell index.class key))
        → IsIn new key (over no_cells (changes (map entry (done ++ e ∷ []))) (object_cell index.class key))
    by key [] was = last key (same_cell (cell e.0) (object_cell index.class key)) refl
    by key (d ∷ done) was = choice key d done (by key done) (same_cell (cell d.0) (object_cell index.class key)) was

pub notes_each : (index : Index) (es left : Kept) → left ≡ [] → Notes index es left → IsComplete (over no_cells (changes (map entry es))) index
notes_each index es left none have key =
    subst (λ l. IsIn index key (over no_cells (changes (map entry l)) (object_cell index.class key))) (sym (have.are ∙ ap (λ l. have.done ++ l) none ∙ append-nil have.done)) (have.entered key)
