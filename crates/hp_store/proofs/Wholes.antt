-- Classes that are listed as a whole.
use Rattle.std.proofs.Common.{◌≡◌, sym, ap, ◌∙◌, subst, ℕ, ℤ, pos, ◌+◌, ◌<◌, List, [], ◌∷◌, ◌++◌, append_assoc, length, drop, get_or, slice_index_or, Option, Some, None, is_some}
use Rattle.std.specs.Prelude.{All, IfSome}
use Rattle.std.proofs.lemmas.List.{drop_more, map-append}
use Rattle.std.proofs.lemmas.List.Elements.{All-push}
use Rattle.hp_model.specs.Values.{Row, KeyedRow}
use Rattle.hp_model.specs.Cells.{CellValue, row_value, Cells, Changes, object_cell, changed, over, AreObjects}
use Rattle.hp_value.specs.Mapped.{keys_of}

pub unchanged : (o : Option CellValue) (change : Option (Option CellValue)) → change ≡ None → changed o change ≡ o
unchanged o change none = ap (changed o) none

-- a layer that names no object of the class leaves them
pub whole_under : (base : Cells) (layer : Changes) (class : ℕ) (objects : List KeyedRow) → ((key : ℤ) → layer (object_cell class key) ≡ None)
    → AreObjects base class objects → AreObjects (over base layer) class objects
whole_under base layer class objects none are = record {
  keys = record { rise = are.keys.rise; has = λ key. are.keys.has key ∙ sym (ap is_some (unchanged (base (object_cell class key)) (layer (object_cell class key)) (none key))) };
  rows = λ i d below.
      let o : KeyedRow = slice_index_or objects i d in
      unchanged (base (object_cell class o.key)) (layer (object_cell class o.key)) (none o.key) ∙ are.rows i d below;
}

-- ---- listed one by one

-- a cell holds this row
abbrev pub HasRow : Cells → ℕ → KeyedRow → Type 0
HasRow base class o = base (object_cell class o.key) ≡ Some (row_value o.row)

-- the objects of the first of these keys, up to a place
pub record Listed (base : Cells) (class : ℕ) (keys : List ℤ) (place : ℕ) (objects : List KeyedRow) : Type 0 where
  pub so_far : keys_of objects ++ drop place keys ≡ keys
  pub rows : All (HasRow base class) objects

pub listed_more : (base : Cells) (class : ℕ) (keys : List ℤ) (place : ℕ) (objects new : List KeyedRow) (key : ℤ) (row : Row) → place < length keys → key ≡ get_or keys place (pos 0)
    → keys_of objects ++ drop place keys ≡ keys → All (HasRow base class) objects → base (object_cell class key) ≡ Some (row_value row)
    → new ≡ objects ++ record { key = key; row = row } ∷ [] → Listed base class keys (place + 1) new
listed_more base class keys place objects new key row within is same rows here pushed = subst (Listed base class keys (place + 1)) (sym pushed) (record {
  so_far =
      ap (λ ks. ks ++ drop (place + 1) keys) (map-append (λ (o : KeyedRow). o.key) objects (record { key = key; row = row } ∷ []))
      ∙ append_assoc (keys_of objects) (key ∷ []) (drop (place + 1) keys)
      ∙ ap (λ ks. keys_of objects ++ ks) (ap (λ k. k ∷ drop (place + 1) keys) is ∙ sym (drop_more keys place (pos 0) within))
      ∙ same;
  rows = All-push (HasRow base class) objects (record { key = key; row = row }) rows here;
})

-- what is told of an option, where there is something
pub told_some : {A : Type 0} (P : A → Type 0) {o : Option A} {a : A} → o ≡ Some a → IfSome o P → P a
told_some P is told = subst (λ x. IfSome x P) is told
