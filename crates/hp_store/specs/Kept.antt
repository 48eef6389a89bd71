-- Lists of classes' objects that are true of cells.
use Rattle.std.specs.Prelude.{◌≡◌, ℕ, ℤ, true, ⊤, List, [], ◌∷◌, ◌++◌, All, Option, Some, None}
use Rattle.std.specs.Ordering.{int_eq}
use Rattle.std.specs.List.{list_any}
use Rattle.hp_model.specs.Values.{KeyedRow}
use Rattle.hp_model.specs.Cells.{Cells, CellValue, object_cell, row_value, AreObjects}
use Rattle.hp_store.specs.declared.kept.KeptList.{KeptList}

-- a cell holds no row
abbrev pub HoldsNoRow : Option CellValue → Type 0
HoldsNoRow (Some (row_value row)) = ⊥
HoldsNoRow v = ⊤

-- it holds something else
abbrev pub HoldsOther : Option CellValue → Type 0
HoldsOther (Some (row_value row)) = ⊥
HoldsOther None = ⊥
HoldsOther v = ⊤

-- the cell of one of some objects holds no row
abbrev pub OneLacks : Cells → ℕ → List ℤ → Type 0
OneLacks base class keys = (key : ℤ) × (list_any (int_eq key) keys ≡ true) × HoldsNoRow (base (object_cell class key))

-- each of them has the objects of its class
abbrev pub AreKept : Cells → List KeptList → Type 0
AreKept base lists = All (λ (k : KeptList). AreObjects base k.class k.objects.value) lists

-- some objects, and then the one that a change of its cell makes; a change to something else than a row makes none
abbrev pub MakesObjects : List KeyedRow → ℤ → Option CellValue → List KeyedRow → Type 0
MakesObjects objects key None made = made ≡ objects
MakesObjects objects key (Some (row_value row)) made = made ≡ objects ++ record { key = key; row = row } ∷ []
MakesObjects objects key (Some v) made = ⊥
