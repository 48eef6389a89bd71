-- Indexes of fields.
use Rattle.std.specs.Prelude.{◌≡◌, ℤ, true, false, Bool, ⊤, List, All, Option, Some, MatchOption, IsTrue, string_bytes, if◌then◌else◌}
use Rattle.std.specs.BTreeMap.Range.{range_contains}
use Rattle.std.specs.BTreeSet.{BTreeSet, contains}
use Rattle.hp_model.specs.Values.{fits_64}
use Rattle.hp_model.specs.Cells.{Cell, Cells, CellValue, object_cell, same_cell}
use Rattle.hp_store.specs.declared.place.Place.{Place}
use Rattle.hp_store.specs.declared.index.Index.{Index}
use Rattle.hp_store.specs.Parts.{bound_of}
use Rattle.hp_store.specs.Places.{place_cmp, key_at, place_at}

abbrev pub is_between : (low high : Option Place) → Place → Bool
is_between low high p = range_contains place_cmp (bound_of low) (bound_of high) p

-- a place is in an index
abbrev pub Stands : BTreeSet Place → Place → Type 0
Stands places p = (contains place_cmp places p ≡ true) × IsTrue (fits_64 (key_at p))

-- what an object's cell holds has its place in an index, if it is a row
abbrev pub IsIn : Index → ℤ → Option CellValue → Type 0
IsIn index key v = MatchOption (place_at (string_bytes index.field) key v) ⊤ (Stands index.places)

-- an old place isn't in an index, unless it is the new one, too
abbrev pub HasLeft : BTreeSet Place → (old new : Option Place) → Type 0
HasLeft places old new = (p : Place) → old ≡ Some p → (new ≡ Some p → ⊥) → contains place_cmp places p ≡ false

-- so it is with each object of the class
abbrev pub IsComplete : Cells → Index → Type 0
IsComplete cells index = (key : ℤ) → IsIn index key (cells (object_cell index.class key))

abbrev pub AreComplete : Cells → List Index → Type 0
AreComplete cells indexes = All (IsComplete cells) indexes

-- the cells with another value at one of them
abbrev pub with_value : Cells → Cell → Option CellValue → Cells
with_value cells cell v q = if same_cell cell q then v else cells q
