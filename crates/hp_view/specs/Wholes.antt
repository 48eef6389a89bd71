-- Lists of a class's objects: where there is none, and a test whether a cell holds a row.
use Rattle.std.specs.Prelude.{◌≡◌, ◌⊎◌, ℕ, ℤ, Bool, true, false, List, Option, Some, None}
use Rattle.hp_model.specs.Values.{Row, KeyedRow}
use Rattle.hp_model.specs.Cells.{CellValue, row_value, status_value, knowledge_value, Read, objects_read, object_cell, over}
use Rattle.hp_value.specs.Same.{row_same}
use Rattle.hp_store.specs.Kept.{HoldsOther}
use Rattle.hp_store.specs.Parts.{no_cells}
use Rattle.hp_view.specs.Seeing.{Seeing, beneath, written, class_was_read, keys_were_read, noted}

-- the keys of a class were read, and not the class as a whole
pub record KeysAlone (reads : List Read) (class : ℕ) : Type 0 where
  pub keys : keys_were_read reads class ≡ true
  pub alone : class_was_read reads class ≡ false

-- so it is, or an object's cell beneath holds something else than a row
pub record LacksList (v : Seeing) (class : ℕ) : Type 0 where
  pub why : KeysAlone v.reads class ⊎ ((key : ℤ) × HoldsOther (beneath v (object_cell class key)))

-- or a write gives it that
pub record HasNoList (v : Seeing) (class : ℕ) : Type 0 where
  pub why : LacksList v class ⊎ ((key : ℤ) × HoldsOther (over no_cells (written v) (object_cell class key)))

-- only the class is read, as a whole
pub record ReadsWhole (old new : Seeing) (class : ℕ) : Type 0 where
  pub objects : (objects : List KeyedRow) × (new ≡ record old { reads = noted old.reads (objects_read class objects) })

abbrev pub is_row : Option CellValue → Row → Bool
is_row None row = false
is_row (Some (row_value r)) row = row_same r row
is_row (Some (status_value s)) row = false
is_row (Some (knowledge_value k)) row = false
