-- What a view is to a contract.
use Rattle.std.specs.Prelude.{◌≡◌, ℕ, ℤ, ◌≤◌, ◌==◌, length, Bool, true, false, ◌&&◌, ◌||◌, ◌⊎◌, List, [], ◌∷◌, ◌++◌, Option, Some, None, IsSome, is_some, drop, take, if◌then◌else◌}
use Rattle.std.specs.List.{list_any}
use Rattle.hp_model.specs.Values.{KeyedRow}
use Rattle.hp_model.specs.ClassParts.{ClassPart}
use Rattle.hp_model.specs.Cells.{Cell, object_cell, rule_cell, detector_cell, CellValue, Cells, Changes, over, same_cell, with_change, Read, cell_read, keys_read, greatest_read}
use Rattle.hp_model.specs.Cells.{count_read, objects_read, part_read, Holds, AreKeys, IsGreatestKey, IsCount, AreObjects, ArePart}
use Rattle.hp_model.proofs.BridgesCells.{stacked}
use Rattle.hp_store.specs.Changes.{Entries, changes}
use Rattle.hp_store.specs.Stack.{Stack, cells_in}
use Rattle.hp_view.specs.Parts.{same_part, number_of}

-- cells that were written, each with what the layer made of it before
abbrev pub Undo : Type 0
Undo = List (Cell × Option (Option CellValue))

-- a snapshot, the reads of it, the writes over it, and what each write replaced, the newest last
pub record Seeing : Type 0 where
  pub base : Stack
  pub reads : List Read
  pub writes : Entries
  pub undo : Undo

-- the cells of the snapshot
abbrev pub beneath : Seeing → Cells
beneath v = cells_in v.base

-- the layer of the view's writes
abbrev pub written : Seeing → Changes
written v = changes v.writes

-- the cells of the view
abbrev pub now_in : Seeing → Cells
now_in v = over (beneath v) (written v)

-- ---- writes that can be taken back

-- a layer before some writes, which replaced these
abbrev pub undone : Undo → Changes → Changes
undone [] layer = layer
undone (u ∷ us) layer = with_change (undone us layer) u.0 u.1

-- the layer of the view's writes when there were n of them
abbrev pub rewound : Seeing → ℕ → Changes
rewound v n = undone (drop n v.undo) (written v)

-- each write that can be taken back covers its cell, once those after it are taken back
abbrev pub AreCovered : Undo → Changes → Type 0
AreCovered [] layer = Unit {0}
AreCovered (u ∷ us) layer = IsSome (undone us layer u.0) × AreCovered us layer

-- from a later layer, with what its writes replaced, an earlier one can be gone back to
pub record CanGoBack (before : Undo) (earlier : Changes) (after : Undo) (later : Changes) : Type 0 where
  pub covered : AreCovered after later
  pub writes : (more : Undo) × (after ≡ before ++ more) × (undone more later ≡ earlier)

-- ---- reads

-- a read of this cell, one of this class's keys, alone or with the rows, one of its greatest key, one of the number of
-- its objects, and one of this part of the class
abbrev pub reads_cell : Cell → Read → Bool
reads_cell cell (cell_read q value) = same_cell cell q
reads_cell cell (keys_read class keys) = false
reads_cell cell (count_read class count) = false
reads_cell cell (greatest_read class greatest) = false
reads_cell cell (objects_read class objects) = false
reads_cell cell (part_read class part objects) = false

abbrev pub reads_keys : ℕ → Read → Bool
reads_keys class (cell_read q value) = false
reads_keys class (keys_read n keys) = class == n
reads_keys class (count_read n count) = false
reads_keys class (greatest_read n greatest) = false
reads_keys class (objects_read n objects) = class == n
reads_keys class (part_read n part objects) = false

abbrev pub reads_greatest : ℕ → Read → Bool
reads_greatest class (cell_read q value) = false
reads_greatest class (keys_read n keys) = false
reads_greatest class (count_read n count) = false
reads_greatest class (greatest_read n greatest) = class == n
reads_greatest class (objects_read n objects) = false
reads_greatest class (part_read n part objects) = false

abbrev pub reads_count : ℕ → Read → Bool
reads_count class (cell_read q value) = false
reads_count class (keys_read n keys) = false
reads_count class (greatest_read n greatest) = false
reads_count class (count_read n count) = class == n
reads_count class (objects_read n objects) = false
reads_count class (part_read n part objects) = false

abbrev pub reads_part : ℕ → ClassPart → Read → Bool
reads_part class part (cell_read q value) = false
reads_part class part (keys_read n keys) = false
reads_part class part (count_read n count) = false
reads_part class part (greatest_read n greatest) = false
reads_part class part (objects_read n objects) = false
reads_part class part (part_read n q objects) = class == n && same_part part q

-- one of a part with this number
abbrev pub reads_number : ℕ → (number : ℕ) → Read → Bool
reads_number class number (cell_read q value) = false
reads_number class number (keys_read n keys) = false
reads_number class number (count_read n count) = false
reads_number class number (greatest_read n greatest) = false
reads_number class number (objects_read n objects) = false
reads_number class number (part_read n q objects) = class == n && number == number_of q

-- whether a class was read as a whole, where its keys weren't read before
abbrev pub class_was_read : List Read → ℕ → Bool
class_was_read [] class = false
class_was_read (cell_read q value ∷ reads) class = class_was_read reads class
class_was_read (keys_read n keys ∷ reads) class = if class == n then false else class_was_read reads class
class_was_read (greatest_read n greatest ∷ reads) class = class_was_read reads class
class_was_read (count_read n count ∷ reads) class = class_was_read reads class
class_was_read (objects_read n objects ∷ reads) class = if class == n then true else class_was_read reads class
class_was_read (part_read n part objects ∷ reads) class = class_was_read reads class

-- whether a cell is an object's whose class was read as a whole
abbrev pub row_was_read : List Read → Cell → Bool
row_was_read reads (object_cell class key) = class_was_read reads class
row_was_read reads (rule_cell n) = false
row_was_read reads (detector_cell n) = false

-- whether they were read before: a cell by itself, or with its class
abbrev pub cell_was_read : List Read → Cell → Bool
cell_was_read reads cell = list_any (reads_cell cell) reads || row_was_read reads cell

abbrev pub keys_were_read : List Read → ℕ → Bool
keys_were_read reads class = list_any (reads_keys class) reads

-- a greatest key by itself, or with the class's keys
abbrev pub greatest_was_read : List Read → ℕ → Bool
greatest_was_read reads class = list_any (reads_greatest class) reads || keys_were_read reads class

-- the number of a class's objects by itself, or with the class's keys
abbrev pub count_was_read : List Read → ℕ → Bool
count_was_read reads class = list_any (reads_count class) reads || keys_were_read reads class

abbrev pub part_was_read : List Read → ℕ → ClassPart → Bool
part_was_read reads class part = list_any (reads_part class part) reads

abbrev pub number_was_read : List Read → ℕ → (number : ℕ) → Bool
number_was_read reads class number = list_any (reads_number class number) reads

abbrev pub was_read : List Read → Read → Bool
was_read reads (cell_read cell value) = cell_was_read reads cell
was_read reads (keys_read class keys) = keys_were_read reads class
was_read reads (greatest_read class greatest) = greatest_was_read reads class
was_read reads (count_read class count) = count_was_read reads class
was_read reads (objects_read class objects) = keys_were_read reads class
was_read reads (part_read class part objects) = part_was_read reads class part

-- the reads, and this one if it is the first of its kind
abbrev pub noted : List Read → Read → List Read
noted reads read = if was_read reads read then reads else reads ++ read ∷ []

-- the reads after one of a cell, which is none where the view's own writes cover the cell
abbrev pub noted_unless : Option (Option CellValue) → List Read → Read → List Read
noted_unless None reads read = noted reads read
noted_unless (Some change) reads read = reads

abbrev pub read_cell : Seeing → Cell → List Read
read_cell v cell = noted_unless (written v cell) v.reads (cell_read cell (beneath v cell))

-- ---- what a view keeps

-- its reads are what the snapshot holds, and its writes can be taken back
pub record IsKept (base : Stack) (reads : List Read) (writes : Entries) (undo : Undo) : Type 0 where
  pub held : Holds (cells_in base) reads
  pub covered : AreCovered undo (changes writes)

-- ---- what the reads show

-- in all cells where the reads hold, the view's writes over them have this value at a cell
pub record Shows (v : Seeing) (cell : Cell) (value : Option CellValue) : Type 0 where
  pub everywhere : (base : Cells) → Holds base v.reads → over base (written v) cell ≡ value

-- in all cells where the reads hold, the view's writes over them have these keys in a class
pub record ShowsKeys (v : Seeing) (class : ℕ) (keys : List ℤ) : Type 0 where
  pub everywhere : (base : Cells) → Holds base v.reads → AreKeys (over base (written v)) class keys

-- the same of its greatest key
pub record ShowsGreatest (v : Seeing) (class : ℕ) (greatest : Option ℤ) : Type 0 where
  pub everywhere : (base : Cells) → Holds base v.reads → IsGreatestKey (over base (written v)) class greatest

-- the same of the number of its objects
pub record ShowsCount (v : Seeing) (class count : ℕ) : Type 0 where
  pub everywhere : (base : Cells) → Holds base v.reads → IsCount (over base (written v)) class count

-- the same of a class's objects
pub record ShowsObjects (v : Seeing) (class : ℕ) (objects : List KeyedRow) : Type 0 where
  pub everywhere : (base : Cells) → Holds base v.reads → AreObjects (over base (written v)) class objects

-- the same of a part of a class
pub record ShowsPart (v : Seeing) (class : ℕ) (part : ClassPart) (objects : List KeyedRow) : Type 0 where
  pub everywhere : (base : Cells) → Holds base v.reads → ArePart (over base (written v)) class part objects

-- ---- what calls do

-- one cell more is written, and nothing else changes
pub record Writes (old new : Seeing) (cell : Cell) (change : Option CellValue) : Type 0 where
  pub base : new.base ≡ old.base
  pub reads : new.reads ≡ old.reads
  pub changes : written new ≡ with_change (written old) cell (Some change)
  pub undo : new.undo ≡ old.undo ++ (cell, written old cell) ∷ []

-- the writes are those from when there were n of them, and nothing else changes
pub record GoesBack (old new : Seeing) (n : ℕ) : Type 0 where
  pub base : new.base ≡ old.base
  pub reads : new.reads ≡ old.reads
  pub changes : written new ≡ rewound old n
  pub undo : new.undo ≡ take n old.undo

-- a layer is written over the writes, and nothing else changes
pub record TakesIn (old new : Seeing) (layer : Entries) : Type 0 where
  pub base : new.base ≡ old.base
  pub reads : new.reads ≡ old.reads
  pub changes : written new ≡ stacked (written old) (changes layer)

-- nothing changes of what a view shows and keeps
pub record IsSame (old new : Seeing) : Type 0 where
  pub base : new.base ≡ old.base
  pub reads : new.reads ≡ old.reads
  pub changes : written new ≡ written old
  pub undo : new.undo ≡ old.undo

-- one view goes on from another: the reads only grew, and what was written before can still be gone back to
pub record GoesOn (old new : Seeing) : Type 0 where
  pub base : new.base ≡ old.base
  pub reads : (more : List Read) × (new.reads ≡ old.reads ++ more)
  pub undo : length old.undo ≤ length new.undo
  pub before : (n : ℕ) → n ≤ length old.undo → rewound new n ≡ rewound old n

-- the cells are those of an earlier view, from which the reads only grew
pub record Restores (earlier new : Seeing) : Type 0 where
  pub cells : now_in new ≡ now_in earlier
  pub goes_on : GoesOn earlier new

-- the same where nothing is written: only the reads grew
pub record OnlyReads (old new : Seeing) : Type 0 where
  pub base : new.base ≡ old.base
  pub reads : (more : List Read) × (new.reads ≡ old.reads ++ more)
  pub writes : new.writes ≡ old.writes
  pub undo : new.undo ≡ old.undo

-- the reads grew, and what the view shows stays the same
pub record ReadsMore (old new : Seeing) : Type 0 where
  pub base : new.base ≡ old.base
  pub reads : (more : List Read) × (new.reads ≡ old.reads ++ more)
  pub changes : written new ≡ written old
  pub undo : new.undo ≡ old.undo

-- a cell is read, if memory doesn't run out
pub record ReadsCell (old new : Seeing) (cell : Cell) (done : Bool) : Type 0 where
  pub ok : done ≡ true → new ≡ record old { reads = read_cell old cell }
  pub err : done ≡ false → new ≡ old
  pub shows : done ≡ true → Shows new cell (now_in old cell)
  pub only : OnlyReads old new
  pub goes_on : GoesOn old new
  pub reads_held : done ≡ true → Holds (beneath new) new.reads

-- only the keys of a class are read, as they stand beneath the writes
pub record ReadsKeys (old new : Seeing) (class : ℕ) : Type 0 where
  pub keys : (keys : List ℤ) × (AreKeys (beneath old) class keys) × (new ≡ record old { reads = noted old.reads (keys_read class keys) })

-- only the greatest key of a class is read, as it stands beneath the writes
pub record ReadsGreatestAlone (old new : Seeing) (class : ℕ) : Type 0 where
  pub greatest : (greatest : Option ℤ) × (IsGreatestKey (beneath old) class greatest) × (new ≡ record old { reads = noted old.reads (greatest_read class greatest) })

-- the writes delete the object that has the greatest key of a class beneath
pub record DeletesGreatest (v : Seeing) (class : ℕ) : Type 0 where
  pub greatest : (key : ℤ) × (IsGreatestKey (beneath v) class (Some key)) × (written v (object_cell class key) ≡ Some None)

-- only the greatest key of a class is read; where the writes delete its object, only the keys are
pub record ReadsGreatest (old new : Seeing) (class : ℕ) : Type 0 where
  pub either : ReadsGreatestAlone old new class ⊎ (DeletesGreatest old class × ReadsKeys old new class)

-- only the number of a class's objects is read, as it stands beneath the writes
pub record ReadsCountAlone (old new : Seeing) (class : ℕ) : Type 0 where
  pub count : (count : ℕ) × (IsCount (beneath old) class count) × (new ≡ record old { reads = noted old.reads (count_read class count) })

-- the writes name an object of a class whose cell wasn't read by itself, so it isn't known whether it is there beneath
pub record WritesUnread (v : Seeing) (class : ℕ) : Type 0 where
  pub object : (key : ℤ) × (is_some (written v (object_cell class key)) ≡ true) × (list_any (reads_cell (object_cell class key)) v.reads ≡ false)

-- only the number of a class's objects is read; where the writes name one that wasn't read, only the keys are
pub record ReadsCount (old new : Seeing) (class : ℕ) : Type 0 where
  pub either : ReadsCountAlone old new class ⊎ (WritesUnread old class × ReadsKeys old new class)

-- only a part of a class is read, as it stands beneath the writes
pub record ReadsPart (old new : Seeing) (class : ℕ) (part : ClassPart) : Type 0 where
  pub part_is : (objects : List KeyedRow) × (ArePart (beneath old) class part objects) × (new ≡ record old { reads = noted old.reads (part_read class part objects) })
