-- Reads that hold, and the first that doesn't.
use Rattle.std.specs.Prelude.{◌≡◌, ◌&&◌, ◌||◌, ℤ, Bool, true, false, List, [], ◌∷◌, ◌++◌, Option, Some, None, is_some, ◌⊎◌}
use Rattle.hp_model.specs.Values.{Value, integer}
use Rattle.hp_model.specs.ClassParts.{ClassPart, key_attribute}
use Rattle.hp_model.specs.Cells.{Cells, object_cell, Changes, over, Read, cell_read, keys_read, greatest_read, count_read, objects_read, part_read, ReadHolds, Holds}
use Rattle.hp_value.specs.Mapped.{cell}
use Rattle.hp_view.specs.declared.reads.Seen.{Seen}
use Rattle.hp_view.specs.declared.reads.Seen.TheVariants.{Cell as OfCell, Keys as OfKeys, Greatest as OfGreatest, Count as OfCount, Part as OfPart}
use Rattle.hp_store.specs.Changes.{Entries}
use Rattle.hp_view.specs.Parts.{same_attribute}
use Rattle.hp_view.specs.Adding.{AddsReads, IsOfClass}
use Rattle.hp_view.specs.Seeing.{Seeing, beneath, written, now_in, OnlyReads, TakesIn}

-- a read of this cell, of this class's keys, alone or with the rows, of its greatest key, of the number of its objects,
-- or of a part of it
abbrev pub IsReadOf : Seen → Read → Type 0
IsReadOf (OfCell q) (cell_read c value) = c ≡ cell q
IsReadOf (OfKeys n) (keys_read class keys) = class ≡ n
IsReadOf (OfKeys n) (objects_read class objects) = class ≡ n
IsReadOf (OfGreatest n) (greatest_read class greatest) = class ≡ n
IsReadOf (OfCount n) (count_read class count) = class ≡ n
IsReadOf (OfPart n number) (part_read class part objects) = class ≡ n
IsReadOf seen r = ⊥

-- the first of the reads that doesn't hold looked there: those before it hold
pub record FirstFailed (base : Cells) (reads : List Read) (seen : Seen) : Type 0 where
  pub before : List Read
  pub after : List Read
  pub first : Read
  pub split : reads ≡ before ++ first ∷ after
  pub held : Holds base before
  pub fails : ReadHolds base first → ⊥
  pub looked : IsReadOf seen first

-- if a read holds in the old view, it holds under the new view's writes wherever the new view's reads hold
abbrev pub IsReadAgain : Seeing → Seeing → Read → Type 0
IsReadAgain old new r = ReadHolds (now_in old) r → (base : Cells) → Holds base new.reads → ReadHolds (over base (written new)) r

-- wherever the view's reads hold, these hold under its writes
pub record Covers (v : Seeing) (reads : List Read) : Type 0 where
  pub everywhere : (base : Cells) → Holds base v.reads → Holds (over base (written v)) reads

-- ---- the reads that settling adds

-- a read that may be added for one that an attempt made: one of the same. Where the view's writes delete an object with
-- the greatest key, it reads the class's keys; so it may for the number of objects, where the writes name one; where it
-- can't read a part alone, it reads the class
abbrev pub IsFor : Changes → (tried : Read) → Read → Type 0
IsFor layer (cell_read q value) (cell_read c found) = (c ≡ q) × (layer q ≡ None)
IsFor layer (cell_read q value) r = ⊥
IsFor layer (keys_read n keys) (keys_read m found) = m ≡ n
IsFor layer (keys_read n keys) r = ⊥
IsFor layer (greatest_read n greatest) (greatest_read m found) = m ≡ n
IsFor layer (greatest_read n greatest) (keys_read m found) = (m ≡ n) × (key : ℤ) × (layer (object_cell n key) ≡ Some None)
IsFor layer (greatest_read n greatest) r = ⊥
IsFor layer (count_read n count) (count_read m found) = m ≡ n
IsFor layer (count_read n count) (keys_read m found) = (m ≡ n) × (key : ℤ) × (is_some (layer (object_cell n key)) ≡ true)
IsFor layer (count_read n count) r = ⊥
IsFor layer (objects_read n objects) r = IsOfClass layer n r
IsFor layer (part_read n part objects) (part_read m p found) = (m ≡ n) × (p ≡ part)
IsFor layer (part_read n part objects) r = IsOfClass layer n r

-- a bound by an integer
abbrev pub is_integer_bound : Option Value → Bool
is_integer_bound (Some (integer z)) = true
is_integer_bound v = false

-- a part by keys that has a bound
abbrev pub bounds_keys : ClassPart → Bool
bounds_keys p = same_attribute p.attribute key_attribute && (is_integer_bound p.low || is_integer_bound p.high)

-- one that may be added for any of them
abbrev pub IsForAny : Changes → (tried : List Read) → Read → Type 0
IsForAny layer [] r = ⊥
IsForAny layer (t ∷ ts) r = IsFor layer t r ⊎ IsForAny layer ts r

-- ---- how an attempt is accepted

-- what it read is read, and then its layer is written
pub record IsAccepted (old new : Seeing) (reads : List Read) (layer : Entries) : Type 0 where
  pub recorded : Seeing
  pub only : OnlyReads old recorded
  pub covers : Covers recorded reads
  pub adds : AddsReads (IsForAny (written old) reads) old.reads recorded.reads
  pub takes : TakesIn recorded new layer
  pub reads_held : Holds (beneath new) new.reads
