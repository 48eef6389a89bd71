-- Reads as they stand in a map: each by where it looked, a part by its number.
use Rattle.std.specs.Prelude.{◌≡◌, ℕ, Bool, true, false, List, [], ◌∷◌}
use Rattle.hp_model.specs.ClassParts.{ClassPart}
use Rattle.hp_model.specs.Cells.{Read}
use Rattle.hp_value.specs.Mapped.{cell}
use Rattle.hp_view.specs.declared.reads.Seen.{Seen}
use Rattle.hp_view.specs.declared.reads.Seen.TheVariants.{Cell, Keys, Greatest, Count, Part}
use Rattle.hp_view.specs.declared.reads.Found.{Found}
use Rattle.hp_view.specs.declared.reads.PartState.{PartState}
use Rattle.hp_view.specs.declared.reads.PartState.TheVariants.{WasRead, IsFree, IsTaken}
use Rattle.hp_view.specs.Parts.{number_of}
use Rattle.hp_view.specs.Mapped.{part_found}
use Rattle.hp_view.specs.Seeing.{reads_cell, reads_keys, reads_greatest, reads_count, reads_number, part_was_read, number_was_read}

-- a part stands under its number
abbrev pub IsNumbered : Seen × Found → Type 0
IsNumbered (Cell q, found) = Unit {0}
IsNumbered (Keys class, found) = Unit {0}
IsNumbered (Greatest class, found) = Unit {0}
IsNumbered (Count class, found) = Unit {0}
IsNumbered (Part class n, found) = n ≡ number_of (part_found found)

abbrev pub AreNumbered : List (Seen × Found) → Type 0
AreNumbered [] = Unit {0}
AreNumbered (e ∷ es) = IsNumbered e × AreNumbered es

-- a read of what was looked at
abbrev pub is_read_of : Seen → Read → Bool
is_read_of (Cell q) = reads_cell (cell q)
is_read_of (Keys class) = reads_keys class
is_read_of (Greatest class) = reads_greatest class
is_read_of (Count class) = reads_count class
is_read_of (Part class n) = reads_number class n

-- what a part's state says
abbrev pub IsStateOf : List Read → ℕ → ClassPart → PartState → Type 0
IsStateOf reads class part WasRead = part_was_read reads class part ≡ true
IsStateOf reads class part IsFree = number_was_read reads class (number_of part) ≡ false
IsStateOf reads class part IsTaken = number_was_read reads class (number_of part) ≡ true
