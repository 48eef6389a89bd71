-- What layers are to a contract.
use Rattle.std.specs.Prelude.{◌≡◌, ◌==◌, ℕ, filter, List, [], ◌∷◌, Option, Some, None, Bool, true, false, IsTrue}
use Rattle.std.specs.Option.{option_or}
use Rattle.hp_model.specs.Values.{fits_64}
use Rattle.hp_model.specs.Cells.{Cell, object_cell, rule_cell, detector_cell, CellValue, Changes, no_changes, with_change}

-- the cells that a layer names, each with its new value, or with none where it is emptied
abbrev pub Entries : Type 0
Entries = List (Cell × Option CellValue)

abbrev pub changes : Entries → Changes
changes [] = no_changes
changes (e ∷ es) = with_change (changes es) e.0 (Some e.1)

-- several layers as one, the newest last
abbrev pub changes_in : List Entries → Changes
changes_in [] cell = None
changes_in (layer ∷ layers) cell = option_or (changes_in layers cell) (changes layer cell)

-- each cell is named once
abbrev pub IsEachOnce : Entries → Type 0
IsEachOnce [] = Unit {0}
IsEachOnce (e ∷ es) = (changes es e.0 ≡ None) × IsEachOnce es

-- a key of 64 bits
abbrev pub cell_fits : Cell → Bool
cell_fits (object_cell class key) = fits_64 key
cell_fits (rule_cell n) = true
cell_fits (detector_cell n) = true

abbrev pub KeysFit : Entries → Type 0
KeysFit [] = Unit {0}
KeysFit (e ∷ es) = IsTrue (cell_fits e.0) × KeysFit es

-- the cells of a class's objects
abbrev pub is_of_class : ℕ → Cell → Bool
is_of_class class (object_cell of key) = class == of
is_of_class class (rule_cell n) = false
is_of_class class (detector_cell n) = false

-- the changes of a class's objects
abbrev pub class_entries : ℕ → Entries → Entries
class_entries class es = filter (λ (e : Cell × Option CellValue). is_of_class class e.0) es
