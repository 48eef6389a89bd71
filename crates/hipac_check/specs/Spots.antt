-- How the findings on a script show places: in JSON as paths, and in a text as lines and columns.
use Rattle.std.specs.Prelude.{ℕ, suc, ◌+◌, ◌-◌, Bool, true, false, List, [], ◌∷◌, codes, bytes_eq, Result, Ok, Err, if◌then◌else◌}
use Rattle.std.specs.List.{slice_index_or}
use Rattle.std.specs.Option.{option_map_or}
use Rattle.hp_model.specs.Refusals.{Path, to_member, to_item}
use Rattle.hp_model.specs.Report.{Bytes}
use Rattle.hp_model.specs.Output.{path_text, place_text}
use Rattle.hp_model.specs.Cascade.{Unit, transaction, moment}
use Rattle.hp_model.specs.NotationTree as T
use Rattle.hp_model.specs.NotationPlaces.{Place, part_at, read_text}
use Rattle.hp_model.specs.TextScripts.{script_place}
use Rattle.hp_rule.specs.Places.{path}
use Rattle.hp_text.specs.Places.{place_view}
use Rattle.hp_text.specs.Scripts.{script_view}
use Rattle.hp_analysis.specs.Checking.{Shown, as_paths}
use Rattle.hipac_check.specs.declared.spots.Spot.{Spot}
use Rattle.hipac_check.specs.declared.spots.Spot.TheVariants as s
use Rattle.hipac_check.specs.declared.spots.Spots.{Spots}
use Rattle.hipac_check.specs.declared.spots.Spots.TheVariants as all

-- ---- the items of units

abbrev pub has_word : List ℕ → T.Node → Bool
has_word word (T.text at s) = bytes_eq s word
has_word word n = false

abbrev pub is_transaction : T.Node → Bool
is_transaction n = option_map_or (has_word (codes "tx")) (part_at (to_item 0) n) false

-- the indexes of those that are transactions; the first is the i-th
abbrev pub transactions_from : ℕ → T.Nodes → List ℕ
transactions_from i T.no_nodes = []
transactions_from i (T.node n ns) = if is_transaction n then i ∷ transactions_from (suc i) ns else transactions_from (suc i) ns

abbrev pub transactions : T.Node → List ℕ
transactions (T.list at ns) = transactions_from 0 ns
transactions n = []

-- the index of a unit's item, where so many transactions come before it, by the indexes of all; 0 if it is a moment
abbrev pub unit_item : Unit → (before : ℕ) → (indexes : List ℕ) → ℕ
unit_item (transaction now body) before indexes = slice_index_or indexes before 0
unit_item (moment t) before indexes = 0

-- how many transactions come before the next unit
abbrev pub after_unit : Unit → (before : ℕ) → ℕ
after_unit (transaction now body) before = before + 1
after_unit (moment t) before = before

-- the same for each of the units
abbrev pub unit_items : (indexes : List ℕ) → (before : ℕ) → List Unit → List ℕ
unit_items indexes before [] = []
unit_items indexes before (u ∷ us) = unit_item u before indexes ∷ unit_items indexes (after_unit u before) us

-- the path of what stands at a path in the body of the n-th unit, from 1
abbrev pub body_path : (items : List ℕ) → ℕ → Path → Path
body_path items n path = to_member (codes "items") ∷ to_item (slice_index_or items (n - 1) 0) ∷ to_item 1 ∷ path

-- ---- the script in some bytes

-- as lines and columns of a text
abbrev pub as_places : List ℕ → T.Script → (items : List ℕ) → Shown
as_places bytes s items = record {
  at = λ path. place_text (script_place bytes s path);
  in_unit = λ n path. place_text (script_place bytes s (body_path items n path));
}

abbrev pub shown_of : List ℕ → List Unit → Result T.Script Place → Shown
shown_of bytes us (Ok s) = as_places bytes s (unit_items (transactions s.items) 0 us)
shown_of bytes us (Err fault) = as_paths

-- of a script with these units
abbrev pub shown_in : (is_text : Bool) → List ℕ → List Unit → Shown
shown_in false bytes us = as_paths
shown_in true bytes us = shown_of bytes us (read_text bytes)

-- ---- the program's values

abbrev pub spot_text : Spot → Bytes
spot_text (s.Path p) = path_text (path p.now)
spot_text (s.Place p) = place_text (place_view p)

abbrev pub shown : Spots → Shown
shown all.Paths = as_paths
shown (all.Places marks script items) = as_places marks.text.now (script_view script) items.items
