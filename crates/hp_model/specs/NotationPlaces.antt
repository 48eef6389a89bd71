-- The text notation of scripts: lines and columns.
use Rattle.std.specs.Prelude.{ℕ, zero, suc, Bool, ◌&&◌, ◌==◌, nat_lt, nat_le, List, [], ◌∷◌, take, fold, codes, Option, Some, None, option_map, option_and_then, Result, Ok, Err}
use Rattle.std.specs.Prelude.{bytes_eq, if◌then◌else◌}
use Rattle.std.specs.Option.{option_or}
use Rattle.hp_model.specs.Json.{beside}
use Rattle.hp_model.specs.Refusals.{Path, Step, to_member, to_item}
use Rattle.hp_model.specs.NotationTree as T
use Rattle.hp_model.specs.NotationTree.{Node, Nodes, no_nodes, node, Script}
use Rattle.hp_model.specs.NotationScripts.{read_script, read_line}

-- both from 1; a column is one character
pub record Place : Type 0 where
  pub line : ℕ
  pub column : ℕ

-- a byte of a character after its first one
abbrev pub continues_character : ℕ → Bool
continues_character b = nat_le 128 b && nat_lt b 192

-- the place after a byte
abbrev pub after_byte : Place → ℕ → Place
after_byte p b =
    if b == 10 then record { line = suc p.line; column = 1 }
    else (if continues_character b then p else record { line = p.line; column = suc p.column })

-- the place of an offset of a text
unfoldable pub place_of : List ℕ → (offset : ℕ) → Place
place_of bytes offset = fold after_byte (record { line = 1; column = 1 }) (take offset bytes)

abbrev pub located : {A : Type 0} → List ℕ → Result A ℕ → Result A Place
located bytes (Ok x) = Ok x
located bytes (Err offset) = Err (place_of bytes offset)

-- the script that a text is, or the place of the first fault
abbrev pub read_text : List ℕ → Result Script Place
read_text bytes = located bytes (read_script bytes)

-- an item in a line, or `show`
abbrev pub read_text_line : List ℕ → Result Node Place
read_text_line bytes = located bytes (read_line bytes)

-- ---- the places of values

abbrev pub nth : ℕ → Nodes → Option Node
nth i no_nodes = None
nth zero (node n ns) = Some n
nth (suc i) (node n ns) = nth i ns

-- the part to which a step leads
abbrev pub part_at : Step → Node → Option Node
part_at (to_item i) (T.list at ns) = nth i ns
part_at step n = None

-- the offset of the value at a path
abbrev pub offset_along : Path → Node → Option ℕ
offset_along [] n = Some (T.offset n)
offset_along (step ∷ path) n = option_and_then (offset_along path) (part_at step n)

abbrev pub member_of : Script → List ℕ → Option Node
member_of s name =
    option_or (beside name ((codes "version", s.version) ∷ (codes "classes", s.classes) ∷ (codes "rules", s.rules) ∷ (codes "items", s.items) ∷ []))
    (if bytes_eq name (codes "depth") then s.depth else None)

abbrev pub script_offset : Script → Path → Option ℕ
script_offset s [] = Some s.at
script_offset s (to_member name ∷ path) = option_and_then (offset_along path) (member_of s name)
script_offset s (to_item i ∷ path) = None

-- the place of the value of a script at a path
abbrev pub place_at : List ℕ → Script → Path → Option Place
place_at bytes s path = option_map (place_of bytes) (script_offset s path)
