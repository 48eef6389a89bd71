-- Texts to which words are added.
use Rattle.std.specs.Prelude.{◌≡◌, ℕ, ℤ, [], ◌∷◌, ◌++◌, List, Option, Some, None, flat_map, codes, String, string_bytes}
use Rattle.std.specs.declared.alloc.Global.{Global}
use Rattle.hp_model.specs.Values.{Value, Row, KeyedRow}
use Rattle.hp_model.specs.Rules.{Library}
use Rattle.hp_model.specs.State.{Objects, find_object, rows_of, RuleState}
use Rattle.hp_model.specs.Report.{Bytes, line, value_text, object_words, row_words, objects_text, rules_text}

-- this was added to the end of the text
abbrev pub Gains : String Global → String Global → Bytes → Type 0
Gains old new text = string_bytes new ≡ string_bytes old ++ text

-- words, each with a space before it
abbrev pub spaced : List Bytes → Bytes
spaced ws = flat_map (λ (w : Bytes). 32 ∷ w) ws

-- a line for each value
abbrev pub emit_lines : List Value → Bytes
emit_lines vs = flat_map (λ v. line 0 (codes "emit" ∷ value_text v ∷ [])) vs

-- the line of an object of a class
abbrev pub object_line : Library → (class : ℕ) → KeyedRow → Bytes
object_line library class o = line 0 (codes "object" ∷ (object_words library class o.key ++ row_words o.row))

-- the lines of a class's objects, in ascending key order
abbrev pub class_text : Library → (class : ℕ) → Objects → Bytes
class_text library class objects = flat_map (object_line library class) (rows_of class objects)

abbrev pub line_of_row : Library → (class : ℕ) → (key : ℤ) → Option Row → Bytes
line_of_row library class key None = []
line_of_row library class key (Some row) = object_line library class (record { key = key; row = row })

-- the line of an object, if it exists
abbrev pub object_text : Library → (class : ℕ) → (key : ℤ) → Objects → Bytes
object_text library class key objects = line_of_row library class key (find_object objects class key)

-- the lines of a state
abbrev pub state_text : Library → Objects → List RuleState → Bytes
state_text library objects rules = objects_text library objects ++ rules_text library.rules rules

-- the lines after the units
abbrev pub final_text : Library → Objects → List RuleState → Bytes
final_text library objects rules =
    line 0 (codes "final" ∷ []) ++ (objects_text library objects ++ (rules_text library.rules rules ++ line 0 (codes "end" ∷ [])))
