-- The lines of objects that are in a store.
use Rattle.std.specs.Prelude.{◌≡◌, ℕ, ℤ, Bool, List, [], Option, Some, flat_map, String}
use Rattle.std.specs.declared.alloc.Global.{Global}
use Rattle.hp_model.specs.Rules.{Library}
use Rattle.hp_model.specs.State.{State, IsOrdered}
use Rattle.hp_model.specs.Cells.{Cells, cells, CellValue, row_value, object_cell}
use Rattle.hp_model.specs.Cascade.{UnitReport}
use Rattle.hp_model.specs.Report.{Bytes, report_text}
use Rattle.hp_report.specs.Text.{Gains, object_line, class_text, object_text, state_text}

-- the line of an object, if its cell holds a row
abbrev pub stored_line : Library → (class : ℕ) → (key : ℤ) → Option CellValue → Bytes
stored_line library class key (Some (row_value row)) = object_line library class (record { key = key; row = row })
stored_line library class key value = []

-- the lines of the objects with these keys
abbrev pub stored_lines : Library → Cells → (class : ℕ) → List ℤ → Bytes
stored_lines library base class keys = flat_map (λ key. stored_line library class key (base (object_cell class key))) keys

-- what holds of every ordered state that has the cells
pub record OfEach (library : Library) (base : Cells) (Holds : State → Type 0) : Type 0 where
  pub from : (S : State) → IsOrdered library S → cells library S ≡ base → Holds S

-- this is the text of the class's objects, of a state, and of the whole report of units that end in it
abbrev pub IsClassText : Library → Cells → (class : ℕ) → Bytes → Type 0
IsClassText library base class text = OfEach library base (λ S. text ≡ class_text library class S.objects)

abbrev pub IsStateText : Library → Cells → Bytes → Type 0
IsStateText library base text = OfEach library base (λ S. text ≡ state_text library S.objects S.rules)

abbrev pub IsReportText : Library → Cells → (with_tree : Bool) → List UnitReport → Bytes → Type 0
IsReportText library base with_tree units text = OfEach library base (λ S. text ≡ report_text library with_tree (record { units = units; state = S }))

-- these lines were added
abbrev pub GainsOf : Library → Cells → (State → Bytes) → String Global → String Global → Type 0
GainsOf library base text old new = OfEach library base (λ S. Gains old new (text S))

-- this is the text of the object in every state that has the cells
pub record IsObjectText (library : Library) (base : Cells) (class : ℕ) (key : ℤ) (text : Bytes) : Type 0 where
  pub from : (S : State) → cells library S ≡ base → text ≡ object_text library class key S.objects
