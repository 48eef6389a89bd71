-- The cells of a state, layers of changes over cells, and the reads that hold in cells.
use Rattle.std.specs.Prelude.{◌≡◌, ℕ, ℤ, int_lt, Bool, true, false, ◌&&◌, ◌==◌, List, [], ◌∷◌, map, length, All, Option, Some, None, option_map, is_some, Ok, if◌then◌else◌}
use Rattle.std.specs.Ordering.{int_eq, int_cmp}
use Rattle.std.specs.List.{list_any}
use Rattle.std.specs.List.Sorted.{IsStrictlySortedBy}
use Rattle.hp_model.specs.Values.{Row, KeyedRow, Outcome}
use Rattle.hp_model.specs.ClassParts.{ClassPart, belongs}
use Rattle.hp_model.specs.Events.{is_pure}
use Rattle.hp_model.specs.Knowledge.{Knowledge, knowledge}
use Rattle.hp_model.specs.Rules.{Rule, Library, rule_at}
use Rattle.hp_model.specs.State.{State, Status, absent, enabled, disabled, RuleState, rule_state, find_object}

-- a cell: an object's row, a rule's status, or what a rule's detector knows
pub data Cell : Type 0 where
  object_cell : (class : ℕ) → (key : ℤ) → Cell
  rule_cell detector_cell : (rule : ℕ) → Cell

pub data CellValue : Type 0 where
  row_value : Row → CellValue
  status_value : Status → CellValue
  knowledge_value : Knowledge → CellValue

-- the value of each cell, or its absence. Two of these functions are the same if they are equal at each cell
abbrev pub Cells : Type 0
Cells = Cell → Option CellValue

abbrev pub status_in : Status → Option CellValue
status_in absent = None
status_in enabled = Some (status_value enabled)
status_in disabled = Some (status_value disabled)

abbrev pub knowledge_in : Rule → Status → RuleState → Option CellValue
knowledge_in rule enabled r = if is_pure rule.event then None else Some (knowledge_value (knowledge rule.event r.past))
knowledge_in rule status r = None

-- each object's row; each rule that isn't absent; for each enabled rule whose event looks back, what is known of its
-- past
abbrev pub cells : Library → State → Cells
cells library S (object_cell class key) = option_map row_value (find_object S.objects class key)
cells library S (rule_cell n) = status_in (rule_state S n).status
cells library S (detector_cell n) = knowledge_in (rule_at library n) (rule_state S n).status (rule_state S n)

-- ---- layers

-- a layer: the cells that it sets, and those that it removes
abbrev pub Changes : Type 0
Changes = Cell → Option (Option CellValue)

abbrev pub no_changes : Changes
no_changes cell = None

-- the content of a cell after a change
abbrev pub changed : Option CellValue → Option (Option CellValue) → Option CellValue
changed before None = before
changed before (Some after) = after

-- cells overwritten by a layer
abbrev pub over : Cells → Changes → Cells
over base changes cell = changed (base cell) (changes cell)

abbrev pub same_cell : Cell → Cell → Bool
same_cell (object_cell c k) (object_cell d l) = (c == d) && int_eq k l
same_cell (rule_cell m) (rule_cell n) = m == n
same_cell (detector_cell m) (detector_cell n) = m == n
same_cell a b = false

-- a layer with another change at one cell, or with none there
abbrev pub with_change : Changes → Cell → Option (Option CellValue) → Changes
with_change changes cell change q = if same_cell cell q then change else changes q

-- ---- reads

-- the keys of a class's objects, without duplicates, in ascending order
pub record AreKeys (base : Cells) (class : ℕ) (keys : List ℤ) : Type 0 where
  pub rise : IsStrictlySortedBy int_cmp keys
  pub has : (key : ℤ) → list_any (int_eq key) keys ≡ is_some (base (object_cell class key))

-- a class's objects with their rows, in ascending key order
pub record AreObjects (base : Cells) (class : ℕ) (objects : List KeyedRow) : Type 0 where
  pub keys : AreKeys base class (map (λ (o : KeyedRow). o.key) objects)
  pub rows : All (λ (o : KeyedRow). base (object_cell class o.key) ≡ Some (row_value o.row)) objects

-- whether the object in a cell belongs to a part of its class; an absent object doesn't
abbrev pub belongs_in : ClassPart → ℤ → Option CellValue → Outcome Bool
belongs_in p key (Some (row_value row)) = belongs p (record { key = key; row = row })
belongs_in p key value = Ok false

-- the objects of a part of a class with their rows, in ascending key order. Each other object of the class is known,
-- without a fault, not to belong to the part
pub record ArePart (base : Cells) (class : ℕ) (p : ClassPart) (objects : List KeyedRow) : Type 0 where
  pub rise : IsStrictlySortedBy int_cmp (map (λ (o : KeyedRow). o.key) objects)
  pub has : (key : ℤ) → belongs_in p key (base (object_cell class key)) ≡ Ok (list_any (int_eq key) (map (λ (o : KeyedRow). o.key) objects))
  pub rows : All (λ (o : KeyedRow). base (object_cell class o.key) ≡ Some (row_value o.row)) objects

-- whether a key lies above the greatest one, if there is one
abbrev pub is_above : Option ℤ → ℤ → Bool
is_above None key = true
is_above (Some greatest) key = int_lt greatest key

-- whether there is an object with the greatest key, if there is one
abbrev pub is_there : Cells → (class : ℕ) → Option ℤ → Bool
is_there base class None = true
is_there base class (Some greatest) = is_some (base (object_cell class greatest))

-- the greatest key of a class's objects; `None` if the class has no object
pub record IsGreatestKey (base : Cells) (class : ℕ) (greatest : Option ℤ) : Type 0 where
  pub there : is_there base class greatest ≡ true
  pub above : (key : ℤ) → is_above greatest key ≡ true → is_some (base (object_cell class key)) ≡ false

-- the number of a class's objects: that of their keys
pub record IsCount (base : Cells) (class count : ℕ) : Type 0 where
  pub keys : List ℤ
  pub are : AreKeys base class keys
  pub number : length keys ≡ count

-- a read: a cell with its value or its absence, a class with its keys, with its greatest key, with the number of its
-- objects, or with all of its objects, or a part of a class with the part's objects
pub data Read : Type 0 where
  cell_read : Cell → Option CellValue → Read
  keys_read : (class : ℕ) → List ℤ → Read
  greatest_read : (class : ℕ) → Option ℤ → Read
  count_read : (class count : ℕ) → Read
  objects_read : (class : ℕ) → List KeyedRow → Read
  part_read : (class : ℕ) → ClassPart → List KeyedRow → Read

-- what was read is so in these cells
abbrev pub ReadHolds : Cells → Read → Type 0
ReadHolds base (cell_read cell value) = base cell ≡ value
ReadHolds base (keys_read class keys) = AreKeys base class keys
ReadHolds base (greatest_read class greatest) = IsGreatestKey base class greatest
ReadHolds base (count_read class count) = IsCount base class count
ReadHolds base (objects_read class objects) = AreObjects base class objects
ReadHolds base (part_read class p objects) = ArePart base class p objects

abbrev pub ReadsHold : Cells → List Read → Type 0
ReadsHold base [] = Unit {0}
ReadsHold base (r ∷ rs) = ReadHolds base r × ReadsHold base rs

-- the reads hold in these cells: each recorded cell has the recorded value or absence, each recorded class the recorded
-- keys, greatest key, number of objects or objects, each recorded part of a class the recorded objects
pub record Holds (base : Cells) (reads : List Read) : Type 0 where
  pub each : ReadsHold base reads
