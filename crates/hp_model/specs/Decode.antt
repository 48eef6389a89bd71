-- The script's grammar, in the order of its checks: the root's shape, the version, the depth limit, the classes, the
-- form and name of each rule, each rule's other parts, and the items. Each part is read depth first, from left to
-- right.
use Rattle.std.specs.Prelude.{ℕ, suc, ◌+◌, ◌-◌, ℤ, pos, negsuc, ◌==◌, ◌||◌, ◌&&◌, Bool, true, false, nat_lt, List, [], ◌∷◌, ◌++◌, length, map, filter, codes, Option, Some, None}
use Rattle.std.specs.Prelude.{option_map, option_and_then, unwrap_or, Ok, Err, bytes_eq, if◌then◌else◌}
use Rattle.std.specs.List.{list_any, range_with_len}
use Rattle.serde_json.specs.Data.{Data}
use Rattle.serde_json.specs.Events.{members_len}
use Rattle.serde_json.specs.Find.{as_object, as_str, get}
use Rattle.hp_model.specs.Values.{Name, Kind, integer_kind, boolean_kind, text_kind, Field, ClassDef, ◌>>=◌}
use Rattle.hp_model.specs.Occurrences.{moment_reached}
use Rattle.hp_model.specs.Events.{mentions}
use Rattle.hp_model.specs.Rules.{Coupling, immediate, deferred, separate, dependent, exclusive, Query, Entry, query_entry, no_entry, let_entry, Rule}
use Rattle.hp_model.specs.Cascade.{Unit, transaction, moment, Script}
use Rattle.hp_model.specs.Refusals.{Path, under_root, item_at, size_limit, classes_limit, fields_limit, depth_limit_word, moments_limit, unreadable, wrong_shape, over_limit}
use Rattle.hp_model.specs.Refusals.{unknown_version, Decoded, shaped}
use Rattle.hp_model.specs.Json.{json_of, list_of, Form, form_of, pair_of, beside}
use Rattle.hp_model.specs.Parts.{new_name_at, place_at, integer_at, number_from, list_at, short_list_at, read_each}
use Rattle.hp_model.specs.Scopes.{class_names, field_names, query_names, Scope, names_of, no_names, is_fourth, Setting, row_setting, new_row_at}
pub use Rattle.hp_model.specs.Scopes.{Version, first_version, second_version, fourth_version}
use Rattle.hp_model.specs.ExpressionGrammar.{expression_at}
use Rattle.hp_model.specs.AggregateGrammar.{aggregate_at}
use Rattle.hp_model.specs.EventGrammar.{event_at}
use Rattle.hp_model.specs.StatementGrammar.{statements_at, body_of}
use Rattle.hp_model.specs.RuleHeads.{RuleHead, rule_names, rule_heads_at}

-- ---- the version, 1, 2 or 4, and the depth limit

abbrev pub version_in : ℤ → Decoded Version
version_in (pos n) = if n == 1 then Ok first_version else if n == 2 then Ok second_version else if n == 4 then Ok fourth_version else Err unknown_version
version_in (negsuc n) = Err unknown_version

unfoldable pub version_at : Path → Data → Decoded Version
version_at path d = do
  z ← integer_at path d
  version_in z

abbrev pub depth_in : ℤ → Decoded ℕ
depth_in (pos n) = if nat_lt n 1 || nat_lt 16 n then Err (over_limit depth_limit_word) else Ok n
depth_in (negsuc n) = Err (over_limit depth_limit_word)

-- 1 to 16
unfoldable pub depth_at : Path → Data → Decoded ℕ
depth_at path d = do
  z ← integer_at path d
  depth_in z

-- the default is 8
abbrev pub depth_if_any : Path → Option Data → Decoded ℕ
depth_if_any path None = Ok 8
depth_if_any path (Some d) = depth_at path d

-- ---- classes: `[name, fields]`, and fields: `[name, kind]`

abbrev pub kind_of_word : List ℕ → Option Kind
kind_of_word word = beside word ((codes "int", integer_kind) ∷ (codes "bool", boolean_kind) ∷ (codes "text", text_kind) ∷ [])

abbrev pub kind_at : Path → Data → Decoded Kind
kind_at path d = shaped path (option_and_then kind_of_word (as_str d))

-- a field, whose name no earlier field has
unfoldable pub field_at : List Field → Path → Data → Decoded Field
field_at before path d = do
  pair ← shaped path (pair_of d)
  x ← new_name_at (field_names before) (item_at path 0) pair.0
  kind ← kind_at (item_at path 1) pair.1
  Ok (record { name = x; kind = kind })

-- at most 32 fields
unfoldable pub fields_at : Path → Data → Decoded (List Field)
fields_at path d = do
  ds ← short_list_at 32 fields_limit path d
  read_each field_at path ds

-- a class, whose name no earlier class has
unfoldable pub class_at : List ClassDef → Path → Data → Decoded ClassDef
class_at before path d = do
  pair ← shaped path (pair_of d)
  x ← new_name_at (class_names before) (item_at path 0) pair.0
  fields ← fields_at (item_at path 1) pair.1
  Ok (record { name = x; fields = fields })

-- at most 64 classes
unfoldable pub classes_at : Path → Data → Decoded (List ClassDef)
classes_at path d = do
  ds ← short_list_at 64 classes_limit path d
  read_each class_at path ds

-- ---- couplings

abbrev pub has_exclusive : Version → Bool
has_exclusive first_version = false
has_exclusive second_version = true
has_exclusive fourth_version = true

-- the couplings of all versions
abbrev pub common_coupling : List ℕ → Option Coupling
common_coupling word = beside word
    ((codes "immediate", immediate) ∷ (codes "deferred", deferred) ∷ (codes "separate", separate) ∷ (codes "dependent", dependent) ∷ [])

-- `exclusive` isn't in version 1
abbrev pub coupling_of_word : Version → List ℕ → Option Coupling
coupling_of_word version word = if has_exclusive version && bytes_eq word (codes "exclusive") then Some exclusive else common_coupling word

abbrev pub coupling_at : Version → Path → Data → Decoded Coupling
coupling_at version path d = shaped path (option_and_then (coupling_of_word version) (as_str d))

-- ---- conditions: queries `[name, class, predicate]`, and in version 4 `["no", name, class, predicate]` and
-- `["let", name, aggregate]`

abbrev pub three_in : List Data → Option (Data × Data × Data)
three_in (a ∷ b ∷ c ∷ []) = Some (a, b, c)
three_in ds = None

abbrev pub triple_of : Data → Option (Data × Data × Data)
triple_of d = option_and_then three_in (list_of d)

-- an entry whose parts are still JSON
pub data EntryForm : Type 0 where
  query_form no_form : (name class predicate : Data) → EntryForm
  let_form : (name aggregate : Data) → EntryForm

abbrev pub is_word : List ℕ → Data → Bool
is_word word d = unwrap_or (option_map (bytes_eq word) (as_str d)) false

-- what begins with `no` or `let` is no query
abbrev pub entry_form : List Data → Option EntryForm
entry_form (a ∷ b ∷ c ∷ []) =
    if is_word (codes "no") a then None else if is_word (codes "let") a then Some (let_form b c) else Some (query_form a b c)
entry_form (a ∷ b ∷ c ∷ d ∷ []) = if is_word (codes "no") a then Some (no_form b c d) else None
entry_form ds = None

abbrev pub query_form_of : Data → Option EntryForm
query_form_of d = option_map (λ (parts : Data × Data × Data). query_form parts.0 parts.1 parts.2) (triple_of d)

abbrev pub entry_form_of : Version → Data → Option EntryForm
entry_form_of version d = if is_fourth version then option_and_then entry_form (list_of d) else query_form_of d

-- a query with its name, class and predicate at these indices, whose name no earlier entry has; the predicate may use
-- what the earlier entries name, and the query's own row
unfoldable pub query_at : (classes : List Name) → Setting → (first second third : Path) → Data → Data → Data → Decoded Query
query_at classes setting first second third name class predicate = do
  x ← new_row_at setting.names first name
  n ← place_at classes second class
  e ← expression_at (row_setting x setting) third predicate
  Ok (record { name = x; class = n; predicate = e })

-- a value, whose name no earlier entry has
unfoldable pub let_entry_at : (classes : List Name) → Setting → Path → Data → Data → Decoded Entry
let_entry_at classes setting path name aggregate = do
  x ← new_row_at setting.names (item_at path 1) name
  a ← aggregate_at classes setting (item_at path 2) aggregate
  Ok (let_entry x a)

abbrev pub entry_from : (classes : List Name) → Setting → Path → EntryForm → Decoded Entry
entry_from classes setting path (query_form name class predicate) = do
  q ← query_at classes setting (item_at path 0) (item_at path 1) (item_at path 2) name class predicate
  Ok (query_entry q)
entry_from classes setting path (no_form name class predicate) = do
  q ← query_at classes setting (item_at path 1) (item_at path 2) (item_at path 3) name class predicate
  Ok (no_entry q)
entry_from classes setting path (let_form name aggregate) = let_entry_at classes setting path name aggregate

unfoldable pub entry_at : Version → (classes : List Name) → List Entry → Path → Data → Decoded Entry
entry_at version classes before path d = do
  form ← shaped path (entry_form_of version d)
  entry_from classes (record { version = version; names = names_of before }) path form

unfoldable pub condition_at : Version → (classes : List Name) → Path → Data → Decoded (List Entry)
condition_at version classes path d = do
  ds ← list_at path d
  read_each (entry_at version classes) path ds

-- ---- rules

-- the scope of the action of a rule with this condition
abbrev pub acting : Scope → List Entry → Scope
acting scope condition = record { classes = scope.classes; rules = scope.rules; queries = query_names condition; in_action = true }

-- the seventh part of a rule, if there is one, is the text `closed`
abbrev pub closed_at : Path → Option Data → Decoded Bool
closed_at path None = Ok false
closed_at path (Some d) = if is_word (codes "closed") d then Ok true else Err (wrong_shape path)

-- the other parts of a rule
unfoldable pub rule_at : Version → Scope → Path → RuleHead → Decoded Rule
rule_at version scope path head = do
  event ← event_at (class_names scope.classes) (item_at path 1) head.parts.event
  ec ← coupling_at version (item_at path 2) head.parts.event_coupling
  condition ← condition_at version (class_names scope.classes) (item_at path 3) head.parts.condition
  ca ← coupling_at version (item_at path 4) head.parts.action_coupling
  action ← statements_at (acting scope condition) (record { version = version; names = names_of condition }) (item_at path 5) head.parts.action
  closed ← closed_at (item_at path 6) head.parts.closing
  Ok (record { name = head.name; event = event; event_coupling = ec; condition = condition; action_coupling = ca; action = body_of action; closed = closed })

abbrev pub rules_at : Version → Scope → Path → List RuleHead → Decoded (List Rule)
rules_at version scope path heads = read_each (λ _. rule_at version scope) path heads

-- ---- items: `["tx", body]` and `["clock", t]`

-- whether some rule's event contains a moment, even if the rule is disabled
abbrev pub names_moment : List Rule → ℕ → Bool
names_moment rules t = list_any (λ (r : Rule). mentions r.event (moment_reached t)) rules

-- the moments after one time and up to another that some rule's event contains
abbrev pub due_moments : List Rule → (after until : ℕ) → List ℕ
due_moments rules after until = filter (names_moment rules) (range_with_len (after + 1) (until - after))

-- at most 1,000
abbrev pub few_moments : List ℕ → Decoded (List ℕ)
few_moments ts = if nat_lt 1000 (length ts) then Err (over_limit moments_limit) else Ok ts

-- the units of the items so far, and the time of the clock after them
pub record Schedule : Type 0 where
  pub units : List Unit
  pub clock : ℕ

-- the clock begins at 0
abbrev pub no_item : Schedule
no_item = record { units = []; clock = 0 }

-- an item whose part is still JSON
pub data ItemForm : Type 0 where
  transaction_form : (body : Data) → ItemForm
  clock_form : (time : Data) → ItemForm

abbrev pub item_form_of_one : List ℕ → Data → Option ItemForm
item_form_of_one word a = beside word ((codes "tx", transaction_form a) ∷ (codes "clock", clock_form a) ∷ [])

abbrev pub item_form : List ℕ → List Data → Option ItemForm
item_form word (a ∷ []) = item_form_of_one word a
item_form word parts = None

abbrev pub item_form_at : Path → Data → Decoded ItemForm
item_form_at path d = shaped path (option_and_then (λ (f : Form). item_form f.word f.parts) (form_of d))

-- a transaction, at the time of the last move of the clock
unfoldable pub transaction_at : Version → Scope → Path → Schedule → Data → Decoded Schedule
transaction_at version scope path before body = do
  statements ← statements_at scope (record { version = version; names = no_names }) (item_at path 1) body
  Ok (record { units = before.units ++ transaction before.clock (body_of statements) ∷ []; clock = before.clock })

-- a move of the clock, which never goes back, means its due moments, in order
unfoldable pub clock_at : List Rule → Path → Schedule → Data → Decoded Schedule
clock_at rules path before time = do
  t ← number_from before.clock (item_at path 1) time
  moments ← few_moments (due_moments rules before.clock t)
  Ok (record { units = before.units ++ map moment moments; clock = t })

abbrev pub item_from : Version → List Rule → Scope → Path → Schedule → ItemForm → Decoded Schedule
item_from version rules scope path before (transaction_form body) = transaction_at version scope path before body
item_from version rules scope path before (clock_form time) = clock_at rules path before time

unfoldable pub unit_at : Version → List Rule → Scope → Path → Schedule → Data → Decoded Schedule
unit_at version rules scope path before d = do
  form ← item_form_at path d
  item_from version rules scope path before form

-- the items from an index, after those already read
abbrev pub units_from : Version → List Rule → Scope → Path → Schedule → ℕ → List Data → Decoded Schedule
units_from version rules scope path before i [] = Ok before
units_from version rules scope path before i (d ∷ ds) = do
  next ← unit_at version rules scope (item_at path i) before d
  units_from version rules scope path next (suc i) ds

unfoldable pub units_at : Version → List Rule → Scope → Path → Data → Decoded Schedule
units_at version rules scope path d = do
  ds ← list_at path d
  units_from version rules scope path no_item 0 ds

-- ---- the root: an object with the members `version`, `classes`, `rules` and `items`, and optionally `depth`

-- the members of the root, in JSON
pub record Root : Type 0 where
  pub version : Data
  pub depth : Option Data
  pub classes : Data
  pub rules : Data
  pub items : Data

abbrev pub member_count : Data → Option ℕ
member_count d = option_map members_len (as_object d)

-- the number of members, if all are there
abbrev pub wanted_count : (depth : Option Data) → ℕ
wanted_count None = 4
wanted_count (Some d) = 5

abbrev pub root_members : (version depth classes rules items : Option Data) → Option Root
root_members (Some v) depth (Some c) (Some r) (Some i) = Some (record { version = v; depth = depth; classes = c; rules = r; items = i })
root_members version depth classes rules items = None

-- an object that has each of the members, and no other
abbrev pub root_of : Data → Option Root
root_of d = option_and_then
    (λ count. if count == wanted_count (get (codes "depth") d)
    then root_members (get (codes "version") d) (get (codes "depth") d) (get (codes "classes") d) (get (codes "rules") d) (get (codes "items") d)
    else None)
    (member_count d)

-- what a body of the script may name
abbrev pub script_scope : List ClassDef → List RuleHead → Scope
script_scope classes heads = record { classes = classes; rules = rule_names heads; queries = []; in_action = false }

-- the script of this version and depth limit, with these classes and heads of rules: the other parts of each rule, and
-- the items
unfoldable pub script_from : Version → (depth : ℕ) → List ClassDef → List RuleHead → (items : Data) → Decoded Script
script_from version depth classes heads items = do
  rules ← rules_at version (script_scope classes heads) (under_root (codes "rules")) heads
  schedule ← units_at version rules (script_scope classes heads) (under_root (codes "items")) items
  Ok (record { library = record { classes = classes; rules = rules; depth_limit = depth }; units = schedule.units })

-- the script of a JSON value, or the first refusal
unfoldable pub decode : Data → Decoded Script
decode d = do
  root ← shaped [] (root_of d)
  version ← version_at (under_root (codes "version")) root.version
  depth ← depth_if_any (under_root (codes "depth")) root.depth
  classes ← classes_at (under_root (codes "classes")) root.classes
  heads ← rule_heads_at version (under_root (codes "rules")) root.rules
  script_from version depth classes heads root.items

-- ---- bytes

abbrev pub readable : Option Data → Decoded Data
readable None = Err unreadable
readable (Some d) = Ok d

unfoldable pub json_at : List ℕ → Decoded Data
json_at bytes = readable (json_of bytes)

-- the script in these bytes, or the first refusal; the size is checked first
unfoldable pub script_of : List ℕ → Decoded Script
script_of bytes = if nat_lt 1048576 (length bytes) then Err (over_limit size_limit) else json_at bytes >>= decode
