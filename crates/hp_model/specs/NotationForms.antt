-- The forms of scripts with names for their parts. A form has what its JSON has, and no place.
use Rattle.std.specs.Prelude.{ℕ, ℤ, Bool, true, false, List, [], ◌∷◌, map, codes, Option, Some, None}
use Rattle.serde_json.specs.Data.{Data, number, unsigned, boolean, string, array, Items, no_items, item}
use Rattle.hp_model.specs.Values.{Name, Kind, integer_kind, boolean_kind, text_kind}
use Rattle.hp_model.specs.Rules.{Coupling}
use Rattle.hp_model.specs.Report.{coupling_word}
use Rattle.hp_model.specs.NotationTokens.{Mark, or_mark, and_mark, equal_sign, unequal_sign, less_sign, at_most_sign, greater_sign, at_least_sign, plus_sign, minus_sign}
use Rattle.hp_model.specs.NotationTokens.{times_sign, divided_sign, percent_sign, create_mark, update_mark, delete_mark, install_mark, enable_mark, disable_mark, remove_mark}
use Rattle.hp_model.specs.NotationTokens.{fire_mark, spelling}
use Rattle.hp_model.specs.NotationTree.{number_data, root_data}

abbrev pub items : List Data → Items
items [] = no_items
items (d ∷ ds) = item d (items ds)

abbrev pub list_data : List Data → Data
list_data ds = array (items ds)

-- a form `[word, ..]`
abbrev pub form_data : List ℕ → List Data → Data
form_data word parts = list_data (string word ∷ parts)

abbrev pub natural_data : ℕ → Data
natural_data n = number (unsigned n)

-- ---- expressions

pub data Operator : Type 0 where
  either both equal unequal less at_most greater at_least plus minus times quotient remainder : Operator

abbrev pub operator_mark : Operator → Mark
operator_mark either = or_mark
operator_mark both = and_mark
operator_mark equal = equal_sign
operator_mark unequal = unequal_sign
operator_mark less = less_sign
operator_mark at_most = at_most_sign
operator_mark greater = greater_sign
operator_mark at_least = at_least_sign
operator_mark plus = plus_sign
operator_mark minus = minus_sign
operator_mark times = times_sign
operator_mark quotient = divided_sign
operator_mark remainder = percent_sign

-- `new` or `old`
pub data Image : Type 0 where
  new_image old_image : Image

abbrev pub image_word : Image → List ℕ
image_word new_image = codes "new"
image_word old_image = codes "old"

pub data Expression : Type 0 where
  integer : ℤ → Expression
  truth : Bool → Expression
  text : List ℕ → Expression
  operation : Operator → (left right : Expression) → Expression
  inverted negated : Expression → Expression
  field_of : (row field : Name) → Expression
  key_of : (row : Name) → Expression
  value : Name → Expression
  now : Expression
  image_field : Image → (part : ℕ) → (field : Name) → Expression
  key_in time_of : (part : ℕ) → Expression
  argument : (part place : ℕ) → Expression
  occurrence_count : Expression

abbrev pub expression_data : Expression → Data
expression_data (integer z) = number_data z
expression_data (truth b) = boolean b
expression_data (text s) = string s
expression_data (operation op a b) = form_data (spelling (operator_mark op)) (expression_data a ∷ expression_data b ∷ [])
expression_data (inverted a) = form_data (codes "not") (expression_data a ∷ [])
expression_data (negated a) = form_data (codes "neg") (expression_data a ∷ [])
expression_data (field_of x f) = form_data (codes "of") (string x ∷ string f ∷ [])
expression_data (key_of x) = form_data (codes "key") (string x ∷ [])
expression_data (value x) = form_data (codes "value") (string x ∷ [])
expression_data now = form_data (codes "now") []
expression_data (image_field image i f) = form_data (image_word image) (natural_data i ∷ string f ∷ [])
expression_data (key_in i) = form_data (codes "id") (natural_data i ∷ [])
expression_data (time_of i) = form_data (codes "time") (natural_data i ∷ [])
expression_data (argument i j) = form_data (codes "arg") (natural_data i ∷ natural_data j ∷ [])
expression_data occurrence_count = form_data (codes "count") []

-- ---- events

pub data Change : Type 0 where
  creation change deletion : Change

abbrev pub change_mark : Change → Mark
change_mark creation = create_mark
change_mark change = update_mark
change_mark deletion = delete_mark

pub data Event : Type 0 where
  on_change : Change → (class : Name) → Event
  on_signal : Name → Event
  on_commit : Event
  at_moment : (time : ℕ) → Event
  every_moment : (first period : ℕ) → Event
  or_event then_event closure_event : (left right : Event) → Event

abbrev pub event_data : Event → Data
event_data (on_change c x) = form_data (spelling (change_mark c)) (string x ∷ [])
event_data (on_signal x) = form_data (codes "signal") (string x ∷ [])
event_data on_commit = form_data (codes "commit") []
event_data (at_moment t) = form_data (codes "at") (natural_data t ∷ [])
event_data (every_moment t n) = form_data (codes "every") (natural_data t ∷ natural_data n ∷ [])
event_data (or_event a b) = form_data (codes "or") (event_data a ∷ event_data b ∷ [])
event_data (then_event a b) = form_data (codes "seq") (event_data a ∷ event_data b ∷ [])
event_data (closure_event a b) = form_data (codes "closure") (event_data a ∷ event_data b ∷ [])

-- ---- rows, aggregates and queries

pub record Rows : Type 0 where
  pub name : Name
  pub class : Name
  pub predicate : Expression

abbrev pub rows_data : Rows → List Data
rows_data r = string r.name ∷ string r.class ∷ expression_data r.predicate ∷ []

pub data Fold : Type 0 where
  total least greatest : Fold

abbrev pub fold_word : Fold → List ℕ
fold_word total = codes "sum"
fold_word least = codes "least"
fold_word greatest = codes "greatest"

pub data Aggregate : Type 0 where
  count_of : Rows → Aggregate
  fold_of : Fold → Rows → (summed : Expression) → Aggregate
  next_key : (class : Name) → Aggregate
  plain : Expression → Aggregate

abbrev pub aggregate_data : Aggregate → Data
aggregate_data (count_of r) = form_data (codes "count") (rows_data r)
aggregate_data (fold_of f r e) = form_data (fold_word f) (string r.name ∷ string r.class ∷ expression_data r.predicate ∷ expression_data e ∷ [])
aggregate_data (next_key c) = form_data (codes "next") (string c ∷ [])
aggregate_data (plain e) = expression_data e

pub data Query : Type 0 where
  some_rows no_rows : Rows → Query
  named_value : Name → Aggregate → Query

abbrev pub query_data : Query → Data
query_data (some_rows r) = list_data (rows_data r)
query_data (no_rows r) = form_data (codes "no") (rows_data r)
query_data (named_value x a) = form_data (codes "let") (string x ∷ aggregate_data a ∷ [])

-- ---- statements

pub data RuleOperation : Type 0 where
  install enable disable remove fire : RuleOperation

abbrev pub operation_mark : RuleOperation → Mark
operation_mark install = install_mark
operation_mark enable = enable_mark
operation_mark disable = disable_mark
operation_mark remove = remove_mark
operation_mark fire = fire_mark

pub data Setting : Type 0 where
  create update : Setting

abbrev pub setting_mark : Setting → Mark
setting_mark create = create_mark
setting_mark update = update_mark

pub record Assignment : Type 0 where
  pub field : Name
  pub value : Expression

mutual
  pub data Statement : Type 0 where
    set_object : Setting → (class : Name) → (key : Expression) → List Assignment → Statement
    delete : (class : Name) → (key : Expression) → Statement
    signal : Name → List Expression → Statement
    emit : Expression → Statement
    when : Expression → (then_body else_body : Body) → Statement
    each : Rows → Body → Statement
    for_answer : (query : Name) → Body → Statement
    with_object : (variable class : Name) → (key : Expression) → Body → Statement
    with_value : Name → Aggregate → Body → Statement
    subtransaction : (body otherwise : Body) → Statement
    abort veto : Statement
    veto_with : Expression → Statement
    on_rule : RuleOperation → (rule : Name) → Statement

  pub data Body : Type 0 where
    empty : Body
    ◌then◌ : Statement → Body → Body

abbrev pub assignment_data : Assignment → Data
assignment_data a = list_data (string a.field ∷ expression_data a.value ∷ [])

abbrev mutual
  pub statement_data : Statement → Data
  statement_data (set_object s c e ps) = form_data (spelling (setting_mark s)) (string c ∷ expression_data e ∷ list_data (map assignment_data ps) ∷ [])
  statement_data (delete c e) = form_data (codes "delete") (string c ∷ expression_data e ∷ [])
  statement_data (signal x es) = form_data (codes "signal") (string x ∷ list_data (map expression_data es) ∷ [])
  statement_data (emit e) = form_data (codes "emit") (expression_data e ∷ [])
  statement_data (when e b c) = form_data (codes "if") (expression_data e ∷ array (body_data b) ∷ array (body_data c) ∷ [])
  statement_data (each r b) = form_data (codes "each") (string r.name ∷ string r.class ∷ expression_data r.predicate ∷ array (body_data b) ∷ [])
  statement_data (for_answer x b) = form_data (codes "for") (string x ∷ array (body_data b) ∷ [])
  statement_data (with_object x c e b) = form_data (codes "with") (string x ∷ string c ∷ expression_data e ∷ array (body_data b) ∷ [])
  statement_data (with_value x a b) = form_data (codes "let") (string x ∷ aggregate_data a ∷ array (body_data b) ∷ [])
  statement_data (subtransaction b c) = form_data (codes "sub") (array (body_data b) ∷ array (body_data c) ∷ [])
  statement_data abort = form_data (codes "abort") []
  statement_data veto = form_data (codes "veto") []
  statement_data (veto_with e) = form_data (codes "veto") (expression_data e ∷ [])
  statement_data (on_rule op x) = form_data (spelling (operation_mark op)) (string x ∷ [])

  pub body_data : Body → Items
  body_data empty = no_items
  body_data (◌then◌ s b) = item (statement_data s) (body_data b)

-- ---- scripts

pub record Field : Type 0 where
  pub name : Name
  pub kind : Kind

abbrev pub kind_word : Kind → List ℕ
kind_word integer_kind = codes "int"
kind_word boolean_kind = codes "bool"
kind_word text_kind = codes "text"

abbrev pub field_data : Field → Data
field_data f = list_data (string f.name ∷ string (kind_word f.kind) ∷ [])

pub record Class : Type 0 where
  pub name : Name
  pub fields : List Field

abbrev pub class_data : Class → Data
class_data c = list_data (string c.name ∷ list_data (map field_data c.fields) ∷ [])

-- a rule, closed or not
pub record Rule : Type 0 where
  pub name : Name
  pub is_closed : Bool
  pub event : Event
  pub event_mode : Coupling
  pub condition : List Query
  pub action_mode : Coupling
  pub action : Body

abbrev pub closed_data : (is_closed : Bool) → List Data
closed_data true = string (codes "closed") ∷ []
closed_data false = []

abbrev pub rule_data : Rule → Data
rule_data r =
    list_data (string r.name ∷ event_data r.event ∷ string (coupling_word r.event_mode) ∷ list_data (map query_data r.condition)
    ∷ string (coupling_word r.action_mode) ∷ array (body_data r.action) ∷ closed_data r.is_closed)

pub data Item : Type 0 where
  transaction : Body → Item
  clock : (time : ℕ) → Item

abbrev pub item_data : Item → Data
item_data (transaction b) = form_data (codes "tx") (array (body_data b) ∷ [])
item_data (clock t) = form_data (codes "clock") (natural_data t ∷ [])

pub record Script : Type 0 where
  pub version : ℕ
  pub depth : Option ℕ
  pub classes : List Class
  pub rules : List Rule
  pub items : List Item

abbrev pub depth_data : Option ℕ → Option Data
depth_data None = None
depth_data (Some n) = Some (natural_data n)

abbrev pub script_data : Script → Data
script_data s =
    root_data (natural_data s.version) (depth_data s.depth) (list_data (map class_data s.classes)) (list_data (map rule_data s.rules)) (list_data (map item_data s.items))
