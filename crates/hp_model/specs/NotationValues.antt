-- The forms of JSON's values, for the canonical text of a script in JSON. A value that is no form of a script has no text.
use Rattle.std.specs.Prelude.{ℕ, zero, suc, ℤ, pos, negsuc, Bool, true, false, List, [], ◌∷◌, map, codes, Option, Some, None, option_map, option_and_then, bytes_eq, if◌then◌else◌, ⊤}
use Rattle.std.specs.Option.{option_or}
use Rattle.std.specs.Str.{is_utf8}
use Rattle.serde_json.specs.Data.{Data, number, boolean, string}
use Rattle.serde_json.specs.Find.{as_str, as_number, as_i64}
use Rattle.hp_model.specs.Values.{fits_64, Kind, integer_kind, boolean_kind, text_kind}
use Rattle.hp_model.specs.Rules.{Coupling, immediate, deferred, separate, dependent, exclusive}
use Rattle.hp_model.specs.Json.{list_of, Form, form_of, pair_of, beside}
use Rattle.hp_model.specs.Parts.{name_of}
use Rattle.hp_model.specs.Decode.{Root, root_of}
use Rattle.hp_model.specs.NotationScripts.{has_let}
use Rattle.hp_model.specs.NotationForms as F
use Rattle.hp_model.specs.NotationForms.{Expression, Operator, either, both, equal, unequal, less, at_most, greater, at_least, plus, minus, times, quotient, remainder}
use Rattle.hp_model.specs.NotationForms.{operator_mark, operation, inverted, negated, field_of, key_of, value, now, image_field, new_image, old_image, key_in, time_of, argument}
use Rattle.hp_model.specs.NotationForms.{occurrence_count, Event, on_change, creation, change, deletion, on_signal, on_commit, at_moment, every_moment, or_event, then_event}
use Rattle.hp_model.specs.NotationForms.{closure_event, Rows, Fold, total, least, greatest, Aggregate, count_of, fold_of, next_key, plain, Query, some_rows, no_rows, named_value}
use Rattle.hp_model.specs.NotationForms.{Assignment, Statement, Setting, create, update, set_object, delete, signal, emit, when, each, for_answer, with_object, with_value}
use Rattle.hp_model.specs.NotationForms.{subtransaction, abort, veto, veto_with, RuleOperation, install, enable, disable, remove, fire, on_rule, Body, empty, ◌then◌, Field, Class}
use Rattle.hp_model.specs.NotationForms.{Rule, Item, transaction, clock, Script}
use Rattle.hp_model.specs.NotationTokens.{spelling}
use Rattle.hp_model.specs.NotationPrint.{print_script, print_item}

-- ---- parts of forms

abbrev pub not_negative : ℤ → Option ℕ
not_negative (pos n) = Some n
not_negative (negsuc n) = None

abbrev pub natural_of : Data → Option ℕ
natural_of d = option_and_then not_negative (option_and_then as_i64 (as_number d))

-- a form of one part, and of two
abbrev pub of_one : {A B : Type 0} → (A → B) → Option A → Option B
of_one make a = option_map make a

abbrev pub of_two : {A B C : Type 0} → (A → B → C) → Option A → Option B → Option C
of_two make a b = option_and_then (λ x. option_map (make x) b) a

abbrev pub of_three : {A B C D : Type 0} → (A → B → C → D) → Option A → Option B → Option C → Option D
of_three make a b c = option_and_then (λ x. of_two (make x) b c) a

-- a table of words
abbrev pub Table : Type 0 → Type 0
Table A = List (List ℕ × (⊤ → Option A))

-- what a table has for a word, which is made only then
abbrev pub chosen : {A : Type 0} → Option (⊤ → Option A) → Option A
chosen None = None
chosen (Some make) = make tt

-- each of some values, if each has a form
abbrev pub each_of : {A : Type 0} → (Data → Option A) → List Data → Option (List A)
each_of read [] = Some []
each_of read (d ∷ ds) = of_two (λ x xs. x ∷ xs) (read d) (each_of read ds)

abbrev pub list_form : {A : Type 0} → (Data → Option A) → Data → Option (List A)
list_form read d = option_and_then (each_of read) (list_of d)

-- ---- expressions

abbrev pub with_word : Operator → List ℕ × Operator
with_word op = (spelling (operator_mark op), op)

abbrev pub all_operators : List Operator
all_operators = either ∷ both ∷ equal ∷ unequal ∷ less ∷ at_most ∷ greater ∷ at_least ∷ plus ∷ minus ∷ times ∷ quotient ∷ remainder ∷ []

abbrev pub operator_of : List ℕ → Option Operator
operator_of word = beside word (map with_word all_operators)

abbrev pub expression_of_none : List ℕ → Option Expression
expression_of_none word = beside word ((codes "now", now) ∷ (codes "count", occurrence_count) ∷ [])

abbrev pub expressions_of_one : (operand : Data → Option Expression) → Data → Table Expression
expressions_of_one operand a =
    (codes "not", λ _. of_one inverted (operand a)) ∷ (codes "neg", λ _. of_one negated (operand a)) ∷ (codes "key", λ _. of_one key_of (name_of a)) ∷
    (codes "value", λ _. of_one value (name_of a)) ∷ (codes "id", λ _. of_one key_in (natural_of a)) ∷ (codes "time", λ _. of_one time_of (natural_of a)) ∷ []

-- the expression of a word and a part, which `operand` reads where it is an expression
abbrev pub expression_of_one : (operand : Data → Option Expression) → List ℕ → Data → Option Expression
expression_of_one operand word a = chosen (beside word (expressions_of_one operand a))

abbrev pub expressions_of_two : Data → Data → Table Expression
expressions_of_two a b =
    (codes "of", λ _. of_two field_of (name_of a) (name_of b)) ∷ (codes "new", λ _. of_two (image_field new_image) (natural_of a) (name_of b)) ∷
    (codes "old", λ _. of_two (image_field old_image) (natural_of a) (name_of b)) ∷ (codes "arg", λ _. of_two argument (natural_of a) (natural_of b)) ∷ []

abbrev pub expression_of_two : (operand : Data → Option Expression) → List ℕ → Data → Data → Option Expression
expression_of_two operand word a b =
    option_or (option_and_then (λ op. of_two (operation op) (operand a) (operand b)) (operator_of word)) (chosen (beside word (expressions_of_two a b)))

abbrev pub expression_of_form : (operand : Data → Option Expression) → List ℕ → List Data → Option Expression
expression_of_form operand word [] = expression_of_none word
expression_of_form operand word (a ∷ []) = expression_of_one operand word a
expression_of_form operand word (a ∷ b ∷ []) = expression_of_two operand word a b
expression_of_form operand word parts = None

-- an integer of 64 bits
abbrev pub fitting : ℤ → Option ℤ
fitting z = if fits_64 z then Some z else None

-- an expression of at most this number of levels
unfoldable pub expression_of : ℕ → Data → Option Expression
expression_of zero d = None
expression_of (suc n) (number z) = option_map F.integer (option_and_then fitting (as_i64 z))
expression_of (suc n) (boolean b) = Some (F.truth b)
expression_of (suc n) (string s) = if is_utf8 s then Some (F.text s) else None
expression_of (suc n) d = option_and_then (λ (f : Form). expression_of_form (expression_of n) f.word f.parts) (form_of d)

abbrev pub any_expression : Data → Option Expression
any_expression = expression_of 32

-- ---- events

abbrev pub events_of_one : Data → Table Event
events_of_one a =
    (codes "create", λ _. of_one (on_change creation) (name_of a)) ∷ (codes "update", λ _. of_one (on_change change) (name_of a)) ∷
    (codes "delete", λ _. of_one (on_change deletion) (name_of a)) ∷ (codes "signal", λ _. of_one on_signal (name_of a)) ∷ (codes "at", λ _. of_one at_moment (natural_of a)) ∷ []

abbrev pub event_of_one : List ℕ → Data → Option Event
event_of_one word a = chosen (beside word (events_of_one a))

abbrev pub events_of_two : (part : Data → Option Event) → Data → Data → Table Event
events_of_two part a b =
    (codes "every", λ _. of_two every_moment (natural_of a) (natural_of b)) ∷ (codes "or", λ _. of_two or_event (part a) (part b)) ∷
    (codes "seq", λ _. of_two then_event (part a) (part b)) ∷ (codes "closure", λ _. of_two closure_event (part a) (part b)) ∷ []

abbrev pub event_of_two : (part : Data → Option Event) → List ℕ → Data → Data → Option Event
event_of_two part word a b = chosen (beside word (events_of_two part a b))

abbrev pub event_of_form : (part : Data → Option Event) → List ℕ → List Data → Option Event
event_of_form part word [] = if bytes_eq word (codes "commit") then Some on_commit else None
event_of_form part word (a ∷ []) = event_of_one word a
event_of_form part word (a ∷ b ∷ []) = event_of_two part word a b
event_of_form part word parts = None

-- an event of at most this number of levels
unfoldable pub event_of : ℕ → Data → Option Event
event_of zero d = None
event_of (suc n) d = option_and_then (λ (f : Form). event_of_form (event_of n) f.word f.parts) (form_of d)

-- ---- rows, aggregates and queries

abbrev pub rows_of : (name class predicate : Data) → Option Rows
rows_of x c e = of_three (λ a b p. record { name = a; class = b; predicate = p }) (name_of x) (name_of c) (any_expression e)

abbrev pub fold_named : List ℕ → Option Fold
fold_named word = beside word ((codes "sum", total) ∷ (codes "least", least) ∷ (codes "greatest", greatest) ∷ [])

abbrev pub aggregate_of_form : List ℕ → List Data → Option Aggregate
aggregate_of_form word (a ∷ []) = if bytes_eq word (codes "next") then of_one next_key (name_of a) else None
aggregate_of_form word (x ∷ c ∷ e ∷ []) = if bytes_eq word (codes "count") then of_one count_of (rows_of x c e) else None
aggregate_of_form word (x ∷ c ∷ e ∷ v ∷ []) = option_and_then (λ f. of_two (fold_of f) (rows_of x c e) (any_expression v)) (fold_named word)
aggregate_of_form word parts = None

-- an aggregate, or else an expression
abbrev pub aggregate_of : Data → Option Aggregate
aggregate_of d = option_or (option_and_then (λ (f : Form). aggregate_of_form f.word f.parts) (form_of d)) (of_one plain (any_expression d))

abbrev pub rows_in : List Data → Option Rows
rows_in (x ∷ c ∷ e ∷ []) = rows_of x c e
rows_in ds = None

abbrev pub query_of_form : (lets : Bool) → List ℕ → List Data → Option Query
query_of_form lets word (x ∷ c ∷ e ∷ []) = if bytes_eq word (codes "no") then of_one no_rows (rows_of x c e) else None
query_of_form true word (x ∷ a ∷ []) = if bytes_eq word (codes "let") then of_two named_value (name_of x) (aggregate_of a) else None
query_of_form lets word parts = None

-- with a `let` in conditions, three parts that begin with `let` are one
abbrev pub is_let_form : (lets : Bool) → Form → Bool
is_let_form true f = bytes_eq f.word (codes "let")
is_let_form false f = false

abbrev pub query_unless_let : (is_let : Bool) → (other some : Option Query) → Option Query
query_unless_let true other some = other
query_unless_let false other some = option_or other some

abbrev pub query_of_list : (lets : Bool) → List Data → Form → Option Query
query_of_list lets ds f = query_unless_let (is_let_form lets f) (query_of_form lets f.word f.parts) (of_one some_rows (rows_in ds))

abbrev pub query_of : (lets : Bool) → Data → Option Query
query_of lets d = option_and_then (λ ds. option_and_then (query_of_list lets ds) (form_of d)) (list_of d)

-- ---- statements

abbrev pub assignment_of : Data → Option Assignment
assignment_of d = option_and_then (λ (p : Data × Data). of_two (λ x e. record { field = x; value = e }) (name_of p.0) (any_expression p.1)) (pair_of d)

abbrev pub rule_operations : List (List ℕ × RuleOperation)
rule_operations = (codes "install", install) ∷ (codes "enable", enable) ∷ (codes "disable", disable) ∷ (codes "remove", remove) ∷ (codes "fire", fire) ∷ []

abbrev pub rule_operation_of : List ℕ → Option RuleOperation
rule_operation_of word = beside word rule_operations

abbrev pub statement_of_none : List ℕ → Option Statement
statement_of_none word = beside word ((codes "abort", abort) ∷ (codes "veto", veto) ∷ [])

abbrev pub statements_of_one : Data → Table Statement
statements_of_one a =
    (codes "emit", λ _. of_one emit (any_expression a)) ∷ (codes "veto", λ _. of_one veto_with (any_expression a)) ∷ []

abbrev pub statement_of_one : List ℕ → Data → Option Statement
statement_of_one word a =
    option_or (option_and_then (λ op. of_one (on_rule op) (name_of a)) (rule_operation_of word))
    (chosen (beside word (statements_of_one a)))

abbrev pub statements_of_two : (inner : Data → Option Body) → Data → Data → Table Statement
statements_of_two inner a b =
    (codes "delete", λ _. of_two delete (name_of a) (any_expression b)) ∷ (codes "signal", λ _. of_two signal (name_of a) (list_form any_expression b))
    ∷ (codes "for", λ _. of_two for_answer (name_of a) (inner b)) ∷ (codes "sub", λ _. of_two subtransaction (inner a) (inner b)) ∷ []

-- `inner` reads the bodies that nest a level deeper
abbrev pub statement_of_two : (inner : Data → Option Body) → List ℕ → Data → Data → Option Statement
statement_of_two inner word a b = chosen (beside word (statements_of_two inner a b))

abbrev pub statements_of_three : (inner : Data → Option Body) → Data → Data → Data → Table Statement
statements_of_three inner a b c =
    (codes "create", λ _. of_three (set_object create) (name_of a) (any_expression b) (list_form assignment_of c)) ∷
    (codes "update", λ _. of_three (set_object update) (name_of a) (any_expression b) (list_form assignment_of c)) ∷
    (codes "if", λ _. of_three when (any_expression a) (inner b) (inner c)) ∷ (codes "let", λ _. of_three with_value (name_of a) (aggregate_of b) (inner c)) ∷ []

abbrev pub statement_of_three : (inner : Data → Option Body) → List ℕ → Data → Data → Data → Option Statement
statement_of_three inner word a b c = chosen (beside word (statements_of_three inner a b c))

abbrev pub statements_of_four : (inner : Data → Option Body) → Data → Data → Data → Data → Table Statement
statements_of_four inner a b c d =
    (codes "each", λ _. of_two each (rows_of a b c) (inner d)) ∷ (codes "with", λ _. option_and_then (λ x. of_three (with_object x) (name_of b) (any_expression c) (inner d)) (name_of a)) ∷ []

abbrev pub statement_of_four : (inner : Data → Option Body) → List ℕ → Data → Data → Data → Data → Option Statement
statement_of_four inner word a b c d = chosen (beside word (statements_of_four inner a b c d))

abbrev pub statement_of_form : (inner : Data → Option Body) → List ℕ → List Data → Option Statement
statement_of_form inner word [] = statement_of_none word
statement_of_form inner word (a ∷ []) = statement_of_one word a
statement_of_form inner word (a ∷ b ∷ []) = statement_of_two inner word a b
statement_of_form inner word (a ∷ b ∷ c ∷ []) = statement_of_three inner word a b c
statement_of_form inner word (a ∷ b ∷ c ∷ d ∷ []) = statement_of_four inner word a b c d
statement_of_form inner word parts = None

abbrev pub body_in : List Statement → Body
body_in [] = empty
body_in (s ∷ ss) = ◌then◌ s (body_in ss)

-- a body of at most this number of levels
unfoldable pub body_of : ℕ → Data → Option Body
body_of zero d = None
body_of (suc n) d = option_map body_in (list_form (λ s. option_and_then (λ (f : Form). statement_of_form (body_of n) f.word f.parts) (form_of s)) d)

abbrev pub any_body : Data → Option Body
any_body = body_of 64

-- ---- scripts

abbrev pub kind_named : List ℕ → Option Kind
kind_named word = beside word ((codes "int", integer_kind) ∷ (codes "bool", boolean_kind) ∷ (codes "text", text_kind) ∷ [])

abbrev pub field_form : Data → Option Field
field_form d = option_and_then (λ (p : Data × Data). of_two (λ x k. record { name = x; kind = k }) (name_of p.0) (option_and_then kind_named (as_str p.1))) (pair_of d)

abbrev pub class_form : Data → Option Class
class_form d = option_and_then (λ (p : Data × Data). of_two (λ x fs. record { name = x; fields = fs }) (name_of p.0) (list_form field_form p.1)) (pair_of d)

abbrev pub mode_named : List ℕ → Option Coupling
mode_named word = beside word
    ((codes "immediate", immediate) ∷ (codes "deferred", deferred) ∷ (codes "separate", separate) ∷ (codes "dependent", dependent) ∷ (codes "exclusive", exclusive) ∷ [])

abbrev pub mode_of : Data → Option Coupling
mode_of d = option_and_then mode_named (as_str d)

-- the seventh part of a rule, if there is one
abbrev pub closed_of : List Data → Option Bool
closed_of [] = Some false
closed_of (d ∷ []) = option_and_then (λ word. if bytes_eq word (codes "closed") then Some true else None) (as_str d)
closed_of ds = None

abbrev pub rule_of_parts : (lets : Bool) → (x e m qs k b : Data) → List Data → Option Rule
rule_of_parts lets x e m qs k b c = option_and_then
    (λ is_closed. option_and_then
    (λ name. option_and_then
    (λ event. option_and_then
    (λ event_mode. of_three
    (λ condition action_mode action.
    record { name = name; is_closed = is_closed; event = event; event_mode = event_mode; condition = condition; action_mode = action_mode; action = action })
    (list_form (query_of lets) qs) (mode_of k) (any_body b))
    (mode_of m))
    (event_of 64 e))
    (name_of x))
    (closed_of c)

abbrev pub rule_in : (lets : Bool) → List Data → Option Rule
rule_in lets (x ∷ e ∷ m ∷ qs ∷ k ∷ b ∷ c) = rule_of_parts lets x e m qs k b c
rule_in lets ds = None

abbrev pub rule_form : (lets : Bool) → Data → Option Rule
rule_form lets d = option_and_then (rule_in lets) (list_of d)

abbrev pub items_of_one : Data → Table Item
items_of_one a =
    (codes "tx", λ _. of_one transaction (any_body a)) ∷ (codes "clock", λ _. of_one clock (natural_of a)) ∷ []

abbrev pub item_in : List ℕ → List Data → Option Item
item_in word (a ∷ []) = chosen (beside word (items_of_one a))
item_in word parts = None

unfoldable pub item_form : Data → Option Item
item_form d = option_and_then (λ (f : Form). item_in f.word f.parts) (form_of d)

abbrev pub depth_form : Option Data → Option (Option ℕ)
depth_form None = Some None
depth_form (Some d) = option_map Some (natural_of d)

abbrev pub script_with : (version : ℕ) → (depth : Option ℕ) → List Class → List Rule → List Item → Script
script_with version depth classes rules items = record { version = version; depth = depth; classes = classes; rules = rules; items = items }

abbrev pub script_of_version : Root → ℕ → Option Script
script_of_version root version = option_and_then
    (λ depth. of_three (script_with version depth)
    (list_form class_form root.classes) (list_form (rule_form (has_let (pos version))) root.rules) (list_form item_form root.items))
    (depth_form root.depth)

-- the script's form of a value, if it has one
unfoldable pub script_form : Data → Option Script
script_form d = option_and_then (λ root. option_and_then (script_of_version root) (natural_of root.version)) (root_of d)

-- the canonical text of a script in JSON, and of an item
abbrev pub print_value : Data → Option (List ℕ)
print_value d = option_map print_script (script_form d)

abbrev pub print_item_value : Data → Option (List ℕ)
print_item_value d = option_map print_item (item_form d)
