-- Laws of the text notation. Each is the contract of an empty function.
use Rattle.std.specs.Prelude.{Bool, ◌&&◌, false, codes, bytes_eq, ◌≡◌, ◌≤◌, ◌<◌, ◌^◌, ℕ, suc, max, pos, negsuc, true, List, [], ◌∷◌, ◌++◌, map, Option, Some, None, option_map, Ok, ⊤}
use Rattle.std.specs.Str.{is_utf8}
use Rattle.hp_model.specs.Parts.{is_name}
use Rattle.hp_model.specs.NotationTokens.{Token, mark, word, quoted, number, string, reserved_word, Tokens, token, ending, unreadable, tokens}
use Rattle.hp_model.specs.NotationTree as T
use Rattle.hp_model.specs.NotationScripts.{has_let, read_script, read_line}
use Rattle.hp_model.specs.NotationForms.{Expression, integer, truth, text, operation, inverted, negated, field_of, key_of, value, now, image_field, key_in, time_of, argument}
use Rattle.hp_model.specs.NotationForms.{occurrence_count, Event, on_change, on_signal, on_commit, at_moment, every_moment, or_event, then_event, closure_event, Rows, Aggregate}
use Rattle.hp_model.specs.NotationForms.{count_of, fold_of, next_key, plain, Assignment, Query, some_rows, no_rows, named_value, Field, Class, Rule, Item, transaction, clock}
use Rattle.hp_model.specs.NotationForms.{Script, Statement, set_object, delete, signal, emit, when, each, for_answer, with_object, with_value, subtransaction, abort, veto}
use Rattle.hp_model.specs.NotationForms.{veto_with, on_rule, Body, empty, ◌then◌, script_data, item_data}
use Rattle.hp_model.specs.NotationPrint.{Piece, Pieces, text_of, print_script, print_item}
use Rattle.hp_model.specs.NotationValues.{print_value, print_item_value}

-- ---- tokens

-- a token that some text has
abbrev pub IsSpelt : Token → Type 0
IsSpelt (mark m) = ⊤
IsSpelt (word w) = (is_name w ≡ true) × (reserved_word w ≡ None)
IsSpelt (quoted x) = is_name x ≡ true
IsSpelt (number n) = n ≤ 2 ^ 63
IsSpelt (string s) = is_utf8 s ≡ true

abbrev pub AreSpelt : Pieces → Type 0
AreSpelt [] = ⊤
AreSpelt (p ∷ ps) = IsSpelt p.token × AreSpelt ps

-- the tokens up to the end, if there is no fault
abbrev pub all_tokens : Tokens → Option (List Token)
all_tokens (token at t ts) = option_map (λ others. t ∷ others) (all_tokens ts)
all_tokens (ending at) = Some []
all_tokens (unreadable at) = None

abbrev pub token_of : Piece → Token
token_of p = p.token

-- the tokens of the text of some pieces are their tokens, however they are laid out, and whether or not a line feed ends
-- the text
abbrev pub TokensAreRead : Type 0
TokensAreRead = (ps : Pieces) → AreSpelt ps
    → (all_tokens (tokens (text_of ps)) ≡ Some (map token_of ps)) × (all_tokens (tokens (text_of ps ++ 10 ∷ [])) ≡ Some (map token_of ps))

-- ---- expressions

abbrev pub Fits : ℕ → Type 0
Fits n = n < 2 ^ 63

-- its names are names, its numbers fit in 64 bits and its texts are UTF-8
abbrev pub IsWritableExpression : Expression → Type 0
IsWritableExpression (integer (pos n)) = Fits n
IsWritableExpression (integer (negsuc n)) = Fits n
IsWritableExpression (truth b) = ⊤
IsWritableExpression (text s) = is_utf8 s ≡ true
IsWritableExpression (operation op a b) = IsWritableExpression a × IsWritableExpression b
IsWritableExpression (inverted a) = IsWritableExpression a
IsWritableExpression (negated a) = IsWritableExpression a
IsWritableExpression (field_of x f) = (is_name x ≡ true) × (is_name f ≡ true)
IsWritableExpression (key_of x) = is_name x ≡ true
IsWritableExpression (value x) = is_name x ≡ true
IsWritableExpression now = ⊤
IsWritableExpression (image_field image i f) = Fits i × (is_name f ≡ true)
IsWritableExpression (key_in i) = Fits i
IsWritableExpression (time_of i) = Fits i
IsWritableExpression (argument i j) = Fits i × Fits j
IsWritableExpression occurrence_count = ⊤

-- how many levels it has; an operand without parts has one
abbrev pub expression_levels : Expression → ℕ
expression_levels (operation op a b) = suc (max (expression_levels a) (expression_levels b))
expression_levels (inverted a) = suc (expression_levels a)
expression_levels (negated a) = suc (expression_levels a)
expression_levels e = 1

-- ---- events

abbrev pub IsWritableEvent : Event → Type 0
IsWritableEvent (on_change c x) = is_name x ≡ true
IsWritableEvent (on_signal x) = is_name x ≡ true
IsWritableEvent on_commit = ⊤
IsWritableEvent (at_moment t) = Fits t
IsWritableEvent (every_moment t n) = Fits t × Fits n
IsWritableEvent (or_event a b) = IsWritableEvent a × IsWritableEvent b
IsWritableEvent (then_event a b) = IsWritableEvent a × IsWritableEvent b
IsWritableEvent (closure_event a b) = IsWritableEvent a × IsWritableEvent b

abbrev pub event_levels : Event → ℕ
event_levels (or_event a b) = suc (max (event_levels a) (event_levels b))
event_levels (then_event a b) = suc (max (event_levels a) (event_levels b))
event_levels (closure_event a b) = suc (max (event_levels a) (event_levels b))
event_levels e = 1

-- ---- rows, aggregates and queries

-- an expression that fits into a script: the reader reads at least 32 levels
abbrev pub IsFitExpression : Expression → Type 0
IsFitExpression e = IsWritableExpression e × (expression_levels e ≤ 32)

pub record AreFitRows (r : Rows) : Type 0 where
  pub name : is_name r.name ≡ true
  pub class : is_name r.class ≡ true
  pub predicate : IsFitExpression r.predicate

abbrev pub IsFitAggregate : Aggregate → Type 0
IsFitAggregate (count_of r) = AreFitRows r
IsFitAggregate (fold_of f r e) = AreFitRows r × IsFitExpression e
IsFitAggregate (next_key c) = is_name c ≡ true
IsFitAggregate (plain e) = IsFitExpression e

abbrev pub AreFitAssignments : List Assignment → Type 0
AreFitAssignments [] = ⊤
AreFitAssignments (a ∷ others) = (is_name a.field ≡ true) × IsFitExpression a.value × AreFitAssignments others

abbrev pub AreFitExpressions : List Expression → Type 0
AreFitExpressions [] = ⊤
AreFitExpressions (e ∷ es) = IsFitExpression e × AreFitExpressions es

-- ---- statements

abbrev mutual
  pub IsFitStatement : Statement → Type 0
  IsFitStatement (set_object s c e ps) = (is_name c ≡ true) × IsFitExpression e × AreFitAssignments ps
  IsFitStatement (delete c e) = (is_name c ≡ true) × IsFitExpression e
  IsFitStatement (signal x es) = (is_name x ≡ true) × AreFitExpressions es
  IsFitStatement (emit e) = IsFitExpression e
  IsFitStatement (when e b c) = IsFitExpression e × IsFitBody b × IsFitBody c
  IsFitStatement (each r b) = AreFitRows r × IsFitBody b
  IsFitStatement (for_answer x b) = (is_name x ≡ true) × IsFitBody b
  IsFitStatement (with_object x c e b) = (is_name x ≡ true) × (is_name c ≡ true) × IsFitExpression e × IsFitBody b
  IsFitStatement (with_value x a b) = (is_name x ≡ true) × IsFitAggregate a × IsFitBody b
  IsFitStatement (subtransaction b c) = IsFitBody b × IsFitBody c
  IsFitStatement abort = ⊤
  IsFitStatement veto = ⊤
  IsFitStatement (veto_with e) = IsFitExpression e
  IsFitStatement (on_rule op x) = is_name x ≡ true

  pub IsFitBody : Body → Type 0
  IsFitBody empty = ⊤
  IsFitBody (◌then◌ s b) = IsFitStatement s × IsFitBody b

abbrev mutual
  -- how many levels of bodies stand round the innermost statements, with the statement's own
  pub statement_levels : Statement → ℕ
  statement_levels (when e b c) = suc (max (body_levels b) (body_levels c))
  statement_levels (each r b) = suc (body_levels b)
  statement_levels (for_answer x b) = suc (body_levels b)
  statement_levels (with_object x c e b) = suc (body_levels b)
  statement_levels (with_value x a b) = suc (body_levels b)
  statement_levels (subtransaction b c) = suc (max (body_levels b) (body_levels c))
  statement_levels (set_object s c e ps) = 1
  statement_levels (delete c e) = 1
  statement_levels (signal x es) = 1
  statement_levels (emit e) = 1
  statement_levels abort = 1
  statement_levels veto = 1
  statement_levels (veto_with e) = 1
  statement_levels (on_rule op x) = 1

  pub body_levels : Body → ℕ
  body_levels empty = 1
  body_levels (◌then◌ s b) = max (statement_levels s) (body_levels b)

-- ---- scripts

abbrev pub EachIs : {A : Type 0} → (A → Type 0) → List A → Type 0
EachIs P [] = ⊤
EachIs P (x ∷ xs) = P x × EachIs P xs

-- with a `let` in a condition a row isn't called `let`, and without one there is no such query
abbrev pub IsFitQuery : (lets : Bool) → Query → Type 0
IsFitQuery lets (some_rows r) = AreFitRows r × ((lets && bytes_eq r.name (codes "let")) ≡ false)
IsFitQuery lets (no_rows r) = AreFitRows r
IsFitQuery lets (named_value x a) = (lets ≡ true) × (is_name x ≡ true) × IsFitAggregate a

abbrev pub IsFitField : Field → Type 0
IsFitField f = is_name f.name ≡ true

pub record IsFitClass (c : Class) : Type 0 where
  pub name : is_name c.name ≡ true
  pub fields : EachIs IsFitField c.fields

pub record IsFitRule (lets : Bool) (r : Rule) : Type 0 where
  pub name : is_name r.name ≡ true
  pub event : IsWritableEvent r.event
  pub event_levels : event_levels r.event ≤ 64
  pub condition : EachIs (IsFitQuery lets) r.condition
  pub action : IsFitBody r.action
  pub action_levels : body_levels r.action ≤ 64

abbrev pub IsFitItem : Item → Type 0
IsFitItem (transaction b) = IsFitBody b × (body_levels b ≤ 64)
IsFitItem (clock t) = Fits t

abbrev pub IsFitDepth : Option ℕ → Type 0
IsFitDepth None = ⊤
IsFitDepth (Some n) = Fits n

-- a script that can be written: its names are names, its numbers fit in 64 bits, its texts are UTF-8, and it doesn't
-- nest deeper than the reader reads
pub record IsFitScript (s : Script) : Type 0 where
  pub version : Fits s.version
  pub depth : IsFitDepth s.depth
  pub classes : EachIs IsFitClass s.classes
  pub rules : EachIs (IsFitRule (has_let (pos s.version))) s.rules
  pub items : EachIs IsFitItem s.items

-- the canonical text of a script is read as the script: what was read and what was written have one value in JSON
abbrev pub ScriptsAreRead : Type 0
ScriptsAreRead = (s : Script) → IsFitScript s → (r : T.Script) × (read_script (print_script s) ≡ Ok r) × (T.script_data r ≡ script_data s)

-- no two scripts with different values have one canonical text
abbrev pub TextHasOneMeaning : Type 0
TextHasOneMeaning = (s t : Script) → IsFitScript s → IsFitScript t → print_script s ≡ print_script t → script_data s ≡ script_data t

-- ---- scripts in JSON

-- each script that can be written has a text, from which its value is read
abbrev pub ValuesAreRead : Type 0
ValuesAreRead = (s : Script) → IsFitScript s
    → (text : List ℕ) × (r : T.Script) × (print_value (script_data s) ≡ Some text) × (read_script text ≡ Ok r) × (T.script_data r ≡ script_data s)

-- each value of JSON that has a canonical text is read from it; so is what was read from another text
abbrev pub CanonicalIsFixed : Type 0
CanonicalIsFixed =
    (r : T.Script) (canonical : List ℕ) → print_value (T.script_data r) ≡ Some canonical
    → (again : T.Script) × (read_script canonical ≡ Ok again) × (T.script_data again ≡ T.script_data r)

-- ---- lines

-- the canonical line of an item is read as the item, and is the text of the item's value
abbrev pub LinesAreRead : Type 0
LinesAreRead = (i : Item) → IsFitItem i
    → (n : T.Node) × (print_item_value (item_data i) ≡ Some (print_item i)) × (read_line (print_item i) ≡ Ok n) × (T.data_of n ≡ item_data i)
