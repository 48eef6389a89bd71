-- The text notation of scripts: the one canonical text of each form.
use Rattle.std.specs.Prelude.{ℕ, zero, suc, ◌*◌, ℤ, pos, negsuc, Bool, true, false, ◌&&◌, ◌||◌, nat_lt, List, [], ◌∷◌, ◌++◌, codes, decimal, replicate, Option, Some, None, is_some, bytes_eq}
use Rattle.hp_model.specs.Values.{Name}
use Rattle.hp_model.specs.Rules.{Coupling, immediate, deferred, separate, dependent, exclusive}
use Rattle.hp_model.specs.Report.{quoted as quoted_text}
use Rattle.hp_model.specs.NotationTokens.{Mark, on_mark, if_mark, do_mark, where_mark, as_mark, set_mark, else_mark, otherwise_mark, then_mark, until_mark, or_mark, not_mark}
use Rattle.hp_model.specs.NotationTokens.{true_mark, false_mark, new_mark, old_mark, event_mark, key_mark, deferred_mark, separate_mark, dependent_mark, exclusive_mark}
use Rattle.hp_model.specs.NotationTokens.{delete_mark, signal_mark, emit_mark, each_mark, for_mark, with_mark, sub_mark, abort_mark, veto_mark, open_brace, close_brace}
use Rattle.hp_model.specs.NotationTokens.{open_parenthesis, close_parenthesis, open_bracket, close_bracket, comma, colon, point, equal_sign, less_sign, greater_sign, minus_sign}
use Rattle.hp_model.specs.NotationTokens.{spelling, reserved_word, Token, mark, word, quoted, number, string}
use Rattle.hp_model.specs.NotationPhrases.{is_mark, is_word}
use Rattle.hp_model.specs.NotationExpressions.{level_of}
use Rattle.hp_model.specs.NotationStatements.{aggregate_word}
use Rattle.hp_model.specs.NotationForms as F
use Rattle.hp_model.specs.NotationForms.{Operator, either, both, equal, unequal, less, at_most, greater, at_least, plus, minus, times, quotient, remainder, operator_mark, Image}
use Rattle.hp_model.specs.NotationForms.{new_image, old_image, Expression, operation, inverted, negated, field_of, key_of, value, now, image_field, key_in, time_of, argument}
use Rattle.hp_model.specs.NotationForms.{occurrence_count, change_mark, Event, on_change, on_signal, on_commit, at_moment, every_moment, or_event, then_event, closure_event, Rows}
use Rattle.hp_model.specs.NotationForms.{fold_word, Aggregate, count_of, fold_of, next_key, plain, Query, some_rows, no_rows, named_value, operation_mark, setting_mark, Assignment}
use Rattle.hp_model.specs.NotationForms.{Statement, set_object, delete, signal, emit, when, each, for_answer, with_object, with_value, subtransaction, abort, veto, veto_with}
use Rattle.hp_model.specs.NotationForms.{on_rule, Body, empty, ◌then◌, Field, kind_word, Class, Rule, Item, transaction, clock, Script}

-- ---- pieces of text

-- what stands before a token
pub data Gap : Type 0 where
  tight space : Gap
  -- a line feed, and an indentation of this many steps
  line : (depth : ℕ) → Gap
  -- an empty line
  paragraph : Gap

pub record Piece : Type 0 where
  pub gap : Gap
  pub token : Token

-- each function below takes the pieces that follow as its last argument
abbrev pub Pieces : Type 0
Pieces = List Piece

abbrev pub at_gap : Gap → Token → Pieces → Pieces
at_gap gap t k = record { gap = gap; token = t } ∷ k

abbrev pub sign : Gap → Mark → Pieces → Pieces
sign gap m k = at_gap gap (mark m) k

-- a free word of the grammar
abbrev pub free : Gap → List ℕ → Pieces → Pieces
free gap text k = at_gap gap (word text) k

-- a name is in backquotes if its word is reserved
abbrev pub token_of_name : Name → Option Mark → Token
token_of_name x None = word x
token_of_name x (Some m) = quoted x

abbrev pub name_token : Name → Token
name_token x = token_of_name x (reserved_word x)

-- the name of a value is in backquotes if it is `now` too
abbrev pub value_token_of : Name → (is_now : Bool) → Token
value_token_of x true = quoted x
value_token_of x false = name_token x

abbrev pub value_token : Name → Token
value_token x = value_token_of x (bytes_eq x (codes "now"))

abbrev pub name : Gap → Name → Pieces → Pieces
name gap x k = at_gap gap (name_token x) k

abbrev pub natural : Gap → ℕ → Pieces → Pieces
natural gap n k = at_gap gap (number n) k

-- what `own` writes, in parentheses or not
abbrev pub enclosed_if : Bool → (own : Gap → Pieces → Pieces) → Gap → Pieces → Pieces
enclosed_if true own gap k = sign gap open_parenthesis (own tight (sign tight close_parenthesis k))
enclosed_if false own gap k = own gap k

-- parts one after another
abbrev pub each_part : {A : Type 0} → (write : A → Pieces → Pieces) → List A → Pieces → Pieces
each_part write [] k = k
each_part write (x ∷ xs) k = write x (each_part write xs k)

-- parts with a comma before each
abbrev pub more_parts : {A : Type 0} → (write : A → Pieces → Pieces) → List A → Pieces → Pieces
more_parts write xs k = each_part (λ x others. sign tight comma (write x others)) xs k

-- ---- expressions

-- the levels of expressions: 3 of `not`, 7 of what begins with `-`, 8 of all other operands
abbrev pub integer_level : ℤ → ℕ
integer_level (pos n) = 8
integer_level (negsuc n) = 7

abbrev pub expression_level : Expression → ℕ
expression_level (F.integer z) = integer_level z
expression_level (operation op a b) = level_of (operator_mark op)
expression_level (inverted a) = 3
expression_level (negated a) = 7
expression_level e = 8

-- the least levels of an operator's operands without parentheses. `or` and `and` group to the right, relations don't
-- group, and the others group to the left
abbrev pub left_level : Operator → ℕ
left_level either = 2
left_level both = 3
left_level equal = 5
left_level unequal = 5
left_level less = 5
left_level at_most = 5
left_level greater = 5
left_level at_least = 5
left_level plus = 5
left_level minus = 5
left_level times = 6
left_level quotient = 6
left_level remainder = 6

abbrev pub right_level : Operator → ℕ
right_level either = 1
right_level both = 2
right_level equal = 5
right_level unequal = 5
right_level less = 5
right_level at_most = 5
right_level greater = 5
right_level at_least = 5
right_level plus = 6
right_level minus = 6
right_level times = 7
right_level quotient = 7
right_level remainder = 7

-- after the `-` of a `neg` an integer would be read as a negative number
abbrev pub negated_level : Expression → ℕ
negated_level (F.integer z) = 0
negated_level e = expression_level e

-- the first part is left out
abbrev pub part_pieces : ℕ → Pieces → Pieces
part_pieces zero k = k
part_pieces (suc n) k = sign tight open_bracket (natural tight (suc n) (sign tight close_bracket k))

abbrev pub integer_pieces : ℤ → Gap → Pieces → Pieces
integer_pieces (pos n) gap k = natural gap n k
integer_pieces (negsuc n) gap k = sign gap minus_sign (natural tight (suc n) k)

abbrev pub truth_mark : Bool → Mark
truth_mark true = true_mark
truth_mark false = false_mark

abbrev pub image_mark : Image → Mark
image_mark new_image = new_mark
image_mark old_image = old_mark

-- an expression without parentheses round it
abbrev pub expression_pieces : Expression → Gap → Pieces → Pieces
expression_pieces (F.integer z) gap k = integer_pieces z gap k
expression_pieces (F.truth b) gap k = sign gap (truth_mark b) k
expression_pieces (F.text s) gap k = at_gap gap (string s) k
expression_pieces (operation op a b) gap k =
    enclosed_if (nat_lt (expression_level a) (left_level op)) (expression_pieces a) gap
    (sign space (operator_mark op) (enclosed_if (nat_lt (expression_level b) (right_level op)) (expression_pieces b) space k))
expression_pieces (inverted a) gap k = sign gap not_mark (enclosed_if (nat_lt (expression_level a) 3) (expression_pieces a) space k)
expression_pieces (negated a) gap k = sign gap minus_sign (enclosed_if (nat_lt (negated_level a) 8) (expression_pieces a) tight k)
expression_pieces (field_of x f) gap k = name gap x (sign tight point (name tight f k))
expression_pieces (key_of x) gap k = name gap x (sign tight point (sign tight key_mark k))
expression_pieces (value x) gap k = at_gap gap (value_token x) k
expression_pieces now gap k = free gap (codes "now") k
expression_pieces (image_field image i f) gap k = sign gap (image_mark image) (part_pieces i (sign tight point (name tight f k)))
expression_pieces (key_in i) gap k = sign gap event_mark (part_pieces i (sign tight point (sign tight key_mark k)))
expression_pieces (time_of i) gap k = sign gap event_mark (part_pieces i (sign tight point (free tight (codes "time") k)))
expression_pieces (argument i j) gap k =
    sign gap event_mark (part_pieces i (sign tight point (free tight (codes "arg") (sign tight open_parenthesis (natural tight j (sign tight close_parenthesis k))))))
expression_pieces occurrence_count gap k = sign gap event_mark (sign tight point (free tight (codes "count") k))

-- an expression in a place of this level
abbrev pub expression_in : (least : ℕ) → Expression → Gap → Pieces → Pieces
expression_in least e = enclosed_if (nat_lt (expression_level e) least) (expression_pieces e)

abbrev pub first_is : (Token → Bool) → Pieces → Bool
first_is is [] = false
first_is is (p ∷ k) = is p.token

-- an expression, in parentheses if its first token would be read as another word
abbrev pub apart_from : (Token → Bool) → Expression → Gap → Pieces → Pieces
apart_from is e gap k = enclosed_if (first_is is (expression_pieces e gap k)) (expression_pieces e) gap k

-- ---- events

abbrev pub is_or : Event → Bool
is_or (or_event a b) = true
is_or e = false

abbrev pub is_then : Event → Bool
is_then (then_event a b) = true
is_then e = false

-- both operators group to the left, and mix in parentheses only
abbrev pub event_pieces : Event → Gap → Pieces → Pieces
event_pieces (on_change c x) gap k = sign gap (change_mark c) (name space x k)
event_pieces (on_signal x) gap k = sign gap signal_mark (name space x k)
event_pieces on_commit gap k = free gap (codes "commit") k
event_pieces (at_moment t) gap k = free gap (codes "moment") (natural space t k)
event_pieces (every_moment t n) gap k = free gap (codes "every") (natural space n (free space (codes "from") (natural space t k)))
event_pieces (or_event a b) gap k =
    enclosed_if (is_then a) (event_pieces a) gap (sign space or_mark (enclosed_if (is_or b || is_then b) (event_pieces b) space k))
event_pieces (then_event a b) gap k =
    enclosed_if (is_or a) (event_pieces a) gap (sign space then_mark (enclosed_if (is_or b || is_then b) (event_pieces b) space k))
event_pieces (closure_event a b) gap k =
    free gap (codes "closure") (sign tight open_parenthesis (event_pieces a tight (sign space until_mark (event_pieces b space (sign tight close_parenthesis k)))))

-- ---- rows, aggregates and queries

abbrev pub predicate_pieces : Expression → Pieces → Pieces
predicate_pieces (F.truth true) k = k
predicate_pieces e k = sign space where_mark (expression_pieces e space k)

abbrev pub rows_pieces : Rows → Pieces → Pieces
rows_pieces r k = name space r.class (name space r.name (predicate_pieces r.predicate k))

abbrev pub begins_aggregate : Token → Bool
begins_aggregate (word w) = is_some (aggregate_word w)
begins_aggregate t = false

abbrev pub aggregate_pieces : Aggregate → Pieces → Pieces
aggregate_pieces (count_of r) k = free space (codes "count") (rows_pieces r k)
aggregate_pieces (fold_of f r e) k = free space (fold_word f) (expression_pieces e space (free space (codes "over") (rows_pieces r k)))
aggregate_pieces (next_key c) k = free space (codes "next") (name space c k)
aggregate_pieces (plain e) k = apart_from begins_aggregate e space k

abbrev pub binding_pieces : Name → Aggregate → Pieces → Pieces
binding_pieces x a k = at_gap space (value_token x) (sign space equal_sign (aggregate_pieces a k))

abbrev pub query_pieces : Query → Pieces → Pieces
query_pieces (some_rows r) k = free space (codes "some") (rows_pieces r k)
query_pieces (no_rows r) k = free space (codes "no") (rows_pieces r k)
query_pieces (named_value x a) k = free space (codes "let") (binding_pieces x a k)

-- ---- statements

abbrev pub object_pieces : Name → Expression → Pieces → Pieces
object_pieces c e k = name space c (sign tight open_parenthesis (expression_pieces e tight (sign tight close_parenthesis k)))

abbrev pub assignment_pieces : Assignment → Pieces → Pieces
assignment_pieces a k = name space a.field (sign space equal_sign (expression_in 5 a.value space k))

abbrev pub assignments_pieces : List Assignment → Pieces → Pieces
assignments_pieces [] k = k
assignments_pieces (a ∷ others) k = sign space set_mark (assignment_pieces a (more_parts assignment_pieces others k))

abbrev pub argument_pieces : Expression → Pieces → Pieces
argument_pieces e k = expression_pieces e space k

abbrev pub arguments_pieces : List Expression → Pieces → Pieces
arguments_pieces [] k = k
arguments_pieces (e ∷ es) k = sign tight open_parenthesis (expression_pieces e tight (more_parts argument_pieces es (sign tight close_parenthesis k)))

abbrev pub is_empty : Body → Bool
is_empty empty = true
is_empty (◌then◌ s b) = false

-- a body whose last line has this depth; `statements` writes its statements
abbrev pub braced : (is_empty : Bool) → (depth : ℕ) → (statements : Pieces → Pieces) → Pieces → Pieces
braced true depth statements k = sign space open_brace (sign tight close_brace k)
braced false depth statements k = sign space open_brace (statements (sign (line depth) close_brace k))

-- a word and a body, or nothing if the body is empty
abbrev pub body_after : Mark → (is_empty : Bool) → (body : Pieces → Pieces) → Pieces → Pieces
body_after m true body k = k
body_after m false body k = sign space m (body k)

abbrev pub is_let : Token → Bool
is_let t = is_word (codes "let") t

abbrev mutual
  -- a statement at this depth
  pub statement_pieces : Statement → (depth : ℕ) → Pieces → Pieces
  statement_pieces (set_object s c e ps) depth k = sign (line depth) (setting_mark s) (object_pieces c e (assignments_pieces ps k))
  statement_pieces (delete c e) depth k = sign (line depth) delete_mark (object_pieces c e k)
  statement_pieces (signal x es) depth k = sign (line depth) signal_mark (name space x (arguments_pieces es k))
  statement_pieces (emit e) depth k = sign (line depth) emit_mark (expression_pieces e space k)
  statement_pieces (when e b c) depth k =
      sign (line depth) if_mark (expression_pieces e space (braced (is_empty b) depth (statements_pieces b (suc depth))
      (body_after else_mark (is_empty c) (braced (is_empty c) depth (statements_pieces c (suc depth))) k)))
  statement_pieces (each r b) depth k = sign (line depth) each_mark (rows_pieces r (braced (is_empty b) depth (statements_pieces b (suc depth)) k))
  statement_pieces (for_answer x b) depth k = sign (line depth) for_mark (name space x (braced (is_empty b) depth (statements_pieces b (suc depth)) k))
  statement_pieces (with_object x c e b) depth k =
      sign (line depth) with_mark (object_pieces c e (sign space as_mark (name space x (braced (is_empty b) depth (statements_pieces b (suc depth)) k))))
  statement_pieces (with_value x a b) depth k = free (line depth) (codes "let") (binding_pieces x a (braced (is_empty b) depth (statements_pieces b (suc depth)) k))
  statement_pieces (subtransaction b c) depth k =
      sign (line depth) sub_mark (braced (is_empty b) depth (statements_pieces b (suc depth))
      (body_after otherwise_mark (is_empty c) (braced (is_empty c) depth (statements_pieces c (suc depth))) k))
  statement_pieces abort depth k = sign (line depth) abort_mark k
  statement_pieces veto depth k = sign (line depth) veto_mark k
  statement_pieces (veto_with e) depth k = sign (line depth) veto_mark (apart_from is_let e space k)
  statement_pieces (on_rule op x) depth k = sign (line depth) (operation_mark op) (name space x k)

  -- the statements of a body, each on a line of its own
  pub statements_pieces : Body → (depth : ℕ) → Pieces → Pieces
  statements_pieces empty depth k = k
  statements_pieces (◌then◌ s b) depth k = statement_pieces s depth (statements_pieces b depth k)

abbrev pub body_pieces : Body → (depth : ℕ) → Pieces → Pieces
body_pieces b depth = braced (is_empty b) depth (statements_pieces b (suc depth))

-- ---- scripts

abbrev pub field_pieces : Field → Pieces → Pieces
field_pieces f k = name space f.name (sign tight colon (free space (kind_word f.kind) k))

abbrev pub fields_pieces : List Field → Pieces → Pieces
fields_pieces [] k = sign tight close_brace k
fields_pieces (f ∷ fs) k = field_pieces f (more_parts field_pieces fs (sign space close_brace k))

abbrev pub class_pieces : Class → Gap → Pieces → Pieces
class_pieces c gap k = free gap (codes "class") (name space c.name (sign space open_brace (fields_pieces c.fields k)))

abbrev pub later_class_pieces : Class → Pieces → Pieces
later_class_pieces c k = class_pieces c (line 0) k

-- an empty line stands before the first class
abbrev pub classes_pieces : List Class → Pieces → Pieces
classes_pieces [] k = k
classes_pieces (c ∷ cs) k = class_pieces c paragraph (each_part later_class_pieces cs k)

-- the mode `immediate` is left out
abbrev pub mode_pieces : Coupling → Pieces → Pieces
mode_pieces immediate k = k
mode_pieces deferred k = sign space deferred_mark k
mode_pieces separate k = sign space separate_mark k
mode_pieces dependent k = sign space dependent_mark k
mode_pieces exclusive k = sign space exclusive_mark k

abbrev pub closed_pieces : (is_closed : Bool) → Pieces → Pieces
closed_pieces true k = free space (codes "closed") k
closed_pieces false k = k

abbrev pub condition_pieces : Query → Pieces → Pieces
condition_pieces q k = sign (line 1) if_mark (query_pieces q k)

abbrev pub rule_pieces : Rule → Pieces → Pieces
rule_pieces r k =
    free paragraph (codes "rule") (name space r.name (closed_pieces r.is_closed (sign space on_mark (event_pieces r.event space (mode_pieces r.event_mode
    (each_part condition_pieces r.condition (sign (line 1) do_mark (mode_pieces r.action_mode (body_pieces r.action 1 k)))))))))

abbrev pub item_pieces : Item → Gap → Pieces → Pieces
item_pieces (transaction b) gap k = free gap (codes "transaction") (body_pieces b 0 k)
item_pieces (clock t) gap k = free gap (codes "clock") (natural space t k)

abbrev pub later_item_pieces : Item → Pieces → Pieces
later_item_pieces i k = item_pieces i paragraph k

abbrev pub depth_pieces : Option ℕ → Pieces → Pieces
depth_pieces None k = k
depth_pieces (Some n) k = free (line 0) (codes "depth") (natural space n k)

abbrev pub script_pieces : Script → Pieces
script_pieces s =
    free tight (codes "version") (natural space s.version (depth_pieces s.depth (classes_pieces s.classes (each_part rule_pieces s.rules (each_part later_item_pieces s.items [])))))

-- ---- the text of pieces

abbrev pub token_text : Token → List ℕ
token_text (mark m) = spelling m
token_text (word w) = w
token_text (quoted x) = 96 ∷ (x ++ 96 ∷ [])
token_text (number n) = decimal n
token_text (string s) = quoted_text s

-- a step of indentation is two spaces
abbrev pub gap_text : Gap → List ℕ
gap_text tight = []
gap_text space = codes " "
gap_text (line depth) = 10 ∷ replicate (2 * depth) 32
gap_text paragraph = codes "\n\n"

-- letters or digits
abbrev pub is_wordlike : Token → Bool
is_wordlike (mark m) = is_some (reserved_word (spelling m))
is_wordlike (word w) = true
is_wordlike (quoted x) = false
is_wordlike (number n) = true
is_wordlike (string s) = false

-- two tokens that would be read as others if nothing stood between them
abbrev pub would_join : Token → Token → Bool
would_join a b = (is_wordlike a && is_wordlike b) || ((is_mark less_sign a || is_mark greater_sign a) && is_mark equal_sign b)

-- a space stands between two tokens that would join
abbrev pub widened : Gap → Gap
widened tight = space
widened gap = gap

abbrev pub gap_after : Option Token → Token → Gap → Gap
gap_after None t gap = gap
gap_after (Some before) t gap = elim (would_join before t) [ true ↦ widened gap | false ↦ gap ]

abbrev pub text_after : Option Token → Pieces → List ℕ
text_after before [] = []
text_after before (p ∷ ps) = gap_text (gap_after before p.token p.gap) ++ (token_text p.token ++ text_after (Some p.token) ps)

unfoldable pub text_of : Pieces → List ℕ
text_of ps = text_after None ps

-- the canonical text of a script; a line feed ends its last line
unfoldable pub print_script : Script → List ℕ
print_script s = text_of (script_pieces s) ++ 10 ∷ []

-- an item's canonical text, on one line
abbrev pub on_one_line : Gap → Gap
on_one_line (line depth) = space
on_one_line paragraph = space
on_one_line gap = gap

abbrev pub line_of : Pieces → Pieces
line_of [] = []
line_of (p ∷ ps) = record { gap = on_one_line p.gap; token = p.token } ∷ line_of ps

unfoldable pub print_item : Item → List ℕ
print_item i = text_of (line_of (item_pieces i tight []))
