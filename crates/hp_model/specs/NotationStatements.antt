-- The text notation of scripts: rows, aggregates, statements and bodies.
use Rattle.std.specs.Prelude.{ℕ, zero, suc, Bool, true, false, List, [], ◌∷◌, codes, Option, Some, None, Ok, Err, bytes_eq}
use Rattle.hp_model.specs.Values.{◌>>=◌}
use Rattle.hp_model.specs.Json.{beside}
use Rattle.hp_model.specs.NotationTokens.{Mark, where_mark, if_mark, as_mark, set_mark, else_mark, otherwise_mark, not_mark, true_mark, false_mark, new_mark, old_mark, event_mark}
use Rattle.hp_model.specs.NotationTokens.{create_mark, update_mark, delete_mark, signal_mark, emit_mark, each_mark, for_mark, with_mark, sub_mark, abort_mark, veto_mark}
use Rattle.hp_model.specs.NotationTokens.{install_mark, enable_mark, disable_mark, remove_mark, fire_mark, open_brace, close_brace, open_parenthesis, close_parenthesis, semicolon}
use Rattle.hp_model.specs.NotationTokens.{equal_sign, minus_sign, Token, mark, word, quoted, number, string, Tokens, token, place, size}
use Rattle.hp_model.specs.NotationTree as T
use Rattle.hp_model.specs.NotationTree.{Node, Nodes, no_nodes, node, form, Phrase}
use Rattle.hp_model.specs.NotationPhrases.{is_mark, is_word, begins, past, passed, name, listed}
use Rattle.hp_model.specs.NotationExpressions.{too_deep, any_expression, any_sum}
use Rattle.hp_model.specs.NotationEvents.{of_name}

-- ---- rows: a class, a name for the row, and what is true of it

pub record Rows : Type 0 where
  pub name : Node
  pub class : Node
  pub predicate : Node

abbrev pub parts_of_rows : Rows → List Node
parts_of_rows r = r.name ∷ r.class ∷ r.predicate ∷ []

-- without `where` it is true of all rows
abbrev pub predicate : Phrase Node
predicate ts = elim (begins (is_mark where_mark) ts) [ true ↦ any_expression (past ts) | false ↦ Ok (T.truth (place ts) true, ts) ]

abbrev pub rows : Phrase Rows
rows ts = do
  c ← name ts
  x ← name c.1
  e ← predicate x.1
  Ok (record { name = x.0; class = c.0; predicate = e.0 }, e.1)

-- ---- aggregates, and what a `let` names

-- a free word that begins an aggregate
pub data AggregateWord : Type 0 where
  count_word next_word : AggregateWord
  over_word : List ℕ → AggregateWord

abbrev pub aggregate_word : List ℕ → Option AggregateWord
aggregate_word text = beside text
    ((codes "count", count_word) ∷ (codes "sum", over_word (codes "sum")) ∷ (codes "least", over_word (codes "least"))
    ∷ (codes "greatest", over_word (codes "greatest")) ∷ (codes "next", next_word) ∷ [])

abbrev pub count : (at : ℕ) → Phrase Node
count at ts = rows ts >>= λ r. Ok (form at (codes "count") (parts_of_rows r.0), r.1)

-- what is summed stands first in the text
abbrev pub over : (at : ℕ) → List ℕ → Phrase Node
over at tag ts = do
  e ← any_expression ts
  rest ← passed (is_word (codes "over")) e.1
  r ← rows rest
  Ok (form at tag (r.0.name ∷ r.0.class ∷ r.0.predicate ∷ e.0 ∷ []), r.1)

abbrev pub word_aggregate : (at : ℕ) → List ℕ → Option AggregateWord → Phrase Node
word_aggregate at w None ts = any_expression (token at (word w) ts)
word_aggregate at w (Some count_word) ts = count at ts
word_aggregate at w (Some next_word) ts = of_name at (codes "next") ts
word_aggregate at w (Some (over_word tag)) ts = over at tag ts

-- an aggregate, or else an expression
unfoldable pub aggregate : Phrase Node
aggregate (token at (word w) ts) = word_aggregate at w (aggregate_word w) ts
aggregate ts = any_expression ts

-- a name that isn't the bare word `now`
abbrev pub value_name : Phrase Node
value_name ts = elim (begins (is_word (codes "now")) ts) [ true ↦ Err (place ts) | false ↦ name ts ]

-- a name and its value
abbrev pub binding : Phrase (Node × Node)
binding ts = do
  x ← value_name ts
  rest ← passed (is_mark equal_sign) x.1
  a ← aggregate rest
  Ok ((x.0, a.0), a.1)

-- ---- objects, and the values of fields

-- a class and a key
abbrev pub object : Phrase (Node × Node)
object ts = do
  c ← name ts
  start ← passed (is_mark open_parenthesis) c.1
  e ← any_expression start
  end ← passed (is_mark close_parenthesis) e.1
  Ok ((c.0, e.0), end)

abbrev pub pair : Phrase Node
pair ts = do
  x ← name ts
  rest ← passed (is_mark equal_sign) x.1
  e ← any_sum rest
  Ok (T.list (T.offset x.0) (T.nodes (x.0 ∷ e.0 ∷ [])), e.1)

-- parts with commas between them, as a list that begins at this place
abbrev pub list_of_parts : (at : ℕ) → (part : Phrase Node) → Phrase Node
list_of_parts at part ts = listed part (size ts) ts >>= λ p. Ok (T.list at p.0, p.1)

abbrev pub empty_list : Phrase Node
empty_list ts = Ok (T.list (place ts) no_nodes, ts)

abbrev pub pairs : Phrase Node
pairs ts = elim (begins (is_mark set_mark) ts) [ true ↦ list_of_parts (place ts) pair (past ts) | false ↦ empty_list ts ]

-- after the parenthesis
abbrev pub some_arguments : (at : ℕ) → Phrase Node
some_arguments at ts = elim (begins (is_mark close_parenthesis) ts) [
  | true ↦ Ok (T.list at no_nodes, past ts)
  | false ↦ list_of_parts at any_expression ts >>= λ p. passed (is_mark close_parenthesis) p.1 >>= λ end. Ok (p.0, end)
]

abbrev pub arguments : Phrase Node
arguments ts = elim (begins (is_mark open_parenthesis) ts) [ true ↦ some_arguments (place ts) (past ts) | false ↦ empty_list ts ]

-- ---- what reads the parts that nest a level deeper: bodies, and the `if` of an `else if`

pub record Deeper : Type 0 where
  pub body : Phrase Node
  pub statement : Phrase Node

-- a body after a word, or an empty one
abbrev pub body_after : Mark → (body : Phrase Node) → Phrase Node
body_after m body ts = elim (begins (is_mark m) ts) [ true ↦ body (past ts) | false ↦ empty_list ts ]

-- `else if ..` is `else { if .. }`
abbrev pub else_body : Deeper → (at : ℕ) → Phrase Node
else_body deeper at ts = elim (begins (is_mark if_mark) ts) [
  | true ↦ deeper.statement ts >>= λ p. Ok (T.list at (node p.0 no_nodes), p.1)
  | false ↦ deeper.body ts
]

abbrev pub otherwise_of_if : Deeper → Phrase Node
otherwise_of_if deeper ts = elim (begins (is_mark else_mark) ts) [ true ↦ else_body deeper (place ts) (past ts) | false ↦ empty_list ts ]

-- ---- statements

abbrev pub setting : (at : ℕ) → List ℕ → Phrase Node
setting at tag ts = do
  o ← object ts
  ps ← pairs o.1
  Ok (form at tag (o.0.0 ∷ o.0.1 ∷ ps.0 ∷ []), ps.1)

abbrev pub deletion : (at : ℕ) → Phrase Node
deletion at ts = object ts >>= λ o. Ok (form at (codes "delete") (o.0.0 ∷ o.0.1 ∷ []), o.1)

abbrev pub signalling : (at : ℕ) → Phrase Node
signalling at ts = do
  x ← name ts
  es ← arguments x.1
  Ok (form at (codes "signal") (x.0 ∷ es.0 ∷ []), es.1)

abbrev pub of_expression : (at : ℕ) → List ℕ → Phrase Node
of_expression at tag ts = any_expression ts >>= λ e. Ok (form at tag (e.0 ∷ []), e.1)

abbrev pub conditional : Deeper → (at : ℕ) → Phrase Node
conditional deeper at ts = do
  e ← any_expression ts
  b ← deeper.body e.1
  c ← otherwise_of_if deeper b.1
  Ok (form at (codes "if") (e.0 ∷ b.0 ∷ c.0 ∷ []), c.1)

abbrev pub each_row : Deeper → (at : ℕ) → Phrase Node
each_row deeper at ts = do
  r ← rows ts
  b ← deeper.body r.1
  Ok (form at (codes "each") (r.0.name ∷ r.0.class ∷ r.0.predicate ∷ b.0 ∷ []), b.1)

abbrev pub each_answer : Deeper → (at : ℕ) → Phrase Node
each_answer deeper at ts = do
  x ← name ts
  b ← deeper.body x.1
  Ok (form at (codes "for") (x.0 ∷ b.0 ∷ []), b.1)

abbrev pub with_object : Deeper → (at : ℕ) → Phrase Node
with_object deeper at ts = do
  o ← object ts
  rest ← passed (is_mark as_mark) o.1
  x ← name rest
  b ← deeper.body x.1
  Ok (form at (codes "with") (x.0 ∷ o.0.0 ∷ o.0.1 ∷ b.0 ∷ []), b.1)

abbrev pub with_value : Deeper → (at : ℕ) → Phrase Node
with_value deeper at ts = do
  v ← binding ts
  b ← deeper.body v.1
  Ok (form at (codes "let") (v.0.0 ∷ v.0.1 ∷ b.0 ∷ []), b.1)

abbrev pub subtransaction : Deeper → (at : ℕ) → Phrase Node
subtransaction deeper at ts = do
  b ← deeper.body ts
  c ← body_after otherwise_mark deeper.body b.1
  Ok (form at (codes "sub") (b.0 ∷ c.0 ∷ []), c.1)

-- what an expression begins with
abbrev pub mark_begins_value : Mark → Bool
mark_begins_value not_mark = true
mark_begins_value true_mark = true
mark_begins_value false_mark = true
mark_begins_value new_mark = true
mark_begins_value old_mark = true
mark_begins_value event_mark = true
mark_begins_value open_parenthesis = true
mark_begins_value minus_sign = true
mark_begins_value m = false

-- after `veto` the bare word `let` begins the next statement
abbrev pub begins_message : Token → Bool
begins_message (mark m) = mark_begins_value m
begins_message (word w) = elim (bytes_eq w (codes "let")) [ true ↦ false | false ↦ true ]
begins_message (quoted x) = true
begins_message (number n) = true
begins_message (string s) = true

-- with a value, if one begins here
abbrev pub veto : (at : ℕ) → Phrase Node
veto at ts = elim (begins begins_message ts) [ true ↦ of_expression at (codes "veto") ts | false ↦ Ok (form at (codes "veto") [], ts) ]

abbrev pub marked_statement : Deeper → (at : ℕ) → Mark → Phrase Node
marked_statement deeper at create_mark ts = setting at (codes "create") ts
marked_statement deeper at update_mark ts = setting at (codes "update") ts
marked_statement deeper at delete_mark ts = deletion at ts
marked_statement deeper at signal_mark ts = signalling at ts
marked_statement deeper at emit_mark ts = of_expression at (codes "emit") ts
marked_statement deeper at if_mark ts = conditional deeper at ts
marked_statement deeper at each_mark ts = each_row deeper at ts
marked_statement deeper at for_mark ts = each_answer deeper at ts
marked_statement deeper at with_mark ts = with_object deeper at ts
marked_statement deeper at sub_mark ts = subtransaction deeper at ts
marked_statement deeper at abort_mark ts = Ok (form at (codes "abort") [], ts)
marked_statement deeper at veto_mark ts = veto at ts
marked_statement deeper at install_mark ts = of_name at (codes "install") ts
marked_statement deeper at enable_mark ts = of_name at (codes "enable") ts
marked_statement deeper at disable_mark ts = of_name at (codes "disable") ts
marked_statement deeper at remove_mark ts = of_name at (codes "remove") ts
marked_statement deeper at fire_mark ts = of_name at (codes "fire") ts
marked_statement deeper at m ts = Err at

abbrev pub word_statement : Deeper → (at : ℕ) → (is_let : Bool) → Phrase Node
word_statement deeper at true ts = with_value deeper at ts
word_statement deeper at false ts = Err at

unfoldable pub statement : Deeper → Phrase Node
statement deeper (token at (mark m) ts) = marked_statement deeper at m ts
statement deeper (token at (word w) ts) = word_statement deeper at (bytes_eq w (codes "let")) ts
statement deeper ts = Err (place ts)

-- ---- bodies

-- a `;` may stand after a statement
abbrev pub past_semicolon : Tokens → Tokens
past_semicolon ts = elim (begins (is_mark semicolon) ts) [ true ↦ past ts | false ↦ ts ]

-- the statements before the closing brace; at most so many
abbrev pub statements : (statement : Phrase Node) → ℕ → Phrase Nodes
statements statement zero ts = Err (place ts)
statements statement (suc n) ts = elim (begins (is_mark close_brace) ts) [
  | true ↦ Ok (no_nodes, past ts)
  | false ↦ statement ts >>= λ p. statements statement n (past_semicolon p.1) >>= λ q. Ok (node p.0 q.0, q.1)
]

unfoldable pub body : (statement : Phrase Node) → Phrase Node
body statement ts = do
  start ← passed (is_mark open_brace) ts
  p ← statements statement (size start) start
  Ok (T.list (place ts) p.0, p.1)

-- what reads bodies of at most this number of levels
unfoldable pub bodies_within : ℕ → Deeper
bodies_within zero = record { body = too_deep; statement = too_deep }
bodies_within (suc n) = record { body = body (statement (bodies_within n)); statement = statement (bodies_within n) }

abbrev pub any_body : Phrase Node
any_body = (bodies_within 64).body
