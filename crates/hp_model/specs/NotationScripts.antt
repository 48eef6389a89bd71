-- The text notation of scripts: classes, rules, items and scripts, and the lines to a running rule base.
use Rattle.std.specs.Prelude.{ℕ, ℤ, pos, negsuc, Bool, true, false, ◌&&◌, ◌||◌, nat_le, List, [], ◌∷◌, codes, Option, Some, None, Result, Ok, Err, bytes_eq}
use Rattle.hp_model.specs.Values.{◌>>=◌}
use Rattle.hp_model.specs.Json.{beside}
use Rattle.hp_model.specs.NotationTokens.{Mark, on_mark, if_mark, do_mark, immediate_mark, deferred_mark, separate_mark, dependent_mark, exclusive_mark, open_brace, close_brace}
use Rattle.hp_model.specs.NotationTokens.{colon, spelling, Token, mark, word, quoted, Tokens, token, ending, place, size, tokens}
use Rattle.hp_model.specs.NotationTree as T
use Rattle.hp_model.specs.NotationTree.{Node, Nodes, no_nodes, node, form, Phrase, Script}
use Rattle.hp_model.specs.NotationPhrases.{is_mark, is_word, begins, past, passed, name, natural, repeated}
use Rattle.hp_model.specs.NotationEvents.{of_number, any_event}
use Rattle.hp_model.specs.NotationStatements.{Rows, parts_of_rows, rows, binding, list_of_parts, any_body}

-- ---- classes

abbrev pub is_kind : Token → Bool
is_kind t = is_word (codes "int") t || (is_word (codes "bool") t || is_word (codes "text") t)

abbrev pub kind_at : (is_one : Bool) → Phrase Node
kind_at true (token at (word w) ts) = Ok (T.text at w, ts)
kind_at is_one ts = Err (place ts)

abbrev pub kind : Phrase Node
kind ts = kind_at (begins is_kind ts) ts

abbrev pub field : Phrase Node
field ts = do
  x ← name ts
  rest ← passed (is_mark colon) x.1
  k ← kind rest
  Ok (T.list (T.offset x.0) (T.nodes (x.0 ∷ k.0 ∷ [])), k.1)

abbrev pub is_name : Token → Bool
is_name (word x) = true
is_name (quoted x) = true
is_name t = false

abbrev pub fields : (at : ℕ) → Phrase Node
fields at ts = elim (begins is_name ts) [ true ↦ list_of_parts at field ts | false ↦ Ok (T.list at no_nodes, ts) ]

-- after the word `class`, which begins at this place
abbrev pub class_from : (at : ℕ) → Phrase Node
class_from at ts = do
  x ← name ts
  start ← passed (is_mark open_brace) x.1
  fs ← fields (place x.1) start
  end ← passed (is_mark close_brace) fs.1
  Ok (T.list at (T.nodes (x.0 ∷ fs.0 ∷ [])), end)

unfoldable pub class : Phrase Node
class ts = passed (is_word (codes "class")) ts >>= class_from (place ts)

-- ---- rules

abbrev pub is_mode : Mark → Bool
is_mode immediate_mark = true
is_mode deferred_mark = true
is_mode separate_mark = true
is_mode dependent_mark = true
is_mode exclusive_mark = true
is_mode m = false

abbrev pub mode_at : (at : ℕ) → Mark → (is_mode : Bool) → (whole rest : Tokens) → Node × Tokens
mode_at at m true whole rest = (T.text at (spelling m), rest)
mode_at at m false whole rest = (T.text at (codes "immediate"), whole)

-- a mode that isn't there is `immediate`
abbrev pub mode : Tokens → Node × Tokens
mode (token at (mark m) ts) = mode_at at m (is_mode m) (token at (mark m) ts) ts
mode ts = (T.text (place ts) (codes "immediate"), ts)

-- a free word that begins a query
pub data QueryWord : Type 0 where
  some_word no_word let_word : QueryWord

abbrev pub query_word : List ℕ → Option QueryWord
query_word text = beside text ((codes "some", some_word) ∷ (codes "no", no_word) ∷ (codes "let", let_word) ∷ [])

-- from version 4 on a condition may have a `let`
abbrev pub has_let : ℤ → Bool
has_let (pos n) = nat_le 4 n
has_let (negsuc n) = false

abbrev pub is_let : Node → Bool
is_let (T.text at s) = bytes_eq s (codes "let")
is_let n = false

-- a row that is called `let` would be read as a `let` in JSON
abbrev pub some_rows : (at : ℕ) → Rows → Tokens → (is_misread : Bool) → Result (Node × Tokens) ℕ
some_rows at r ts true = Err (T.offset r.name)
some_rows at r ts false = Ok (T.list at (T.nodes (parts_of_rows r)), ts)

abbrev pub no_rows : (at : ℕ) → Phrase Node
no_rows at ts = rows ts >>= λ r. Ok (form at (codes "no") (parts_of_rows r.0), r.1)

abbrev pub named_value : (at : ℕ) → (is_allowed : Bool) → Phrase Node
named_value at true ts = binding ts >>= λ v. Ok (form at (codes "let") (v.0.0 ∷ v.0.1 ∷ []), v.1)
named_value at false ts = Err at

abbrev pub word_query : (lets : Bool) → (at : ℕ) → Option QueryWord → Phrase Node
word_query lets at None ts = Err at
word_query lets at (Some some_word) ts = rows ts >>= λ r. some_rows at r.0 r.1 (lets && is_let r.0.name)
word_query lets at (Some no_word) ts = no_rows at ts
word_query lets at (Some let_word) ts = named_value at lets ts

abbrev pub query : (lets : Bool) → Phrase Node
query lets (token at (word w) ts) = word_query lets at (query_word w) ts
query lets ts = Err (place ts)

-- after `if`
unfoldable pub condition : (lets : Bool) → Phrase Node
condition lets ts = passed (is_mark if_mark) ts >>= query lets

-- the name of the fault-proof form, if it stands here
abbrev pub closed : Tokens → List Node × Tokens
closed ts = elim (begins (is_word (codes "closed")) ts) [ true ↦ (T.text (place ts) (codes "closed") ∷ [], past ts) | false ↦ ([], ts) ]

-- after the word `rule`, which begins at this place
abbrev pub rule_from : (lets : Bool) → (at : ℕ) → Phrase Node
rule_from lets at ts = do
  x ← name ts
  let c = closed x.1
  start ← passed (is_mark on_mark) c.1
  e ← any_event start
  let m = mode e.1
  qs ← repeated (is_mark if_mark) (condition lets) (size m.1) m.1
  rest ← passed (is_mark do_mark) qs.1
  let k = mode rest
  b ← any_body k.1
  Ok (T.list at (T.nodes (x.0 ∷ e.0 ∷ m.0 ∷ T.list (place m.1) qs.0 ∷ k.0 ∷ b.0 ∷ c.0)), b.1)

unfoldable pub rule : (lets : Bool) → Phrase Node
rule lets ts = passed (is_word (codes "rule")) ts >>= rule_from lets (place ts)

-- ---- items

abbrev pub is_item : Token → Bool
is_item t = is_word (codes "transaction") t || is_word (codes "clock") t

abbrev pub transaction : (at : ℕ) → Phrase Node
transaction at ts = any_body ts >>= λ b. Ok (form at (codes "tx") (b.0 ∷ []), b.1)

unfoldable pub item : Phrase Node
item ts = elim (begins (is_word (codes "transaction")) ts) [
  | true ↦ transaction (place ts) (past ts)
  | false ↦ passed (is_word (codes "clock")) ts >>= of_number (place ts) (codes "clock")
]

-- ---- the whole text

abbrev pub ended : Tokens → Result ℕ ℕ
ended (ending at) = Ok at
ended ts = Err (place ts)

abbrev pub depth : Tokens → Result (Option Node × Tokens) ℕ
depth ts = elim (begins (is_word (codes "depth")) ts) [ true ↦ natural (past ts) >>= λ n. Ok (Some n.0, n.1) | false ↦ Ok (None, ts) ]

abbrev pub integer_of : Node → ℤ
integer_of (T.integer at z) = z
integer_of n = pos 0

-- parts that each begin with such a token, as a list
abbrev pub all : (begins_part : Token → Bool) → (part : Phrase Node) → Phrase Node
all begins_part part ts = repeated begins_part part (size ts) ts >>= λ p. Ok (T.list (place ts) p.0, p.1)

unfoldable pub script : Tokens → Result Script ℕ
script ts = do
  start ← passed (is_word (codes "version")) ts
  v ← natural start
  d ← depth v.1
  cs ← all (is_word (codes "class")) class d.1
  rs ← all (is_word (codes "rule")) (rule (has_let (integer_of v.0))) cs.1
  is ← all is_item item rs.1
  end ← ended is.1
  Ok (record { at = place ts; version = v.0; depth = d.0; classes = cs.0; rules = rs.0; items = is.0 })

-- an item, or `show`
unfoldable pub line : Tokens → Result Node ℕ
line ts = elim (begins (is_word (codes "show")) ts) [
  | true ↦ ended (past ts) >>= λ end. Ok (form (place ts) (codes "show") [])
  | false ↦ item ts >>= λ p. ended p.1 >>= λ end. Ok p.0
]

-- ---- bytes

-- the script that a text is, or the offset of the first fault
unfoldable pub read_script : List ℕ → Result Script ℕ
read_script bytes = script (tokens bytes)

unfoldable pub read_line : List ℕ → Result Node ℕ
read_line bytes = line (tokens bytes)
