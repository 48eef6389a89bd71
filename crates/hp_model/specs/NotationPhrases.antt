-- The text notation of scripts: names, numbers and lists, of which all phrases consist.
use Rattle.std.specs.Prelude.{ℕ, zero, suc, ◌^◌, pos, Bool, true, false, nat_lt, List, [], ◌∷◌, Option, Some, None, Result, Ok, Err, bytes_eq}
use Rattle.hp_model.specs.Values.{◌>>=◌}
use Rattle.hp_model.specs.NotationTokens.{Mark, same_mark, Token, mark, word, quoted, number, Tokens, token, ending, unreadable, place, comma}
use Rattle.hp_model.specs.NotationTree as T
use Rattle.hp_model.specs.NotationTree.{Node, Nodes, no_nodes, node, form, Phrase}

-- ---- the first token

abbrev pub is_mark : Mark → Token → Bool
is_mark m (mark n) = same_mark n m
is_mark m t = false

-- a word that isn't reserved
abbrev pub is_word : List ℕ → Token → Bool
is_word text (word w) = bytes_eq w text
is_word text t = false

abbrev pub is_number : Token → Bool
is_number (number n) = true
is_number t = false

-- whether the first token is such a one
abbrev pub begins : (Token → Bool) → Tokens → Bool
begins is (token at t ts) = is t
begins is (ending at) = false
begins is (unreadable at) = false

-- the tokens after the first
abbrev pub past : Tokens → Tokens
past (token at t ts) = ts
past (ending at) = ending at
past (unreadable at) = unreadable at

-- the tokens after the first, which must be such a one
abbrev pub passed : (Token → Bool) → Tokens → Result Tokens ℕ
passed is ts = elim (begins is ts) [ true ↦ Ok (past ts) | false ↦ Err (place ts) ]

-- ---- names and numbers

abbrev pub name : Phrase Node
name (token at (word x) ts) = Ok (T.text at x, ts)
name (token at (quoted x) ts) = Ok (T.text at x, ts)
name ts = Err (place ts)

-- a number up to 2^63 - 1
abbrev pub number_at : (at n : ℕ) → Tokens → (fits : Bool) → Result (Node × Tokens) ℕ
number_at at n ts true = Ok (T.integer at (pos n), ts)
number_at at n ts false = Err at

abbrev pub natural : Phrase Node
natural (token at (number n) ts) = number_at at n ts (nat_lt n (2 ^ 63))
natural ts = Err (place ts)

-- ---- lists

-- one part or more, with commas between them; at most so many
abbrev pub listed : (part : Phrase Node) → ℕ → Phrase Nodes
listed part zero ts = Err (place ts)
listed part (suc n) ts = do
  p ← part ts
  elim (begins (is_mark comma) p.1) [
    | true ↦ listed part n (past p.1) >>= λ q. Ok (node p.0 q.0, q.1)
    | false ↦ Ok (node p.0 no_nodes, p.1)
  ]

-- parts, for as long as the first token begins one; at most so many
abbrev pub repeated : (begins_part : Token → Bool) → (part : Phrase Node) → ℕ → Phrase Nodes
repeated begins_part part zero ts = Ok (no_nodes, ts)
repeated begins_part part (suc n) ts = elim (begins begins_part ts) [
  | true ↦ part ts >>= λ p. repeated begins_part part n p.1 >>= λ q. Ok (node p.0 q.0, q.1)
  | false ↦ Ok (no_nodes, ts)
]

-- ---- operators

-- an operator's word in JSON, and the tokens after it
abbrev pub Operator : Type 0
Operator = Tokens → Option (List ℕ × Tokens)

-- a form of two operands, which begins where the left one does
abbrev pub joined : List ℕ → (left right : Node) → Node
joined tag left right = form (T.offset left) tag (left ∷ right ∷ [])

-- the operand on the right of an operator, if there is one
abbrev pub with_right : (right : Phrase Node) → Node → Tokens → Option (List ℕ × Tokens) → Result (Node × Tokens) ℕ
with_right right left ts None = Ok (left, ts)
with_right right left ts (Some op) = right op.1 >>= λ p. Ok (joined op.0 left p.0, p.1)

abbrev pub chained : (operand : Phrase Node) → (more : Node → Phrase Node) → Node → Tokens → Option (List ℕ × Tokens) → Result (Node × Tokens) ℕ
chained operand more left ts None = Ok (left, ts)
chained operand more left ts (Some op) = operand op.1 >>= λ p. more (joined op.0 left p.0) p.1

-- a chain has at most so many operators, which bounds the depth of its tree
abbrev pub most_operators : ℕ
most_operators = 64

-- no operator may follow
abbrev pub unchained : Node → Tokens → Option (List ℕ × Tokens) → Result (Node × Tokens) ℕ
unchained left ts None = Ok (left, ts)
unchained left ts (Some op) = Err (place ts)

-- at most this number of operators and operands after a left operand, grouped to the left
unfoldable pub chain_from : (operand : Phrase Node) → Operator → ℕ → Node → Phrase Node
chain_from operand operator zero left ts = unchained left ts (operator ts)
chain_from operand operator (suc n) left ts = chained operand (chain_from operand operator n) left ts (operator ts)
