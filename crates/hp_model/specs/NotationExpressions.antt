-- The text notation of scripts: expressions. Operators have levels, from 1 for `or` to 6 for products.
use Rattle.std.specs.Prelude.{ℕ, zero, suc, pos, neg_ℤ, ◌==◌, Bool, true, false, List, [], ◌∷◌, codes, Some, None, Ok, Err, bytes_eq, if◌then◌else◌}
use Rattle.hp_model.specs.Values.{◌>>=◌}
use Rattle.hp_model.specs.NotationTokens.{Mark, or_mark, and_mark, not_mark, true_mark, false_mark, new_mark, old_mark, event_mark, key_mark, open_parenthesis, close_parenthesis}
use Rattle.hp_model.specs.NotationTokens.{open_bracket, close_bracket, point, equal_sign, unequal_sign, less_sign, at_most_sign, greater_sign, at_least_sign, plus_sign, minus_sign}
use Rattle.hp_model.specs.NotationTokens.{times_sign, divided_sign, percent_sign, spelling, mark, word, quoted, number, string, token, ending, unreadable, place}
use Rattle.hp_model.specs.NotationTree as T
use Rattle.hp_model.specs.NotationTree.{Node, form, Phrase}
use Rattle.hp_model.specs.NotationPhrases.{is_mark, is_word, is_number, begins, past, passed, name, natural, Operator, with_right, most_operators, chain_from}

-- ---- operators of two operands

-- the level of an operator; 0 of what is none
abbrev pub level_of : Mark → ℕ
level_of or_mark = 1
level_of and_mark = 2
level_of equal_sign = 4
level_of unequal_sign = 4
level_of less_sign = 4
level_of at_most_sign = 4
level_of greater_sign = 4
level_of at_least_sign = 4
level_of plus_sign = 5
level_of minus_sign = 5
level_of times_sign = 6
level_of divided_sign = 6
level_of percent_sign = 6
level_of m = 0

-- an operator of this level
abbrev pub operator : (level : ℕ) → Operator
operator level (token at (mark m) ts) = if level_of m == level then Some (spelling m, ts) else None
operator level ts = None

-- ---- what reads the parts that nest a level deeper

pub record Deeper : Type 0 where
  pub expression : Phrase Node
  pub conjunction : Phrase Node
  pub negation : Phrase Node

-- ---- operands

abbrev pub bracketed : Phrase Node
bracketed ts = do
  n ← natural ts
  rest ← passed (is_mark close_bracket) n.1
  Ok (n.0, rest)

-- `[n]`, which is `[0]` where it is left out
abbrev pub part : Phrase Node
part ts = elim (begins (is_mark open_bracket) ts) [ true ↦ bracketed (past ts) | false ↦ Ok (T.integer (place ts) (pos 0), ts) ]

-- a field of a part's row, as `new[1].stock`
abbrev pub row_field : (at : ℕ) → List ℕ → Phrase Node
row_field at tag ts = do
  p ← part ts
  rest ← passed (is_mark point) p.1
  f ← name rest
  Ok (form at tag (p.0 ∷ f.0 ∷ []), f.1)

abbrev pub argument : (at : ℕ) → (part : Node) → Phrase Node
argument at part ts = do
  rest ← passed (is_mark open_parenthesis) ts
  n ← natural rest
  end ← passed (is_mark close_parenthesis) n.1
  Ok (form at (codes "arg") (part ∷ n.0 ∷ []), end)

-- what a part of the event has
abbrev pub of_part : (at : ℕ) → (part : Node) → Phrase Node
of_part at part ts = elim (begins (is_mark key_mark) ts) [
  | true ↦ Ok (form at (codes "id") (part ∷ []), past ts)
  | false ↦ elim (begins (is_word (codes "time")) ts) [
    | true ↦ Ok (form at (codes "time") (part ∷ []), past ts)
    | false ↦ elim (begins (is_word (codes "arg")) ts) [ true ↦ argument at part (past ts) | false ↦ Err (place ts) ]
  ]
]

abbrev pub of_chosen_part : (at : ℕ) → Phrase Node
of_chosen_part at ts = do
  p ← part ts
  rest ← passed (is_mark point) p.1
  of_part at p.0 rest

-- without a part: the number of occurrences, or what the first part has
abbrev pub of_first_part : (at first : ℕ) → Phrase Node
of_first_part at first ts = elim (begins (is_word (codes "count")) ts) [
  | true ↦ Ok (form at (codes "count") [], past ts)
  | false ↦ of_part at (T.integer first (pos 0)) ts
]

abbrev pub of_event : (at : ℕ) → Phrase Node
of_event at ts = elim (begins (is_mark open_bracket) ts) [
  | true ↦ of_chosen_part at ts
  | false ↦ passed (is_mark point) ts >>= of_first_part at (place ts)
]

-- a name alone: a value, or the moment of the clock
abbrev pub alone : (at : ℕ) → (is_now : Bool) → Node → Node
alone at true x = form at (codes "now") []
alone at false x = form at (codes "value") (x ∷ [])

-- the key or a field of a row
abbrev pub of_row : (at : ℕ) → (row : Node) → Phrase Node
of_row at row ts = elim (begins (is_mark key_mark) ts) [
  | true ↦ Ok (form at (codes "key") (row ∷ []), past ts)
  | false ↦ name ts >>= λ f. Ok (form at (codes "of") (row ∷ f.0 ∷ []), f.1)
]

-- after a name
abbrev pub named : (at : ℕ) → (is_now : Bool) → Node → Phrase Node
named at is_now x ts = elim (begins (is_mark point) ts) [ true ↦ of_row at x (past ts) | false ↦ Ok (alone at is_now x, ts) ]

abbrev pub enclosed : (expression : Phrase Node) → Phrase Node
enclosed expression ts = do
  e ← expression ts
  rest ← passed (is_mark close_parenthesis) e.1
  Ok (e.0, rest)

-- an operand that begins with a reserved word or a symbol
abbrev pub marked_primary : Deeper → (at : ℕ) → Mark → Phrase Node
marked_primary deeper at true_mark ts = Ok (T.truth at true, ts)
marked_primary deeper at false_mark ts = Ok (T.truth at false, ts)
marked_primary deeper at open_parenthesis ts = enclosed deeper.expression ts
marked_primary deeper at new_mark ts = row_field at (codes "new") ts
marked_primary deeper at old_mark ts = row_field at (codes "old") ts
marked_primary deeper at event_mark ts = of_event at ts
marked_primary deeper at m ts = Err at

-- an operand that is no number
abbrev pub primary : Deeper → Phrase Node
primary deeper (token at (mark m) ts) = marked_primary deeper at m ts
primary deeper (token at (word x) ts) = named at (bytes_eq x (codes "now")) (T.text at x) ts
primary deeper (token at (quoted x) ts) = named at false (T.text at x) ts
primary deeper (token at (number n) ts) = Err at
primary deeper (token at (string s) ts) = Ok (T.text at s, ts)
primary deeper (ending at) = Err at
primary deeper (unreadable at) = Err at

-- after a `-`: a number right after it makes a negative one
abbrev pub negative : Deeper → (at : ℕ) → Phrase Node
negative deeper at (token b (number n) ts) = Ok (T.integer at (neg_ℤ (pos n)), ts)
negative deeper at ts = primary deeper ts >>= λ p. Ok (form at (codes "neg") (p.0 ∷ []), p.1)

abbrev pub unary : Deeper → Phrase Node
unary deeper ts = elim (begins (is_mark minus_sign) ts) [
  | true ↦ negative deeper (place ts) (past ts)
  | false ↦ elim (begins is_number ts) [ true ↦ natural ts | false ↦ primary deeper ts ]
]

-- ---- the levels

-- operands with operators between them, grouped to the left
abbrev pub chain : (operand : Phrase Node) → Operator → Phrase Node
chain operand op ts = operand ts >>= λ p. chain_from operand op most_operators p.0 p.1

unfoldable pub product : Deeper → Phrase Node
product deeper = chain (unary deeper) (operator 6)

unfoldable pub sum : Deeper → Phrase Node
sum deeper = chain (product deeper) (operator 5)

-- comparisons don't chain
unfoldable pub comparison : Deeper → Phrase Node
comparison deeper ts = sum deeper ts >>= λ p. with_right (sum deeper) p.0 p.1 (operator 4 p.1)

unfoldable pub negation : Deeper → Phrase Node
negation deeper ts = elim (begins (is_mark not_mark) ts) [
  | true ↦ deeper.negation (past ts) >>= λ p. Ok (form (place ts) (codes "not") (p.0 ∷ []), p.1)
  | false ↦ comparison deeper ts
]

unfoldable pub conjunction : Deeper → Phrase Node
conjunction deeper ts = negation deeper ts >>= λ p. with_right deeper.conjunction p.0 p.1 (operator 2 p.1)

unfoldable pub expression : Deeper → Phrase Node
expression deeper ts = conjunction deeper ts >>= λ p. with_right deeper.expression p.0 p.1 (operator 1 p.1)

-- ---- nesting

abbrev pub too_deep : Phrase Node
too_deep ts = Err (place ts)

-- what reads expressions of at most this number of levels
unfoldable pub expressions_within : ℕ → Deeper
expressions_within zero = record { expression = too_deep; conjunction = too_deep; negation = too_deep }
expressions_within (suc n) = record {
  expression = expression (expressions_within n);
  conjunction = conjunction (expressions_within n);
  negation = negation (expressions_within n);
}

abbrev pub any_expression : Phrase Node
any_expression = (expressions_within 64).expression

-- the value in a `set`, so that no `=` follows the `=`
abbrev pub any_sum : Phrase Node
any_sum = sum (expressions_within 63)
