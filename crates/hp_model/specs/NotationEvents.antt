-- The text notation of scripts: events.
use Rattle.std.specs.Prelude.{ℕ, zero, suc, List, [], ◌∷◌, codes, true, false, Option, Some, None, Ok, Err}
use Rattle.hp_model.specs.Values.{◌>>=◌}
use Rattle.hp_model.specs.Json.{beside}
use Rattle.hp_model.specs.NotationTokens.{Mark, or_mark, then_mark, until_mark, create_mark, update_mark, delete_mark, signal_mark, open_parenthesis, close_parenthesis, mark, word}
use Rattle.hp_model.specs.NotationTokens.{Tokens, token, place}
use Rattle.hp_model.specs.NotationTree.{Node, form, Phrase}
use Rattle.hp_model.specs.NotationPhrases.{is_mark, is_word, begins, past, passed, name, natural, Operator, most_operators, chain_from}
use Rattle.hp_model.specs.NotationExpressions.{enclosed, too_deep}

-- a free word that begins an event
pub data EventWord : Type 0 where
  commit_word moment_word every_word closure_word : EventWord

abbrev pub event_word : List ℕ → Option EventWord
event_word text = beside text ((codes "commit", commit_word) ∷ (codes "moment", moment_word) ∷ (codes "every", every_word) ∷ (codes "closure", closure_word) ∷ [])

-- a word and a name
abbrev pub of_name : (at : ℕ) → List ℕ → Phrase Node
of_name at tag ts = name ts >>= λ x. Ok (form at tag (x.0 ∷ []), x.1)

-- a word and a number
abbrev pub of_number : (at : ℕ) → List ℕ → Phrase Node
of_number at tag ts = natural ts >>= λ n. Ok (form at tag (n.0 ∷ []), n.1)

-- the period stands first in the text
abbrev pub every : (at : ℕ) → Phrase Node
every at ts = do
  period ← natural ts
  rest ← passed (is_word (codes "from")) period.1
  first ← natural rest
  Ok (form at (codes "every") (first.0 ∷ period.0 ∷ []), first.1)

abbrev pub closure : (inner : Phrase Node) → (at : ℕ) → Phrase Node
closure inner at ts = do
  start ← passed (is_mark open_parenthesis) ts
  each ← inner start
  rest ← passed (is_mark until_mark) each.1
  last ← inner rest
  end ← passed (is_mark close_parenthesis) last.1
  Ok (form at (codes "closure") (each.0 ∷ last.0 ∷ []), end)

abbrev pub marked_event : (inner : Phrase Node) → (at : ℕ) → Mark → Phrase Node
marked_event inner at create_mark ts = of_name at (codes "create") ts
marked_event inner at update_mark ts = of_name at (codes "update") ts
marked_event inner at delete_mark ts = of_name at (codes "delete") ts
marked_event inner at signal_mark ts = of_name at (codes "signal") ts
marked_event inner at open_parenthesis ts = enclosed inner ts
marked_event inner at m ts = Err at

abbrev pub word_event : (inner : Phrase Node) → (at : ℕ) → Option EventWord → Phrase Node
word_event inner at None ts = Err at
word_event inner at (Some commit_word) ts = Ok (form at (codes "commit") [], ts)
word_event inner at (Some moment_word) ts = of_number at (codes "at") ts
word_event inner at (Some every_word) ts = every at ts
word_event inner at (Some closure_word) ts = closure inner at ts

-- an event that isn't `or` or `then`; `inner` reads the events that nest a level deeper
abbrev pub simple_event : (inner : Phrase Node) → Phrase Node
simple_event inner (token at (mark m) ts) = marked_event inner at m ts
simple_event inner (token at (word w) ts) = word_event inner at (event_word w) ts
simple_event inner ts = Err (place ts)

-- a mark that joins two events, with its word in JSON
abbrev pub joint : Mark → List ℕ → Operator
joint m tag ts = elim (begins (is_mark m) ts) [ true ↦ Some (tag, past ts) | false ↦ None ]

-- `or` or `then`, whichever comes first, and no other
abbrev pub event_operator : Tokens → Operator
event_operator ts = elim (begins (is_mark or_mark) ts) [ true ↦ joint or_mark (codes "or") | false ↦ joint then_mark (codes "seq") ]

unfoldable pub event : (inner : Phrase Node) → Phrase Node
event inner ts = simple_event inner ts >>= λ p. chain_from (simple_event inner) (event_operator p.1) most_operators p.0 p.1

-- an event of at most this number of levels
unfoldable pub event_within : ℕ → Phrase Node
event_within zero = too_deep
event_within (suc n) = event (event_within n)

abbrev pub any_event : Phrase Node
any_event = event_within 64
