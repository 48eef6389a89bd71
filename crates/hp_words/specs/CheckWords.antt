-- What the words of the program that checks a rule base mean.
use Rattle.std.specs.Prelude.{◌≡◌, ℕ, List, codes, Bool, Option, Some}
use Rattle.clap.specs.Words.{App, Kinds, Row, fault_of, first_of, matches_of, new_app, with_rule}
use Rattle.hp_words.specs.Words.{accepted, flag_rule, signals_rule, has_flag}

-- a command with `[--text] [--signals FILE]`
abbrev pub check_app : App
check_app = with_rule (with_rule (new_app (codes "program")) (flag_rule (codes "text"))) signals_rule

-- the row of each argument
unfoldable pub check_rows : List (List ℕ) → List Row
check_rows words = matches_of check_app words

-- the kinds of error, one of which is the answer; none if the words are accepted
unfoldable pub check_faults : List (List ℕ) → Kinds
check_faults words = fault_of check_app words

-- whether the script is a text, if the words are accepted
abbrev pub text_for : List (List ℕ) → Option Bool
text_for words = accepted (check_faults words) (Some (has_flag (codes "text") (check_rows words)))

-- the name of the file of signals
abbrev pub signals_for : List (List ℕ) → Option (List ℕ)
signals_for words = first_of (codes "signals") (check_rows words)

-- what some command line says
abbrev pub AreOfCheckWords : (is_text : Bool) → (signals : Option (List ℕ)) → Type 0
AreOfCheckWords is_text signals = (words : List (List ℕ)) × (text_for words ≡ Some is_text) × (signals ≡ signals_for words)
