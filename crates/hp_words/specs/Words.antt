-- What the words of the command line mean, as `clap` reads them.
use Rattle.std.specs.Prelude.{◌≡◌, ℕ, pos, List, [], ◌∷◌, codes, Bool, true, false, ◌&&◌, nat_le, Option, Some, None, if◌then◌else◌}
use Rattle.std.specs.Option.{option_map_or}
use Rattle.std.specs.Str.{bytes_eq}
use Rattle.clap.specs.Words.{App, Kinds, Row, Rule, fault_of, first_of, matches_of, new_app, new_rule, one_of, with_rule}
use Rattle.clap.specs.Walk.{byte_or_zero}
use Rattle.clap.specs.declared.builder.ArgAction.TheVariants.{SetTrue}
use Rattle.clap.specs.declared.builder.value_parser.ValueParser.TheVariants as parser
use Rattle.hp_words.specs.declared.words.Options.{Options}
use Rattle.hp_words.specs.declared.words.WordFault.{WordFault}
use Rattle.hp_words.specs.declared.words.WordFault.TheVariants.{Refused, NoMemory}

-- `--workers N`, of 8 bits; the default is 4
abbrev pub workers_rule : Rule
workers_rule = record (new_rule (codes "workers")) {
  long = Some (codes "workers");
  parser = Some (parser.Signed (pos 0) (pos 255));
  defaults = codes "4" ∷ [];
}

-- `--NAME`
abbrev pub flag_rule : (name : List ℕ) → Rule
flag_rule name = record (new_rule name) { long = Some name; action = Some SetTrue }

-- `--script FILE`
abbrev pub script_rule : Rule
script_rule = record (new_rule (codes "script")) { long = Some (codes "script") }

-- `--signals FILE`
abbrev pub signals_rule : Rule
signals_rule = record (new_rule (codes "signals")) { long = Some (codes "signals") }

-- a command with `[--workers N] [--tree] [--text]`, whose name no text shows
abbrev pub plain_app : App
plain_app = with_rule (with_rule (with_rule (new_app (codes "program")) workers_rule) (flag_rule (codes "tree"))) (flag_rule (codes "text"))

-- the same with `[--script FILE] [--checked] [--signals FILE]`
abbrev pub live_app : App
live_app = with_rule (with_rule (with_rule plain_app script_rule) (flag_rule (codes "checked"))) signals_rule

-- the command of a program that takes a script's file, or doesn't
abbrev pub app : (takes_script : Bool) → App
app takes_script = if takes_script then live_app else plain_app

-- the row of each argument
unfoldable pub rows_for : (takes_script : Bool) → List (List ℕ) → List Row
rows_for takes_script words = matches_of (app takes_script) words

-- the kinds of error, one of which is the answer; none if the words are accepted
unfoldable pub faults_for : (takes_script : Bool) → List (List ℕ) → Kinds
faults_for takes_script words = fault_of (app takes_script) words

abbrev pub number_in : Option (List ℕ) → ℕ
number_in o = option_map_or byte_or_zero o 0

abbrev pub flag_in : Option (List ℕ) → Bool
flag_in o = option_map_or (λ t. bytes_eq t (codes "true")) o false

abbrev pub workers_in : List Row → ℕ
workers_in rows = number_in (one_of (codes "workers") rows)

abbrev pub has_flag : (name : List ℕ) → List Row → Bool
has_flag name rows = flag_in (one_of name rows)

-- the number of workers, which is 1 to 64, whether trees are wanted, and whether scripts are in the text notation
abbrev pub options_in : List Row → Option Options
options_in rows =
    if nat_le 1 (workers_in rows) && nat_le (workers_in rows) 64
    then Some (record { workers = workers_in rows; tree = has_flag (codes "tree") rows; text = has_flag (codes "text") rows })
    else None

-- if the words are accepted
abbrev pub accepted : {A : Type 0} → Kinds → Option A → Option A
accepted [] o = o
accepted (kind ∷ kinds) o = None

abbrev pub options_for : (takes_script : Bool) → List (List ℕ) → Option Options
options_for takes_script words = accepted (faults_for takes_script words) (options_in (rows_for takes_script words))

-- the name of the script's file
abbrev pub script_for : List (List ℕ) → Option (List ℕ)
script_for words = first_of (codes "script") (rows_for true words)

-- whether the rule base is checked
abbrev pub checked_for : List (List ℕ) → Bool
checked_for words = has_flag (codes "checked") (rows_for true words)

-- the name of the file of signals
abbrev pub declared_for : List (List ℕ) → Option (List ℕ)
declared_for words = first_of (codes "signals") (rows_for true words)

-- the options of some command line
abbrev pub AreOfWords : Options → Type 0
AreOfWords options = (words : List (List ℕ)) × (options_for false words ≡ Some options)

-- the options of some command line, its script's file, whether the rule base is checked, and the file of signals
pub record AreOfLiveWords (options : Options) (script : Option (List ℕ)) (checked : Bool) (signals : Option (List ℕ)) : Type 0 where
  pub words : List (List ℕ)
  pub options_are : options_for true words ≡ Some options
  pub script_is : script ≡ script_for words
  pub checked_is : checked ≡ checked_for words
  pub signals_are : signals ≡ declared_for words

-- the program's exit status without options
abbrev pub word_code_of : WordFault → ℕ
word_code_of Refused = 3
word_code_of NoMemory = 4
