-- What the words of the command line ask for.
use Rattle.std.specs.Prelude.{◌≡◌, ⊤, ℕ, List, [], Bool, true, false, Option, Some, None, Ok, is_some}
use Rattle.hp_model.specs.Kinds.{Declared}
use Rattle.hp_analysis.specs.Declarations.{declared}
use Rattle.hp_analysis.specs.declared.kinds.declaration.Declaration.{Declaration}
use Rattle.hp_signals.specs.Mapped.{AreOfBytes}
use Rattle.hp_signals.specs.Exits.{code_of_signals}
use Rattle.hp_lines.specs.Live.{Manner}
use Rattle.hp_words.specs.Words.{AreOfLiveWords, word_code_of}
use Rattle.hp_words.specs.declared.words.Options.{Options}
use Rattle.hp_words.specs.declared.words.WordFault.TheVariants.{Refused}
use Rattle.hipac_live.specs.declared.asked.Asked.{Asked}
use Rattle.hipac_live.specs.declared.asked.Unasked.{Unasked}
use Rattle.hipac_live.specs.declared.asked.Unasked.TheVariants.{Words, Script, Signals}

-- how lines are read and answered, by what is declared of signals, if the rule base is checked
abbrev pub manner_of : Options → Option Declared → Manner
manner_of options checks = record { is_text = options.text; with_tree = options.tree; checks = checks }

-- what is given, if the rule base is checked: the signals of some bytes, if a file is named, and else none. A file
-- that is named asks for checks
abbrev pub AreGiven : (name : Option (List ℕ)) → (checked : Bool) → (given : Option Declaration) → Type 0
AreGiven (Some name) checked (Some given) = AreOfBytes (Ok given)
AreGiven None true (Some given) = (declared given).signatures ≡ []
AreGiven None false None = ⊤
AreGiven name checked given = ⊥

-- the options are those of some command line, the script has bytes exactly if it names its file, and the signals are
-- those of the file that it names
pub record IsOfWords (asked : Asked) : Type 0 where
  pub name : Option (List ℕ)
  pub signals : Option (List ℕ)
  pub checked : Bool
  pub words : AreOfLiveWords asked.options name checked signals
  pub bytes : is_some asked.script ≡ is_some name
  pub given : AreGiven signals checked asked.given

-- the program's exit status where nothing is asked
abbrev pub code_unasked : Unasked → ℕ
code_unasked (Words fault) = word_code_of fault
code_unasked Script = word_code_of Refused
code_unasked (Signals fault) = code_of_signals fault
