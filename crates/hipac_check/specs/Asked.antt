-- What the words of the command line ask for.
use Rattle.std.specs.Prelude.{◌≡◌, ℕ, List, [], Option, Some, None, Ok}
use Rattle.hp_signals.specs.Mapped.{AreOfBytes}
use Rattle.hp_signals.specs.Exits.{code_of_signals}
use Rattle.hp_analysis.specs.Declarations.{declared}
use Rattle.hp_analysis.specs.declared.kinds.declaration.Declaration.{Declaration}
use Rattle.hp_words.specs.CheckWords.{AreOfCheckWords}
use Rattle.hp_words.specs.Words.{word_code_of}
use Rattle.hipac_check.specs.declared.asked.Asked.{Asked}
use Rattle.hipac_check.specs.declared.asked.Unasked.{Unasked}
use Rattle.hipac_check.specs.declared.asked.Unasked.TheVariants.{Words, Signals}

-- the signals are those of some bytes if a file is named, and else none are declared
abbrev pub AreOfFile : Option (List ℕ) → Declaration → Type 0
AreOfFile None signals = (declared signals).signatures ≡ []
AreOfFile (Some name) signals = AreOfBytes (Ok signals)

-- whether the script is a text is what some command line says, and the signals are those of the file that it names
pub record IsOfWords (asked : Asked) : Type 0 where
  pub name : Option (List ℕ)
  pub words : AreOfCheckWords asked.is_text name
  pub signals : AreOfFile name asked.signals

-- the program's exit status where nothing is asked
abbrev pub code_unasked : Unasked → ℕ
code_unasked (Words fault) = word_code_of fault
code_unasked (Signals fault) = code_of_signals fault
