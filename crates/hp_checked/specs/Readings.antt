-- What a reading is checked by.
use Rattle.std.specs.Prelude.{⊤, Option, Some, None, option_map}
use Rattle.hp_model.specs.Kinds.{Declared}
use Rattle.hp_analysis.specs.Declarations.{declared, Keeps}
use Rattle.hp_checked.specs.declared.reading.Reading.{Reading}

-- what is declared of signals, if the rule base is checked
abbrev pub declared_for : Reading → Option Declared
declared_for reading = option_map (λ d. declared d.now) reading.checks

-- what a rule base is checked by keeps the signatures that are given, and it is checked exactly if something is given
abbrev pub KeepsGiven : (given checks : Option Declared) → Type 0
KeepsGiven None None = ⊤
KeepsGiven (Some given) (Some d) = Keeps given d
KeepsGiven given checks = ⊥
