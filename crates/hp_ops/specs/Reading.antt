-- What operations read.
use Rattle.std.specs.Prelude.{◌≡◌, ◌⊎◌, ℕ, true, IsTrue}
use Rattle.hp_model.specs.Occurrences.{Primitive}
use Rattle.hp_model.specs.Rules.{Library}
use Rattle.hp_model.specs.Cells.{Cell, Read, rule_cell, detector_cell}
use Rattle.hp_rule.specs.Mentions.{is_mentioned}
use Rattle.hp_view.specs.Seeing.{reads_cell}

-- it is a read of this cell
abbrev pub IsReadOf : Cell → Read → Type 0
IsReadOf cell read = IsTrue (reads_cell cell read)

-- it is a read of this rule's status or detector
abbrev pub IsReadOfRule : ℕ → Read → Type 0
IsReadOfRule n read = IsReadOf (rule_cell n) read ⊎ IsReadOf (detector_cell n) read

-- it is one of a rule whose event has a pattern that matches the occurrence
pub record IsReadOfMentioned (library : Library) (p : Primitive) (read : Read) : Type 0 where
  pub rule : ℕ
  pub mentioned : is_mentioned library.rules p rule ≡ true
  pub reads : IsReadOfRule rule read
