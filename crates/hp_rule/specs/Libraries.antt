-- What a library stands for in the model.
use Rattle.hp_model.specs.Rules as R
use Rattle.hp_rule.specs.declared.library.Library.{Library}
use Rattle.hp_rule.specs.Statements.{library_of}

abbrev pub library : Library → R.Library
library l = library_of l.classes.items l.rules.items l.depth_limit
