-- What may be named over a library.
use Rattle.std.specs.Prelude.{[], false}
use Rattle.hp_model.specs.Rules.{Library}
use Rattle.hp_model.specs.Scopes.{Scope}
use Rattle.hp_script.specs.Names.{names_in}

-- what the body of a transaction may name
abbrev pub library_scope : Library → Scope
library_scope library =
    record { classes = library.classes; rules = names_in library.rules; queries = []; in_action = false }
