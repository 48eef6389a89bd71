-- The names of rows and values.
use Rattle.std.specs.Prelude.{map}
use Rattle.hp_model.specs.Scopes.{Names, names_of, knowing_row, knowing_value}
use Rattle.hp_query.specs.Mapped.{entry}
use Rattle.hp_rule.specs.declared.known_names.KnownNames.{KnownNames, fold-KnownNames}
use Rattle.hp_rule.specs.declared.known_names.KnownNames.TheOpen.{KnownNames-F}

abbrev pub names_step : KnownNames-F Names → Names
names_step (KnownNames-F.Entries es) = names_of (map entry es.now)
names_step (KnownNames-F.Row newest outer) = knowing_row newest.now outer.now
names_step (KnownNames-F.Value newest outer) = knowing_value newest.now outer.now

-- the names, the innermost first
abbrev pub names_in : KnownNames → Names
names_in = fold-KnownNames Names names_step
