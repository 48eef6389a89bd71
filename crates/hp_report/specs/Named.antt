-- The library whose names are shown. Its depth limit is shown nowhere.
use Rattle.std.specs.Prelude.{map}
use Rattle.hp_model.specs.Rules as R
use Rattle.hp_value.specs.Mapped.{class_def}
use Rattle.hp_rule.specs.Mapped.{rule}
use Rattle.hp_report.specs.declared.names.Names.{Names}

abbrev pub library_of : Names → R.Library
library_of n = record { classes = map class_def n.classes.now; rules = map rule n.rules.now; depth_limit = 0 }
