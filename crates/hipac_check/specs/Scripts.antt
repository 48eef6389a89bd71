-- The script that is checked.
use Rattle.std.specs.Prelude.{map}
use Rattle.hp_model.specs.Cascade.{Script}
use Rattle.hp_rule.specs.Libraries.{library}
use Rattle.hp_rule.specs.Mapped.{unit}
use Rattle.hipac_check.specs.declared.checking.Checked.{Checked}

abbrev pub script_of : Checked → Script
script_of c = record { library = library c.library.now; units = map unit c.units.now }
