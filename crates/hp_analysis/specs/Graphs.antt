-- The library whose triggers a graph has.
use Rattle.hp_model.specs.Rules as R
use Rattle.hp_rule.specs.Libraries.{library}
use Rattle.hp_analysis.specs.Installed.{with_only}
use Rattle.hp_analysis.specs.declared.triggers.Triggers.{Triggers}

abbrev pub seen : Triggers → R.Library
seen t = with_only t.present.items (library t.library.now)
