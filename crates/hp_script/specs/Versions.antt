-- The versions of the grammar.
use Rattle.hp_model.specs.Scopes as S
use Rattle.hp_script.specs.declared.version.Version.{Version}
use Rattle.hp_script.specs.declared.version.Version.TheVariants.{First, Second, Fourth}

abbrev pub version_view : Version → S.Version
version_view First = S.first_version
version_view Second = S.second_version
version_view Fourth = S.fourth_version
