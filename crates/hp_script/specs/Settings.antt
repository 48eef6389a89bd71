-- What an expression may use.
use Rattle.hp_model.specs.Scopes as S
use Rattle.hp_rule.specs.Named.{names_in}
use Rattle.hp_rule.specs.declared.known_names.KnownNames.{KnownNames}
use Rattle.hp_script.specs.declared.setting.Setting.{Setting}
use Rattle.hp_script.specs.declared.scope.Scope.{Scope}
use Rattle.hp_script.specs.Versions.{version_view}

abbrev pub setting_view : Setting → S.Setting
setting_view s = record { version = version_view s.version; names = names_in s.names }

-- what an expression in a scope may use
abbrev pub setting_in : Scope → KnownNames → S.Setting
setting_in scope names = record { version = version_view scope.version; names = names_in names }
