-- What a body may name besides rows and values.
use Rattle.std.specs.Prelude.{map}
use Rattle.hp_value.specs.Mapped.{class_def}
use Rattle.hp_query.specs.Mapped.{entry}
use Rattle.hp_rule.specs.declared.check.scope.Scope.{Scope}
use Rattle.hp_model.specs.Checked as C
use Rattle.hp_model.specs.Checked.{query_names}

abbrev pub scope_of : Scope → C.Scope
scope_of s = record { classes = map class_def s.classes.now; rules = s.rules; in_action = s.in_action; queries = query_names (map entry s.condition.now) }
