-- The names of a list's items.
use Rattle.std.specs.Prelude.{List, map}
use Rattle.hp_model.specs.Values.{Name}
use Rattle.hp_model.specs.Rules as R
use Rattle.hp_model.specs.RuleHeads as H
use Rattle.hp_model.specs.Scopes.{class_names, field_names}
use Rattle.hp_model.specs.StatementGrammar.{assigned_names}
use Rattle.hp_value.specs.Mapped.{class_def, field}
use Rattle.hp_rule.specs.Mapped.{assignment, rule}
use Rattle.hp_script.specs.declared.names.Names.{Names}
use Rattle.hp_script.specs.declared.names.Names.TheVariants.{Fields, Classes, Heads, Rules, Assignments}
use Rattle.hp_script.specs.Heads.{heads_view}

abbrev pub names_in : List R.Rule → List Name
names_in rules = map (λ (r : R.Rule). r.name) rules

abbrev pub names_of : Names → List Name
names_of (Fields fields) = field_names (map field fields.now)
names_of (Classes classes) = class_names (map class_def classes.now)
names_of (Heads heads) = H.rule_names (heads_view heads.now)
names_of (Rules rules) = names_in (map rule rules.now)
names_of (Assignments assignments) = assigned_names (map assignment assignments.now)
