use Rattle.std.proofs.Common.{◌≡◌, [], drop, map}
use Rattle.serde_json.specs.View.{view}
use Rattle.hp_model.specs.Parts.{read_from}
use Rattle.hp_model.specs.Scopes.{field_names}
use Rattle.hp_model.specs.StatementGrammar.{assignment_at}
use Rattle.hp_value.specs.Mapped.{field}
use Rattle.hp_rule.specs.Mapped.{assignment}
use Rattle.hp_rule.specs.Places.{steps}
use Rattle.hp_script.specs.Settings.{setting_view}
use Rattle.hp_script.proofs.assignment.assignments_at.Given as goal

abbrev pub invariant-loop-i : goal.invariant-loop-i
invariant-loop-i l =
    read_from (assignment_at (field_names (map field l.fields)) (setting_view l.setting)) (steps l.place) (map assignment l.pairs.items) l.i (map view (drop l.i l.values))
    ≡ read_from (assignment_at (field_names (map field l.fields)) (setting_view l.setting)) (steps l.place) [] 0 (map view l.values)
