use Rattle.std.proofs.Common.{◌≡◌, [], drop, map}
use Rattle.serde_json.specs.View.{view}
use Rattle.hp_model.specs.Parts.{read_from}
use Rattle.hp_model.specs.ExpressionGrammar.{expression_at}
use Rattle.hp_value.specs.Mapped.{expression}
use Rattle.hp_rule.specs.Places.{steps}
use Rattle.hp_script.specs.Settings.{setting_view}
use Rattle.hp_script.proofs.operation.arguments_at.Given as goal

abbrev pub invariant-loop-i : goal.invariant-loop-i
invariant-loop-i l =
    read_from (λ _. expression_at (setting_view l.setting)) (steps l.place) (map expression l.arguments.items) l.i (map view (drop l.i l.values))
    ≡ read_from (λ _. expression_at (setting_view l.setting)) (steps l.place) [] 0 (map view l.values)
