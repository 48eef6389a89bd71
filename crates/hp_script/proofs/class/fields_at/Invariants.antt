use Rattle.std.proofs.Common.{◌≡◌, [], drop, map}
use Rattle.serde_json.specs.View.{view}
use Rattle.hp_model.specs.Parts.{read_from}
use Rattle.hp_model.specs.Decode.{field_at}
use Rattle.hp_value.specs.Mapped.{field}
use Rattle.hp_rule.specs.Places.{steps}
use Rattle.hp_script.proofs.class.fields_at.Given as goal

abbrev pub invariant-loop-i : goal.invariant-loop-i
invariant-loop-i l =
    read_from field_at (steps l.place) (map field l.fields.items) l.i (map view (drop l.i l.values))
    ≡ read_from field_at (steps l.place) [] 0 (map view l.values)
