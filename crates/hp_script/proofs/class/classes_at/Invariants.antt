use Rattle.std.proofs.Common.{◌≡◌, [], drop, length, map}
use Rattle.serde_json.specs.View.{view}
use Rattle.hp_model.specs.Parts.{read_from}
use Rattle.hp_model.specs.Decode.{class_at}
use Rattle.hp_value.specs.Mapped.{class_def}
use Rattle.hp_rule.specs.Places.{steps}
use Rattle.hp_script.proofs.class.classes_at.Given as goal

abbrev pub invariant-loop-i : goal.invariant-loop-i
invariant-loop-i l = record {
  reads : read_from class_at (steps l.place) (map class_def l.classes.items) l.i (map view (drop l.i l.values))
      ≡ read_from class_at (steps l.place) [] 0 (map view l.values);
  counted : length l.classes.items ≡ l.i;
}
