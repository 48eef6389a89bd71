use Rattle.std.proofs.Common.{◌≡◌, [], take, drop, map}
use Rattle.hp_value.specs.Mapped.{class_def}
use Rattle.hp_model.specs.Checked.{each_check, class_definition_check}
use Rattle.hp_rule.specs.Places.{steps}
use Rattle.hp_rule.proofs.check.classes.check_classes.Given as goal

abbrev pub invariant-loop-i : goal.invariant-loop-i
invariant-loop-i l =
    each_check class_definition_check (steps l.place) (map class_def (take l.i l.classes)) l.i (map class_def (drop l.i l.classes)) ≡ each_check
    class_definition_check (steps l.place) [] 0 (map class_def l.classes)
