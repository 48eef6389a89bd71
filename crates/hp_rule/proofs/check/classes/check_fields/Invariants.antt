use Rattle.std.proofs.Common.{◌≡◌, [], take, drop, map}
use Rattle.hp_value.specs.Mapped.{field}
use Rattle.hp_model.specs.Checked.{each_check, field_definition_check}
use Rattle.hp_rule.specs.Places.{steps}
use Rattle.hp_rule.proofs.check.classes.check_fields.Given as goal

abbrev pub invariant-loop-i : goal.invariant-loop-i
invariant-loop-i l =
    each_check field_definition_check (steps l.place) (map field (take l.i l.fields)) l.i (map field (drop l.i l.fields)) ≡ each_check field_definition_check (steps l.place) [] 0 (map field l.fields)
