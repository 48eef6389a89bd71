use Rattle.std.proofs.Common.{◌≡◌, [], take, drop, map}
use Rattle.hp_value.specs.Mapped.{field}
use Rattle.hp_rule.specs.Statements.{assignment}
use Rattle.hp_model.specs.Checked.{each_check, assignment_check}
use Rattle.hp_rule.specs.Named.{names_in}
use Rattle.hp_rule.specs.Places.{steps}
use Rattle.hp_rule.proofs.check.pairs.check_pairs.Given as goal

abbrev pub invariant-loop-i : goal.invariant-loop-i
invariant-loop-i l =
    each_check (assignment_check (map field l.fields) (names_in l.names)) (steps l.place) (map assignment (take l.i l.pairs)) l.i (map assignment (drop l.i l.pairs))
    ≡ each_check (assignment_check (map field l.fields) (names_in l.names)) (steps l.place) [] 0 (map assignment l.pairs)
