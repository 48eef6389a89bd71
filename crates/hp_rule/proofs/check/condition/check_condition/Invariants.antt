use Rattle.std.proofs.Common.{◌≡◌, [], take, drop, map}
use Rattle.hp_query.specs.Mapped.{entry}
use Rattle.hp_model.specs.Checked.{each_check, entry_check}
use Rattle.hp_rule.specs.Places.{steps}
use Rattle.hp_rule.proofs.check.condition.check_condition.Given as goal

abbrev pub invariant-loop-i : goal.invariant-loop-i
invariant-loop-i l =
    each_check (entry_check l.classes) (steps l.place) (map entry (take l.i l.entries)) l.i (map entry (drop l.i l.entries)) ≡ each_check (entry_check l.classes)
    (steps l.place) [] 0 (map entry l.entries)
