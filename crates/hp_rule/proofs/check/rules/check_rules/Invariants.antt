use Rattle.std.proofs.Common.{◌≡◌, [], take, drop, map, length}
use Rattle.hp_value.specs.Mapped.{class_def}
use Rattle.hp_rule.specs.Statements.{rule}
use Rattle.hp_model.specs.Checked.{each_check, rule_check}
use Rattle.hp_rule.specs.Places.{steps}
use Rattle.hp_rule.proofs.check.rules.check_rules.Given as goal

abbrev pub invariant-loop-i : goal.invariant-loop-i
invariant-loop-i l =
    each_check (λ _. rule_check (map class_def l.classes) (length l.rules)) (steps l.place) (map rule (take l.i l.rules)) l.i (map rule (drop l.i l.rules))
    ≡ each_check (λ _. rule_check (map class_def l.classes) (length l.rules)) (steps l.place) [] 0 (map rule l.rules)
