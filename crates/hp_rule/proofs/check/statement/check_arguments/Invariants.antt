use Rattle.std.proofs.Common.{◌≡◌, [], take, drop, map}
use Rattle.hp_value.specs.Mapped.{expression}
use Rattle.hp_model.specs.Checked.{each_check, whole_expression_check}
use Rattle.hp_rule.specs.Named.{names_in}
use Rattle.hp_rule.specs.Places.{steps}
use Rattle.hp_rule.proofs.check.statement.check_arguments.Given as goal

abbrev pub invariant-loop-i : goal.invariant-loop-i
invariant-loop-i l =
    each_check (λ _. whole_expression_check (names_in l.context.names)) (steps l.context.place) (map expression (take l.i l.arguments)) l.i (map expression (drop l.i l.arguments))
    ≡ each_check (λ _. whole_expression_check (names_in l.context.names)) (steps l.context.place) [] 0 (map expression l.arguments)
