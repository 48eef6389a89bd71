use Rattle.std.proofs.Common.{map, take}
use Rattle.hp_model.specs.Decode.{names_moment}
use Rattle.hp_rule.specs.Mapped.{rule}
use Rattle.hp_script.specs.Moments.{NextOf}
use Rattle.hp_script.proofs.moment.next_moment.Given as goal

abbrev pub invariant-loop-rule : goal.invariant-loop-rule
invariant-loop-rule l = NextOf (names_moment (map rule (take l.rule-index l.rules))) l.after l.next
