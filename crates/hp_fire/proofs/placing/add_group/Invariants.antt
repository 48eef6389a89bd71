use Rattle.std.proofs.Common.{◌≡◌, map}
use Rattle.hp_model.specs.Answers.{followed, group_answer}
use Rattle.hp_attempt.specs.Mapped.{firing}
use Rattle.hp_fire.specs.Joined.{with_firings}
use Rattle.hp_fire.specs.Mapped.{course, group}
use Rattle.hp_fire.proofs.placing.add_group.Given as goal

-- what was added so far, with what the rest gives, is what all give
abbrev pub invariant-loop-outcome : goal.invariant-loop-outcome
invariant-loop-outcome l = with_firings (course l.course) (map firing l.outcome-iterator.rest.items) ≡ followed (course l.fn.course) (group_answer (group l.fn.group))
