use Rattle.std.proofs.Common.{ap, ◌∙◌}
use Rattle.hp_model.specs.Answers.{followed, group_answer}
use Rattle.hp_fire.specs.Mapped.{group}
use Rattle.hp_fire.proofs.placing.group_course.Goals as goal

pub returns : goal.returns
returns c = c.in_ok-add_group.ensures ∙ ap (λ a. followed a (group_answer (group c.args.group))) c.ended-course.ensures
