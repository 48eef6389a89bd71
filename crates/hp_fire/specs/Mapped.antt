-- What the crate's types stand for in the model: a function for each.
use Rattle.std.specs.Prelude.{map, option_map}
use Rattle.hp_model.specs.Values.{vetoed}
use Rattle.hp_model.specs.Transactions as X
use Rattle.hp_model.specs.Soundness as S
use Rattle.hp_model.specs.Answers as A
use Rattle.hp_model.specs.Firing as F
use Rattle.hp_value.specs.Mapped.{cause, veto, environment, answers}
use Rattle.hp_rule.specs.Mapped.{task, detached}
use Rattle.hp_tree.specs.Mapped.{items_in}
use Rattle.hp_attempt.specs.Mapped.{firing}
use Rattle.hp_fire.specs.declared.course.End.{End}
use Rattle.hp_fire.specs.declared.course.End.TheVariants.{Done, Abort, Vetoed, Veto}
use Rattle.hp_fire.specs.declared.course.Course.{Course}
use Rattle.hp_fire.specs.declared.course.GroupOutcome.{GroupOutcome}
use Rattle.hp_fire.specs.declared.context.Context.{Context}

abbrev pub end : End → X.End
end Done = X.done
end (Abort c) = X.abort_by (cause c)
end (Vetoed v) = X.abort_by (vetoed (veto v))
end (Veto v) = X.veto_by (veto v)

abbrev pub course : Course → S.Answer
course c = record { end = end c.end; queued = map task c.queued.items; detached = map detached c.detached.items; items = items_in c.items.items }

abbrev pub group : GroupOutcome → A.SiblingsAnswer
group g = record { firings = map firing g.outcomes.items; vetoed_by = option_map veto g.end }

abbrev pub context : Context → F.Context
context c = record { environment = environment c.env; answers = answers c.answers.now; rule = c.rule }
