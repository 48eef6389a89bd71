-- What the crate's types stand for in the model: a function for each.
use Rattle.hp_model.specs.Rules as R
use Rattle.hp_model.specs.Tree as T
use Rattle.hp_model.specs.Transactions as X
use Rattle.hp_model.specs.Cascade as C
use Rattle.hp_value.specs.Mapped.{coupling, occurrence}
use Rattle.hp_query.specs.Mapped.{findings}
pub use Rattle.hp_rule.specs.Statements.{rule_operation, assignment, statement, row_body, body_in, rule, library_of}
pub use Rattle.hp_rule.specs.Libraries.{library}
pub use Rattle.hp_rule.specs.Places.{member, path_step, path}
pub use Rattle.hp_rule.specs.Faults.{limit, fault}
use Rattle.hp_rule.specs.declared.body.Body.{Body}
use Rattle.hp_rule.specs.declared.task.Step.{Step}
use Rattle.hp_rule.specs.declared.task.Step.TheVariants.{Condition, Action}
use Rattle.hp_rule.specs.declared.task.Task.{Task}
use Rattle.hp_rule.specs.declared.task.Detached.{Detached}
use Rattle.hp_rule.specs.declared.unit.Unit.{Unit}
use Rattle.hp_rule.specs.declared.unit.Unit.TheVariants.{Transaction, Moment}

abbrev pub body : Body → R.Body
body b = body_in b.statements.items

abbrev pub step : Step → T.Step
step Condition = T.condition_step
step (Action found) = T.action_step (findings found.value)

abbrev pub task : Task → T.Task
task t =
    record {
      rule = t.rule;
      step = step t.step;
      place = coupling t.place;
      depth = t.depth;
      now = t.time;
      occurrence = occurrence t.occurrence.value;
    }

abbrev pub detached : Detached → X.Detached
detached d = record { task = task d.task; released = d.released }

abbrev pub unit : Unit → C.Unit
unit (Transaction time b) = C.transaction time (body b)
unit (Moment t) = C.moment t
