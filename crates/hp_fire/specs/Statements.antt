-- What the engine's calls do, for a library and the context of a statement.
use Rattle.std.specs.Prelude.{⊤, ℕ, Bool, List, Option, Some, None, Result, Ok, Err, map}
use Rattle.std.specs.Global.{Vec, Box}
use Rattle.hp_model.specs.Values.{Name}
use Rattle.hp_model.specs.Rules.{Statement, veto, veto_with, Body}
use Rattle.hp_model.specs.Transactions.{Work, abort_by, for_each}
use Rattle.hp_model.specs.Firing.{Level, Fire, level_at, run_statement, run_body, with_row, start, siblings, fire_task}
use Rattle.hp_model.specs.Answers.{ended}
use Rattle.hp_value.specs.declared.halt.Halt.{Halt}
use Rattle.hp_value.specs.declared.halt.Halt.TheVariants.{Cause as ByCause, Memory}
use Rattle.hp_value.specs.declared.expr.Expr.{Expr}
use Rattle.hp_value.specs.declared.occurrence.Primitive.{Primitive}
use Rattle.hp_value.specs.declared.row.KeyedRow.{KeyedRow}
use Rattle.hp_value.specs.Mapped.{cause, expression, keyed_row, primitive}
use Rattle.hp_rule.specs.declared.library.Library.{Library}
use Rattle.hp_rule.specs.declared.task.Task.{Task}
use Rattle.hp_rule.specs.Mapped.{library, task}
use Rattle.hp_attempt.specs.declared.outcome.Outcome.{Outcome}
use Rattle.hp_attempt.specs.Mapped.{firing}
use Rattle.hp_view.specs.Seeing.{Seeing}
use Rattle.hp_fire.specs.declared.course.Course.{Course}
use Rattle.hp_fire.specs.declared.course.GroupOutcome.{GroupOutcome}
use Rattle.hp_fire.specs.declared.context.Context.{Context}
use Rattle.hp_fire.specs.Mapped.{course, context, group}
use Rattle.hp_fire.specs.Runs.{Runs, RunsFiring, RunsGroup, Adds, Steps, Starts, Makes}

-- the level of a statement in a context
abbrev pub level_in : Library → Context → Level
level_in lib c = level_at (library lib) c.env.time c.depth

-- what a statement does in a context
abbrev pub statement_in : Library → Context → Statement → Work
statement_in lib c s = run_statement s (level_in lib c) (context c)

-- what a body does
abbrev pub body_work : Library → Context → Body → Work
body_work lib c b = run_body b (level_in lib c) (context c)

-- what a body does for each of these rows, bound to a name
abbrev pub body_for_each : Library → Context → Name → List KeyedRow → Body → Work
body_for_each lib c name rows b = for_each (map keyed_row rows) (λ r. run_body b (level_in lib c) (with_row name r (context c)))

-- a statement `veto`, perhaps with a message
abbrev pub veto_statement : Option (Box Expr) → Statement
veto_statement None = veto
veto_statement (Some e) = veto_with (expression e.value)

-- the statement runs, and what it did is added to the course, unless a cause ends it or memory runs out
abbrev pub StatementRuns : Library → Context → Statement → Seeing → Seeing → (before after : Course) → Result ⊤ Halt → Type 0
StatementRuns lib c s old new before after result = Steps (library lib) (statement_in lib c s) old new (course before) (course after) result

-- the operation of the statement is made, unless a cause ends the statement or memory runs out
abbrev pub OperationIsMade : Library → Context → Statement → Seeing → Seeing → Result Primitive Halt → Type 0
OperationIsMade lib c s old new result = Makes primitive (library lib) (level_in lib c) (statement_in lib c s) old new result

-- the body runs, and what it did is added to the course
abbrev pub BodyRuns : Library → Context → Body → Seeing → Seeing → (before after : Course) → Type 0
BodyRuns lib c b old new before after = Adds (library lib) (body_work lib c b) old new (course before) (course after)

-- how tasks fire one level below a transaction of this depth, unless that exceeds the limit: each at its own moment
abbrev pub below_at : Library → (depth : ℕ) → Option Fire
below_at lib depth = (level_at (library lib) 0 depth).below

-- what is left of the work is to start these tasks in a transaction of this depth, unless a cause has ended the work or
-- memory has run out
abbrev pub TasksStart : Library → (depth : ℕ) → Work → Seeing → Seeing → Result (Vec Task) Halt → Type 0
TasksStart lib depth work old new (Ok tasks) = Starts (library lib) (start (below_at lib depth) (map task tasks.items)) work old new
TasksStart lib depth work old new (Err (ByCause x)) = Runs (library lib) work old new (ended (abort_by (cause x)))
TasksStart lib depth work old new (Err Memory) = ⊤

-- the tasks fire as siblings
abbrev pub SiblingsFire : Library → (stops : Bool) → List Task → Seeing → Seeing → GroupOutcome → Type 0
SiblingsFire lib stops tasks old new g = RunsGroup (library lib) (siblings (fire_task (library lib)) stops (map task tasks)) old new (group g)

-- the task fires
abbrev pub TaskFires : Library → Task → Seeing → Seeing → Outcome → Type 0
TaskFires lib t old new o = RunsFiring (library lib) (λ S. fire_task (library lib) S (task t)) old new (firing o)
