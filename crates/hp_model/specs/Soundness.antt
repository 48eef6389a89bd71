-- When a call on other cells stands for a step of the definitions, and an attempt for a firing.
use Rattle.std.specs.Prelude.{◌≡◌, List, Option}
use Rattle.hp_model.specs.Values.{Veto}
use Rattle.hp_model.specs.Rules.{Library}
use Rattle.hp_model.specs.State.{State, IsOrdered}
use Rattle.hp_model.specs.Tree.{Task, Items, without_detachments}
use Rattle.hp_model.specs.Transactions.{Detached, End, Course}
use Rattle.hp_model.specs.Firing.{Firing, fire_task}
use Rattle.hp_model.specs.Cells.{Cells, cells, Changes, over, Read, Holds}

-- ---- the result of a step, besides the state

-- the answer of a course
pub record Answer : Type 0 where
  pub end : End
  pub queued : List Task
  pub detached : List Detached
  pub items : Items

abbrev pub answer_of : Course → Answer
answer_of c = record { end = c.end; queued = c.queued; detached = c.detached; items = without_detachments c.items }

-- the answer of a firing
pub record FiringAnswer : Type 0 where
  pub vetoed_by : Option Veto
  pub queued : List Task
  pub detached : List Detached
  pub items : Items

abbrev pub firing_answer : Firing → FiringAnswer
firing_answer f = record { vetoed_by = f.vetoed_by; queued = f.queued; detached = f.detached; items = without_detachments f.items }

-- a step that gave this answer and left this state has the wanted answer, and left these cells in order
pub record LeadsTo {A : Type 0} (library : Library) (given : A) (S : State) (answer : A) (to : Cells) : Type 0 where
  pub answers : given ≡ answer
  pub reaches : cells library S ≡ to
  pub ordered : IsOrdered library S

-- ---- calls on a view

-- A call on a view is faithful to a step if this holds for all cells in which the view's reads after the call hold, and
-- each ordered state whose cells are these under the view's writes before the call: the call's answer is the step's,
-- and the cells after the step are these under the view's writes after the call.
pub record Faithful {A : Type 0} (library : Library) (given : State → A) (next : State → State) (reads : List Read) (before after : Changes) (answer : A) : Type 0 where
  pub from : (base : Cells) → Holds base reads → (S : State) → IsOrdered library S → cells library S ≡ over base before
      → LeadsTo library (given S) (next S) answer (over base after)

-- ---- attempts

-- a task's firing as it was tried on some cells: its reads, its writes, and its answer
pub record Attempt : Type 0 where
  pub task : Task
  pub reads : List Read
  pub layer : Changes
  pub answer : FiringAnswer

-- an attempt is sound if it stands for its task's firing on each ordered state in which its reads hold
pub record IsSound (library : Library) (a : Attempt) : Type 0 where
  pub from : (S : State) → IsOrdered library S → Holds (cells library S) a.reads
      → LeadsTo library (firing_answer (fire_task library S a.task)) (fire_task library S a.task).state a.answer (over (cells library S) a.layer)
