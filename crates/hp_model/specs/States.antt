-- Classes of states, and what is faithful and sound for the states of one class.
use Rattle.std.specs.Prelude.{◌≡◌, ◌↔◌, List}
use Rattle.hp_model.specs.Rules.{Library}
use Rattle.hp_model.specs.State.{State, IsOrdered, IsFit}
use Rattle.hp_model.specs.Cells.{Cells, cells, Changes, over, Read, Holds}
use Rattle.hp_model.specs.Ranges.{IsFitLibrary}
use Rattle.hp_model.specs.Firing.{Firing, Siblings, fire_task}
use Rattle.hp_model.specs.Soundness.{FiringAnswer, firing_answer, Attempt, IsSound}
use Rattle.hp_model.specs.Answers.{SiblingsAnswer, siblings_answer}
use Rattle.hp_model.specs.Fitting.{TaskFits}

-- a class of states: all that are ordered, or those that are fit, as each is that a run reaches
pub data States : Type 0 where
  ordered_states fit_states : States

abbrev pub IsOneOf : States → Library → State → Type 0
IsOneOf ordered_states library S = IsOrdered library S
IsOneOf fit_states library S = IsFit library S

-- a step that gave this answer and left this state has the wanted answer, and left these cells in a state of the class
pub record LeadsToOne {A : Type 0} (states : States) (library : Library) (given : A) (S : State) (answer : A) (to : Cells) : Type 0 where
  pub answers : given ≡ answer
  pub reaches : cells library S ≡ to
  pub one : IsOneOf states library S

-- A call on a view is faithful to a step for a class of states: for all cells where the view's reads after the call hold,
-- and every state of the class whose cells are these under the view's writes before the call, the call's answer is the
-- step's, and the cells after the step, in a state of the class, are these under the view's writes after the call.
pub record FaithfulFor {A : Type 0} (states : States) (library : Library) (given : State → A) (next : State → State) (reads : List Read) (before after : Changes) (answer : A) : Type 0 where
  pub from : (base : Cells) → Holds base reads → (S : State) → IsOneOf states library S → cells library S ≡ over base before
      → LeadsToOne states library (given S) (next S) answer (over base after)

abbrev pub FaithfulFiringFor : States → Library → (State → Firing) → List Read → Changes → Changes → FiringAnswer → Type 0
FaithfulFiringFor states library fire reads before after answer =
    FaithfulFor states library (λ S. firing_answer (fire S)) (λ S. (fire S).state) reads before after answer

abbrev pub FaithfulSiblingsFor : States → Library → (State → Siblings) → List Read → Changes → Changes → SiblingsAnswer → Type 0
FaithfulSiblingsFor states library group reads before after answer =
    FaithfulFor states library (λ S. siblings_answer (group S)) (λ S. (group S).state) reads before after answer

-- an attempt is sound for a class of states if it stands for its task's firing on every state of the class where its
-- reads hold
pub record IsSoundFor (states : States) (library : Library) (a : Attempt) : Type 0 where
  pub from : (S : State) → IsOneOf states library S → Holds (cells library S) a.reads
      → LeadsToOne states library (firing_answer (fire_task library S a.task)) (fire_task library S a.task).state a.answer (over (cells library S) a.layer)

-- ---- the laws

-- for ordered states it is what an attempt is called sound for
abbrev pub IsSoundForOrdered : Type 0
IsSoundForOrdered = (library : Library) (a : Attempt) → IsSound library a ↔ IsSoundFor ordered_states library a

-- and such an attempt is sound for fit states, where the library fits and what the task carries does
abbrev pub IsSoundForFit : Type 0
IsSoundForFit = (library : Library) (a : Attempt) → IsFitLibrary library → TaskFits library a.task → IsSound library a → IsSoundFor fit_states library a
