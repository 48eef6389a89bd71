-- The law of groups, for a class of states: a lawful run leads to the cells of the settled tasks' serial firing.
use Rattle.std.specs.Prelude.{◌≡◌, ℕ, Bool, List, [], ◌∷◌, length, Some, None, slice_get, ⊤, ◌⊎◌, take}
use Rattle.hp_model.specs.Rules.{Library}
use Rattle.hp_model.specs.State.{State}
use Rattle.hp_model.specs.Tree.{Task}
use Rattle.hp_model.specs.Firing.{fire_task, siblings}
use Rattle.hp_model.specs.Cells.{Cells, cells, Changes, over, Holds}
use Rattle.hp_model.specs.Soundness.{Attempt}
use Rattle.hp_model.specs.Groups.{Machine, Event, draw, look, post, accept, rerun, opening, seen_at, posted_at, is_enabled, step, run, cells_now, start_of, MayGoOn, IfEnabled}
use Rattle.hp_model.specs.States.{States, IsOneOf, IsSoundFor}

-- a task's layer that leads from some cells to those after its firing, and so from states of the class to such states
abbrev pub LeadsFor : States → Library → Task → Cells → Changes → Type 0
LeadsFor states library t base layer =
    (S : State) → IsOneOf states library S → cells library S ≡ base
    → (cells library (fire_task library S t).state ≡ over base layer) × IsOneOf states library (fire_task library S t).state

-- what makes an enabled event lawful for the class, given an attempt of each task that is posted
abbrev pub IsLawfulEventFor : States → (stops : Bool) → Library → List Task → (attempts : ℕ → Attempt) → State → Machine → Event → Type 0
IsLawfulEventFor states stops library tasks attempts S m (draw w) = ⊤
IsLawfulEventFor states stops library tasks attempts S m (look w i predecessors) = ⊤
IsLawfulEventFor states stops library tasks attempts S m (post w i layer) =
    IsSoundFor states library (attempts i) × (slice_get tasks i ≡ Some (attempts i).task) × ((attempts i).layer ≡ layer)
    × ((predecessors : List ℕ) → seen_at m i ≡ Some predecessors → Holds (start_of m i predecessors) (attempts i).reads)
IsLawfulEventFor states stops library tasks attempts S m (accept i) =
    Holds (cells_now m) (attempts i).reads × MayGoOn stops library tasks S i
IsLawfulEventFor states stops library tasks attempts S m (rerun i layer) =
    ((posted_at m i ≡ None) ⊎ (Holds (cells_now m) (attempts i).reads → ⊥))
    × ((t : Task) → slice_get tasks i ≡ Some t → LeadsFor states library t (cells_now m) layer) × MayGoOn stops library tasks S i

-- each event of the run is lawful where it is enabled
abbrev pub IsLawfulFor : States → (stops : Bool) → Library → List Task → (attempts : ℕ → Attempt) → State → Machine → List Event → Type 0
IsLawfulFor states stops library tasks attempts S m [] = ⊤
IsLawfulFor states stops library tasks attempts S m (e ∷ es) =
    IfEnabled (is_enabled m e) (IsLawfulEventFor states stops library tasks attempts S m e)
    × IsLawfulFor states stops library tasks attempts S (step m e) es

-- the law: from a state of the class, the cells now are those of the state of the settled tasks' serial firing, which is
-- one of the class
abbrev pub IsAcceptedFor : States → Type 0
IsAcceptedFor states =
    (stops : Bool) (library : Library) (tasks : List Task) (attempts : ℕ → Attempt) (S : State) (es : List Event)
    → IsOneOf states library S → IsLawfulFor states stops library tasks attempts S (opening (cells library S) (length tasks)) es
    → let m = run (opening (cells library S) (length tasks)) es in
    let settled = (siblings (fire_task library) stops (take (length m.settled) tasks) S).state in
    (cells_now m ≡ cells library settled) × IsOneOf states library settled
