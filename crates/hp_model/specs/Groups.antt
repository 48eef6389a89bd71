-- A group of sibling firings that workers try at once and an owner settles in order. Each event is one atomic step.
use Rattle.std.specs.Prelude.{◌≡◌, ℕ, Bool, true, false, not, ◌&&◌, ◌==◌, nat_lt, List, [], ◌∷◌, ◌++◌, length, Option, Some, None, is_some, slice_get, slice_set, if◌then◌else◌}
use Rattle.std.specs.Prelude.{replicate, ⊤, ◌⊎◌, take}
use Rattle.std.specs.List.{list_any, list_all, filter_map, range_with_len, slice_index_or}
use Rattle.std.specs.Option.{option_flatten}
use Rattle.std.specs.Bool.{then_some}
use Rattle.hp_model.specs.Rules.{Library}
use Rattle.hp_model.specs.State.{State, IsOrdered}
use Rattle.hp_model.specs.Tree.{Task}
use Rattle.hp_model.specs.Firing.{fire_task, siblings}
use Rattle.hp_model.specs.Cells.{Cells, cells, Changes, over, Holds}
use Rattle.hp_model.specs.Soundness.{Attempt, IsSound}

pub record Machine : Type 0 where
  pub base : Cells
  -- the worker that drew each task; tasks are drawn in order
  pub drawn : List ℕ
  -- for each task: its predecessors, earlier tasks, whose layers it started from, if it was looked at; its posted layer
  pub seen : List (Option (List ℕ))
  pub posted : List (Option Changes)
  -- the layers settled so far, the first task's first
  pub settled : List Changes

pub data Event : Type 0 where
  draw : (worker : ℕ) → Event
  look : (worker task : ℕ) → (predecessors : List ℕ) → Event
  post : (worker task : ℕ) → Changes → Event
  accept : (task : ℕ) → Event
  rerun : (task : ℕ) → Changes → Event

-- a group of n tasks before the first event
abbrev pub opening : Cells → ℕ → Machine
opening base n = record { base = base; drawn = []; seen = replicate n None; posted = replicate n None; settled = [] }

abbrev pub is_drawn_by : Machine → ℕ → ℕ → Bool
is_drawn_by m worker i = nat_lt i (length m.drawn) && (slice_index_or m.drawn i 0 == worker)

abbrev pub seen_at : Machine → ℕ → Option (List ℕ)
seen_at m i = option_flatten (slice_get m.seen i)

abbrev pub posted_at : Machine → ℕ → Option Changes
posted_at m i = option_flatten (slice_get m.posted i)

abbrev pub is_enabled : Machine → Event → Bool
is_enabled m (draw w) = nat_lt (length m.drawn) (length m.posted)
is_enabled m (look w i predecessors) =
    is_drawn_by m w i && (not (is_some (seen_at m i)) && list_all (λ j. nat_lt j i && is_some (posted_at m j)) predecessors)
is_enabled m (post w i layer) = is_drawn_by m w i && (is_some (seen_at m i) && not (is_some (posted_at m i)))
is_enabled m (accept i) = (i == length m.settled) && is_some (posted_at m i)
is_enabled m (rerun i layer) = (i == length m.settled) && nat_lt i (length m.posted)

abbrev pub settling : Machine → Option Changes → Machine
settling m None = m
settling m (Some layer) = record m { settled = m.settled ++ layer ∷ [] }

abbrev pub effect : Machine → Event → Machine
effect m (draw w) = record m { drawn = m.drawn ++ w ∷ [] }
effect m (look w i predecessors) = record m { seen = slice_set m.seen i (Some predecessors) }
effect m (post w i layer) = record m { posted = slice_set m.posted i (Some layer) }
effect m (accept i) = settling m (posted_at m i)
effect m (rerun i layer) = settling m (Some layer)

-- an event that isn't enabled changes nothing
abbrev pub step : Machine → Event → Machine
step m e = if is_enabled m e then effect m e else m

abbrev pub run : Machine → List Event → Machine
run m [] = m
run m (e ∷ es) = run (step m e) es

-- layers over a base, the first one lowest
abbrev pub layered : Cells → List Changes → Cells
layered base [] = base
layered base (l ∷ ls) = layered (over base l) ls

abbrev pub cells_now : Machine → Cells
cells_now m = layered m.base m.settled

-- the layers of the seen predecessors, in task order
abbrev pub layers_seen : Machine → ℕ → List ℕ → List Changes
layers_seen m i predecessors =
    filter_map (λ j. option_flatten (then_some (list_any (λ k. k == j) predecessors) (posted_at m j))) (range_with_len 0 i)

-- the start of a task: the base with those layers over it
abbrev pub start_of : Machine → ℕ → List ℕ → Cells
start_of m i predecessors = layered m.base (layers_seen m i predecessors)

-- no task before this one was vetoed, if a veto stops the group
abbrev pub MayGoOn : (stops : Bool) → Library → List Task → State → ℕ → Type 0
MayGoOn false library tasks S i = ⊤
MayGoOn true library tasks S i = (siblings (fire_task library) true (take i tasks) S).vetoed_by ≡ None

-- a task's layer that leads from some cells to those after its firing
abbrev pub Leads : Library → Task → Cells → Changes → Type 0
Leads library t base layer =
    (S : State) → IsOrdered library S → cells library S ≡ base → cells library (fire_task library S t).state ≡ over base layer

-- the condition that makes an enabled event lawful, for an attempt at each posted task
abbrev pub IsLawfulEvent : (stops : Bool) → Library → List Task → (attempts : ℕ → Attempt) → State → Machine → Event → Type 0
IsLawfulEvent stops library tasks attempts S m (draw w) = ⊤
IsLawfulEvent stops library tasks attempts S m (look w i predecessors) = ⊤
IsLawfulEvent stops library tasks attempts S m (post w i layer) =
    IsSound library (attempts i) × (slice_get tasks i ≡ Some (attempts i).task) × ((attempts i).layer ≡ layer)
    × ((predecessors : List ℕ) → seen_at m i ≡ Some predecessors → Holds (start_of m i predecessors) (attempts i).reads)
IsLawfulEvent stops library tasks attempts S m (accept i) =
    Holds (cells_now m) (attempts i).reads × MayGoOn stops library tasks S i
IsLawfulEvent stops library tasks attempts S m (rerun i layer) =
    ((posted_at m i ≡ None) ⊎ (Holds (cells_now m) (attempts i).reads → ⊥))
    × ((t : Task) → slice_get tasks i ≡ Some t → Leads library t (cells_now m) layer) × MayGoOn stops library tasks S i

abbrev pub IfEnabled : Bool → Type 0 → Type 0
IfEnabled true P = P
IfEnabled false P = ⊤

-- each event of the run is lawful where it is enabled
abbrev pub IsLawful : (stops : Bool) → Library → List Task → (attempts : ℕ → Attempt) → State → Machine → List Event → Type 0
IsLawful stops library tasks attempts S m [] = ⊤
IsLawful stops library tasks attempts S m (e ∷ es) =
    IfEnabled (is_enabled m e) (IsLawfulEvent stops library tasks attempts S m e) × IsLawful stops library tasks attempts S (step m e) es

-- the law: the cells are those of the state after the settled tasks fired one after another
abbrev pub IsAccepted : Type 0
IsAccepted =
    (stops : Bool) (library : Library) (tasks : List Task) (attempts : ℕ → Attempt) (S : State) (es : List Event)
    → IsOrdered library S → IsLawful stops library tasks attempts S (opening (cells library S) (length tasks)) es
    → let m = run (opening (cells library S) (length tasks)) es in
    cells_now m ≡ cells library (siblings (fire_task library) stops (take (length m.settled) tasks) S).state
