-- What settling the front of a row of attempts does.
use Rattle.std.specs.Prelude.{◌≡◌, ℕ, zero, suc, Bool, true, false, List, [], ◌∷◌, Option, Some, None, map, take, drop, length}
use Rattle.hp_model.specs.Values.{Veto}
use Rattle.hp_model.specs.Rules.{Library}
use Rattle.hp_model.specs.Tree.{Task}
use Rattle.hp_model.specs.Cells.{Cells, Holds}
use Rattle.hp_model.specs.Firing.{siblings, fire_task}
use Rattle.hp_model.specs.Soundness.{IsSound}
use Rattle.hp_model.specs.Answers.{FaithfulSiblings}
use Rattle.hp_rule.specs.Mapped.{task}
use Rattle.hp_model.proofs.BridgesCells.{stacked}
use Rattle.hp_store.specs.Changes.{changes}
use Rattle.hp_view.specs.Adding.{AddsReads}
use Rattle.hp_view.specs.Seeing.{Seeing, written, now_in, IsSame}
use Rattle.hp_attempt.specs.Holding.{IsForAny}
use Rattle.hp_model.specs.States.{States, IsSoundFor, FaithfulFiringFor, FaithfulSiblingsFor}
use Rattle.hp_attempt.specs.Mapped.{veto_in, firing, attempt}
use Rattle.hp_attempt.specs.declared.outcome.Outcome.{Outcome}
use Rattle.hp_attempt.specs.declared.outcome.Attempt.{Attempt}

-- each attempt that is there is sound
abbrev pub AreSound : Library → List (Option Attempt) → Type 0
AreSound library [] = Unit {0}
AreSound library (None ∷ attempts) = AreSound library attempts
AreSound library (Some a ∷ attempts) = IsSound library (attempt a) × AreSound library attempts

-- each attempt that is there is sound for the class of states
abbrev pub AreSoundFor : States → Library → List (Option Attempt) → Type 0
AreSoundFor states library [] = Unit {0}
AreSoundFor states library (None ∷ attempts) = AreSoundFor states library attempts
AreSoundFor states library (Some a ∷ attempts) = IsSoundFor states library (attempt a) × AreSoundFor states library attempts

-- the veto of the last outcome, if it has one; before the first it is the given one
abbrev pub last_end : Option Veto → List Outcome → Option Veto
last_end v [] = v
last_end v (o ∷ outcomes) = last_end (veto_in o) outcomes

-- the veto at which the firings stopped, where they stop at one
abbrev pub stopped_by : (stops : Bool) → List Outcome → Option Veto
stopped_by false outcomes = None
stopped_by true outcomes = last_end None outcomes

-- the first attempt can't be accepted for the task: there is none, it is for another task, or its reads don't hold
abbrev pub Stays : Cells → Task → List (Option Attempt) → Type 0
Stays now t [] = Unit {0}
Stays now t (None ∷ attempts) = Unit {0}
Stays now t (Some a ∷ attempts) = (task a.task ≡ t) × Holds now a.reads → ⊥

abbrev pub StopsAt : Cells → List Task → List (Option Attempt) → Type 0
StopsAt now [] attempts = Unit {0}
StopsAt now (t ∷ tasks) attempts = Stays now t attempts

-- it is the longest front: it stopped at a veto, or no task is left, or the first attempt that is left can't be accepted
abbrev pub IsLongest : (stopped_by : Option Veto) → Cells → (tasks : List Task) → (left : List (Option Attempt)) → Type 0
IsLongest (Some r) now tasks left = Unit {0}
IsLongest None now tasks left = StopsAt now tasks left

-- The outcomes are those of the first tasks, as many as there are, fired one after the other as siblings, if their attempts
-- are sound
pub record FrontIs (stops : Bool) (tasks : List Task) (attempts : List (Option Attempt)) (outcomes : List Outcome) (old new : Seeing) : Type 0 where
  pub faithful : (library : Library) → AreSound library (take (length outcomes) attempts)
      → FaithfulSiblings library (siblings (fire_task library) stops (take (length outcomes) tasks)) new.reads (written old) (written new)
      (record { firings = map firing outcomes; vetoed_by = stopped_by stops outcomes })

-- the same for each class of states for which their attempts are sound
pub record FrontIsFor (stops : Bool) (tasks : List Task) (attempts : List (Option Attempt)) (outcomes : List Outcome) (old new : Seeing) : Type 0 where
  pub faithful : (states : States) (library : Library) → AreSoundFor states library (take (length outcomes) attempts)
      → FaithfulSiblingsFor states library (siblings (fire_task library) stops (take (length outcomes) tasks)) new.reads (written old) (written new)
      (record { firings = map firing outcomes; vetoed_by = stopped_by stops outcomes })

-- an attempt stands for a task's firing, for each class of states for which it is sound
pub record StandsFor (t : Task) (a : Attempt) (old new : Seeing) : Type 0 where
  pub faithful : (states : States) (library : Library) → IsSoundFor states library (attempt a)
      → FaithfulFiringFor states library (λ S. fire_task library S t) new.reads (written old) (written new) (firing a.outcome)

-- ---- what becomes of the view

-- an attempt is accepted: of what it read, the view reads what its own writes up to then leave open, and nothing else; and the
-- attempt's layer is written over these writes
pub record TakesAttempt (a : Attempt) (old new : Seeing) : Type 0 where
  pub base : new.base ≡ old.base
  pub reads : AddsReads (IsForAny (written old) a.reads) old.reads new.reads
  pub changes : written new ≡ stacked (written old) (changes a.layer.value)

-- so are the first ones, as many as given, one after the other
abbrev pub TakesSome : ℕ → List (Option Attempt) → Seeing → Seeing → Type 0
TakesSome zero attempts old new = IsSame old new
TakesSome (suc n) attempts old new =
    (a : Attempt) × (rest : List (Option Attempt)) × (mid : Seeing) × (drop n attempts ≡ Some a ∷ rest) × TakesSome n attempts old mid × TakesAttempt a mid new

-- outcomes are those of the first attempts
abbrev pub AreOutcomes : List Outcome → List (Option Attempt) → Type 0
AreOutcomes [] attempts = Unit {0}
AreOutcomes (o ∷ outcomes) [] = ⊥
AreOutcomes (o ∷ outcomes) (None ∷ attempts) = ⊥
AreOutcomes (o ∷ outcomes) (Some a ∷ attempts) = (a.outcome ≡ o) × AreOutcomes outcomes attempts

-- ---- one attempt

-- the first attempt is accepted, and gives its outcome
pub record TakesFirst (t : Task) (old new : Seeing) (before after : List (Option Attempt)) (outcome : Outcome) : Type 0 where
  pub taken : Attempt
  pub first : before ≡ Some taken ∷ after
  pub gives : taken.outcome ≡ outcome
  pub takes : TakesAttempt taken old new
  pub stands : StandsFor t taken old new

-- it is left
pub record LeavesFirst (t : Task) (old new : Seeing) (before after : List (Option Attempt)) : Type 0 where
  pub attempts : after ≡ before
  pub view : new ≡ old
  pub stays : Stays (now_in new) t after
