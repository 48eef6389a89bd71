-- How far a group of firings with workers has come.
use Rattle.std.specs.Prelude.{◌≡◌, ℕ, zero, suc, ◌+◌, ◌<◌, ◌≤◌, Bool, true, List, Option, Some, None, All, IfSome, map, option_map, drop, length, cond}
use Rattle.std.specs.List.{slice_index_or}
use Rattle.hp_model.specs.Values.{Veto}
use Rattle.hp_model.specs.Rules.{Library}
use Rattle.hp_model.specs.Tree.{Task}
use Rattle.hp_model.specs.Firing.{siblings, fire_task}
use Rattle.hp_model.specs.Soundness.{IsSound}
use Rattle.hp_model.specs.Answers.{FaithfulSiblings}
use Rattle.hp_model.proofs.FaithfulFirings.{GroupCompletes}
use Rattle.hp_value.specs.Mapped.{veto}
use Rattle.hp_rule.specs.Mapped.{task}
use Rattle.hp_view.specs.Seeing.{Seeing, GoesOn, written}
use Rattle.hp_attempt.specs.declared.outcome.Outcome.{Outcome}
use Rattle.hp_attempt.specs.Mapped.{firing, attempt}
use Rattle.hp_attempt.specs.Fronts.{AreSound}
use Rattle.hp_fire.specs.declared.speculate.pending.Tried.{Tried}
use Rattle.hp_fire.specs.declared.speculate.settled.Settled.{Settled}
use Rattle.hp_fire.specs.declared.speculate.counts.Counts.{Counts}
use Rattle.hp_fire.specs.declared.speculate.worker.Worker.{Worker}
use Rattle.hp_fire.specs.declared.speculate.progress.Progress.{Progress}
use Rattle.hp_fire.specs.declared.speculate.wave.Wave.{Wave}
use Rattle.hp_fire.specs.declared.speculate.wave.Job.{Job}
use Rattle.hp_fire.specs.declared.speculate.channel.Sent.{Sent}
use Rattle.hp_fire.specs.declared.speculate.channel.Soundness.{Soundness}
use Rattle.hp_fire.specs.Channels.{IsOf, IsFrom}
use Rattle.hp_fire.specs.Starts.{HasMerged}
use Rattle.hp_board.specs.Deal.{IsSeatOf}
use Rattle.hp_board.specs.Passes.{IsPassOf}
use Rattle.rtrb.specs.Ring.{sent, received}
use Rattle.rtrb.specs.declared.consumer.Consumer.{Consumer}
use Rattle.std.specs.Global.{Global}

-- From one view to another the group has come this far: these outcomes and the firings of the tasks that are left make
-- the whole group's outcomes. Or these are all outcomes, since a veto stopped the group.
pub record IsSoFar (library : Library) (stops : Bool) (tasks : List Task) (first now : Seeing) (outcomes : List Outcome) (end : Option Veto) : Type 0 where
  pub goes_on : GoesOn first now
  pub goes : end ≡ None
      → GroupCompletes library (fire_task library) stops tasks (written first) (drop (length outcomes) tasks) now.reads (written now) (map firing outcomes)
  pub stopped : (v : Veto) → end ≡ Some v
      → FaithfulSiblings library (siblings (fire_task library) stops tasks) now.reads (written first) (written now) (record { firings = map firing outcomes; vetoed_by = Some v })

-- the group and its view have come further, from whatever view the group began at
abbrev pub ComesFurther : Library → (stops : Bool) → List Task → Seeing → Settled → Seeing → Settled → Type 0
ComesFurther library stops tasks view s view' s' = (first : Seeing) → IsSoFar library stops tasks first view s.outcomes.items (option_map veto s.end)
    → IsSoFar library stops tasks first view' s'.outcomes.items (option_map veto s'.end)

-- no veto has stopped the group, and of this number of tasks one is left
abbrev pub GoesOnBelow : Settled → ℕ → Type 0
GoesOnBelow s tasks = (s.end ≡ None) × (length s.outcomes.items < tasks)

-- what a worker brings is sound
abbrev pub AreSoundTries : Library → List Tried → Type 0
AreSoundTries library tries = All (λ t. IsSound library (attempt t.attempt)) tries

-- the task of this number is marked as tried again after the first wave
abbrev pub IsRetried : Counts → ℕ → Type 0
IsRetried c number = slice_index_or c.retried.items number true ≡ true

-- how many of the first n tasks are not marked so
abbrev pub firsts : List Bool → ℕ → ℕ
firsts retried zero = 0
firsts retried (suc n) = firsts retried n + cond (slice_index_or retried n true) 0 1

-- no more tasks are counted as accepted than are settled
abbrev pub IsAcceptedWithin : Progress → Type 0
IsAcceptedWithin p = p.counts.accepted ≤ length p.settled.outcomes.items

-- no more tasks are counted as accepted than are settled, and each wave but the first has led to a rerun
abbrev pub IsCounted : Progress → Type 0
IsCounted p = IsAcceptedWithin p × (p.counts.waves + p.counts.accepted ≤ length p.settled.outcomes.items + 1)

-- the same once the rerun that the last wave may lead to has run
abbrev pub OwesOne : Progress → Type 0
OwesOne p = IsAcceptedWithin p × (p.counts.waves + p.counts.accepted ≤ length p.settled.outcomes.items + 2)

-- what a worker of a wave is given: a seat at the wave's board, and an end of a channel for attempts that are sound for
-- the library, at tasks that are tried from the wave's snapshot
pub record IsJob (library : Library) (w : Wave) (job : Job) : Type 0 where
  pub seat : IsSeatOf w.board.deal job.seat
  pub of : IsOf library (sent job.sender)
  pub from : IsFrom w.snapshot w.done (sent job.sender)

-- the owner's ends of such channels
abbrev pub AreOf : Library → List (Consumer Sent Global Soundness) → Type 0
AreOf library receivers = All (λ r. IsOf library (received r)) receivers

-- Tasks were settled from attempts. As many of them were counted as accepted as are not marked as tried again: no more
-- than were settled, and fewer if the first of them is marked
pub record IsAhead (old new : Progress) : Type 0 where
  pub longer : length old.settled.outcomes.items ≤ length new.settled.outcomes.items
  pub waves : new.counts.waves ≡ old.counts.waves
  pub retried : new.counts.retried ≡ old.counts.retried
  pub exactly : new.counts.accepted + firsts old.counts.retried.items (length old.settled.outcomes.items)
      ≡ old.counts.accepted + firsts old.counts.retried.items (length new.settled.outcomes.items)
  pub accepted : new.counts.accepted + length old.settled.outcomes.items ≤ old.counts.accepted + length new.settled.outcomes.items
  pub reran : length old.settled.outcomes.items < length new.settled.outcomes.items → IsRetried old.counts (length old.settled.outcomes.items)
      → new.counts.accepted + length old.settled.outcomes.items < old.counts.accepted + length new.settled.outcomes.items
  pub none : length new.settled.outcomes.items ≡ length old.settled.outcomes.items → old.settled.end ≡ None → new.settled.end ≡ None

-- the group and its view have come further, and the attempts are sound
pub record Comes (library : Library) (stops : Bool) (tasks : List Task) (view : Seeing) (p : Progress) (view' : Seeing) (p' : Progress) : Type 0 where
  pub ahead : IsAhead p p'
  pub sound : AreSound library p'.pending.attempts.items
  pub so_far : ComesFurther library stops tasks view p.settled view' p'.settled

-- the same for the tasks of a wave
abbrev pub ComesInWave : Library → Wave → Seeing → Progress → Seeing → Progress → Type 0
ComesInWave library w view p view' p' = Comes library w.stop_at_veto (map task w.tasks.now) view p view' p'

-- A wave has run, if one was due: the group and its view have come further. No veto stops the group where no task was
-- settled. Then the last wave may lead to one more rerun.
pub record ComesByWave (library : Library) (stops : Bool) (tasks : List Task) (view : Seeing) (p : Progress) (view' : Seeing) (p' : Progress) : Type 0 where
  pub longer : length p.settled.outcomes.items ≤ length p'.settled.outcomes.items
  pub none : length p'.settled.outcomes.items ≡ length p.settled.outcomes.items → p'.settled.end ≡ None
  pub counted : length p.settled.outcomes.items < length p'.settled.outcomes.items → IsCounted p'
  pub owes : OwesOne p'
  pub sound : AreSound library p'.pending.attempts.items
  pub so_far : ComesFurther library stops tasks view p.settled view' p'.settled

-- at least one task was settled, and the counts are right
pub record Advances (library : Library) (stops : Bool) (tasks : List Task) (view : Seeing) (p : Progress) (view' : Seeing) (p' : Progress) : Type 0 where
  pub more : length p.settled.outcomes.items < length p'.settled.outcomes.items
  pub counted : IsCounted p'
  pub sound : AreSound library p'.pending.attempts.items
  pub so_far : ComesFurther library stops tasks view p.settled view' p'.settled

-- the board has a number for each task that isn't settled
abbrev pub IsWave : Wave → Type 0
IsWave w = w.done + length w.board.cells ≡ length w.tasks.now

-- A worker has its seat and its pass at the wave's board, except while the board has them. It has merged what the pass
-- knows of the first tasks.
abbrev pub IsWorker : Worker → Type 0
IsWorker w = IfSome w.seat (IsSeatOf w.wave.now.board.deal) × IfSome w.pass (λ p. IsPassOf w.wave.now.board.cells p × HasMerged w.predecessors p)
