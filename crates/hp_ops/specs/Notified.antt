-- What notifying rules of an occurrence promises.
use Rattle.std.specs.Prelude.{◌≡◌, ℕ, ℤ, suc, List, [], ◌∷◌, ◌++◌, map, false, Option, Some, None, IfSome, option_map, option_to_list}
use Rattle.hp_model.specs.Occurrences.{Primitive, History, Occurrence, primitive_occurrence}
use Rattle.hp_model.specs.Events.{Event, occurrence_of}
use Rattle.hp_model.specs.Knowledge.{Knowledge, knowledge}
use Rattle.hp_model.specs.Rules.{Coupling, Library, rule_at}
use Rattle.hp_model.specs.State.{enabled, extended}
use Rattle.hp_model.specs.Tree.{Task, condition_step}
use Rattle.hp_model.specs.Cells.{object_cell, rule_cell, detector_cell, CellValue, knowledge_value, Cells, Changes, over, with_change, Read, Holds}
use Rattle.hp_model.specs.Firing.{level_at, triggered, triggered_by}
use Rattle.hp_model.specs.Soundness.{Faithful}
use Rattle.hp_model.proofs.BridgesCells.{stacked}
use Rattle.hp_model.proofs.BridgesReads.{status_at, knowledge_at}
use Rattle.hp_model.proofs.Faithful.{Grows}
use Rattle.hp_model.proofs.Hearing.{is_in, Heard}
use Rattle.hp_view.specs.Seeing.{Seeing, written}

-- the task of a rule's condition, at a moment of the clock, for an occurrence of its event
abbrev pub condition_task : ℕ → Coupling → (now depth : ℕ) → Occurrence → Task
condition_task n place now depth o = record { rule = n; step = condition_step; place = place; depth = depth; now = now; occurrence = o }

-- a task, at another depth
abbrev pub at_depth : ℕ → Task → Task
at_depth depth t = record { rule = t.rule; step = t.step; place = t.place; depth = depth; now = t.now; occurrence = t.occurrence }

-- one step of what a cell knows of a past
abbrev pub GoesOnePlace : Event → Primitive → Option CellValue → Option Occurrence → Knowledge → Type 0
GoesOnePlace event p value o next = (past : History) → knowledge_at value ≡ Some (knowledge event past) → (o ≡ occurrence_of event (p ∷ past)) × (next ≡ knowledge event (p ∷ past))

-- a detector's cell was read, and this is its step
pub record StepsOn (event : Event) (p : Primitive) (n : ℕ) (now : Seeing) (o : Option Occurrence) (next : Knowledge) : Type 0 where
  pub found : Option CellValue
  pub shows : (base : Cells) → Holds base now.reads → over base (written now) (detector_cell n) ≡ found
  pub steps : GoesOnePlace event p found o next

-- the steps with one more, if the detector was stepped
abbrev pub with_step : Changes → ℕ → Option Knowledge → Changes
with_step steps n None = steps
with_step steps n (Some next) = with_change steps (detector_cell n) (Some (Some (knowledge_value next)))

-- they name neither this rule's status nor its detector
pub record LeaveOut (n : ℕ) (steps : Changes) : Type 0 where
  pub status : steps (rule_cell n) ≡ None
  pub detector : steps (detector_cell n) ≡ None

-- nothing was written but detectors
pub record OnlySteps (old new : Seeing) : Type 0 where
  pub objects : (class : ℕ) → (key : ℤ) → written new (object_cell class key) ≡ written old (object_cell class key)
  pub rules : (n : ℕ) → written new (rule_cell n) ≡ written old (rule_cell n)

-- the occurrence that events share that don't look back, if it has been made: the primitive occurrence alone
abbrev pub Shares : Primitive → Option Occurrence → Type 0
Shares p shared = IfSome shared (λ o. o ≡ primitive_occurrence p)

-- this enabled rule has been notified, after any others, whose steps aren't written, and its event occurs so
pub record NotifiedEnabled (library : Library) (p : Primitive) (n : ℕ) (old new : Seeing) (o : Option Occurrence) (next : Option Knowledge) : Type 0 where
  pub extends : (now depth : ℕ) (ns : List ℕ) (reads : List Read) (before steps : Changes) (tasks : List Task) → is_in n ns ≡ false → LeaveOut n steps → Grows reads old.reads
      → ((base : Cells) → Holds base old.reads → status_at (over base (written old) (rule_cell n)) ≡ enabled)
      → Heard (level_at library now depth) p ns reads before (stacked (written old) steps) tasks
      → Heard (level_at library now depth) p (ns ++ n ∷ []) new.reads before (stacked (written new) (with_step steps n next))
      (tasks ++ option_to_list (option_map (triggered_by (level_at library now depth) n (rule_at library n)) o))

-- this rule has been notified, after any others, and these are its task, in a transaction of any depth, and its step
pub record Notified (library : Library) (now : ℕ) (p : Primitive) (n : ℕ) (old new : Seeing) (task : Option Task) (next : Option Knowledge) : Type 0 where
  pub extends : (depth : ℕ) (ns : List ℕ) (before steps : Changes) (tasks : List Task) → is_in n ns ≡ false → LeaveOut n steps
      → Heard (level_at library now depth) p ns old.reads before (stacked (written old) steps) tasks
      → Heard (level_at library now depth) p (ns ++ n ∷ []) new.reads before (stacked (written new) (with_step steps n next)) (tasks ++ option_to_list (option_map (at_depth (suc depth)) task))

-- all rules that the occurrence concerns have been notified, and these are the tasks, in a transaction of any depth
pub record AllNotified (library : Library) (now : ℕ) (p : Primitive) (old new : Seeing) (tasks : List Task) : Type 0 where
  pub heard : (depth : ℕ) → Faithful library (λ S. triggered (level_at library now depth) (extended p S)) (extended p) new.reads (written old) (written new) (map (at_depth (suc depth)) tasks)
