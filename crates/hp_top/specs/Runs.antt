-- What calls on a view promise: they go from one view to another as the definitions say.
use Rattle.std.specs.Prelude.{◌≡◌, ℕ, suc, List, length}
use Rattle.hp_model.specs.Rules.{Library}
use Rattle.hp_model.specs.State.{State}
use Rattle.hp_model.specs.Tree.{Task}
use Rattle.hp_model.specs.Transactions.{Work, Closed}
use Rattle.hp_model.specs.Firing.{fire_task}
use Rattle.hp_model.specs.Cascade.{Unit, top, top_course, generation, cascade, most_rounds, TransactionReport, UnitReport}
use Rattle.hp_model.specs.Cells.{Changes}
use Rattle.hp_model.specs.Soundness.{Answer}
use Rattle.hp_model.specs.Answers.{TopAnswer, FaithfulTop, GenerationAnswer, FaithfulGeneration, FaithfulCascade, FaithfulUnit}
use Rattle.hp_model.proofs.FaithfulTops.{Rounds}
use Rattle.hp_view.specs.Seeing.{Seeing, written, GoesOn}
use Rattle.hp_fire.specs.Runs.{Runs}

-- the call is faithful to the top-level transaction, and the new view continues the old one
pub record RunsTop (library : Library) (transaction : State → Closed) (old new : Seeing) (answer : TopAnswer) : Type 0 where
  pub goes_on : GoesOn old new
  pub faithful : FaithfulTop library transaction new.reads (written old) (written new) answer

-- the same for the generation of these tasks
pub record RunsGeneration (library : Library) (tasks : List Task) (old new : Seeing) (answer : GenerationAnswer) : Type 0 where
  pub goes_on : GoesOn old new
  pub faithful : FaithfulGeneration library (generation library tasks) new.reads (written old) (written new) answer

-- the same for the cascade of these tasks
pub record RunsCascade (library : Library) (tasks : List Task) (old new : Seeing) (reports : List TransactionReport) : Type 0 where
  pub goes_on : GoesOn old new
  pub faithful : FaithfulCascade library (cascade (most_rounds library) library tasks) new.reads (written old) (written new) reports

-- the same for the unit
pub record RunsUnit (library : Library) (unit : Unit) (old new : Seeing) (report : UnitReport) : Type 0 where
  pub goes_on : GoesOn old new
  pub faithful : FaithfulUnit library unit new.reads (written old) (written new) report

-- ---- parts of a top-level transaction

-- if the call so far is faithful to a work, the call as a whole is faithful to the work that continues it
pub record Continues (library : Library) (next : Work → Work) (old new : Seeing) (so_far answer : Answer) : Type 0 where
  pub goes_on : GoesOn old new
  pub runs : (entered : Seeing) → (work : Work) → Runs library work entered old so_far → Runs library (next work) entered new answer

-- one more of the rounds that are left is done
pub record IsRound (library : Library) (old new : Seeing) (so_far answer : Answer) : Type 0 where
  pub goes_on : GoesOn old new
  pub more : (whole : Work) → (w0 : Changes) → (left : ℕ) → Rounds library (fire_task library) whole w0 (suc left) old.reads (written old) so_far
      → Rounds library (fire_task library) whole w0 left new.reads (written new) answer

-- any transaction that began at the mark and took the course so far has ended so
pub record Closes (mark : ℕ) (old new : Seeing) (so_far : Answer) (answer : TopAnswer) : Type 0 where
  pub runs : (library : Library) → (now depth : ℕ) → (entered : Seeing) → (work : Work) → length entered.undo ≡ mark
      → Runs library (top_course library now depth work) entered old so_far → RunsTop library (top library now depth work) entered new answer

-- the same for a transaction of which only the work is done
pub record Finishes (library : Library) (now depth : ℕ) (mark : ℕ) (old new : Seeing) (so_far : Answer) (answer : TopAnswer) : Type 0 where
  pub runs : (entered : Seeing) → (work : Work) → length entered.undo ≡ mark → Runs library work entered old so_far → RunsTop library (top library now depth work) entered new answer
