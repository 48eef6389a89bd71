-- What calls on a view promise: they go from one view to another as the definitions say.
use Rattle.std.specs.Prelude.{◌≡◌, ⊤, ℕ, suc, ◌<◌, Bool, true, false, List, ◌∷◌, length, Result, Ok, Err}
use Rattle.hp_model.specs.Values.{Outcome}
use Rattle.hp_model.specs.Conditions.{Findings}
use Rattle.hp_model.specs.Occurrences.{Primitive}
use Rattle.hp_model.specs.Rules.{Library}
use Rattle.hp_model.specs.State.{State}
use Rattle.hp_model.specs.Tree.{Task, Node, without_detachments}
use Rattle.hp_model.specs.Transactions.{End, Work, done, abort_by, veto_by}
use Rattle.hp_model.specs.Firing.{Level, level_at, Firing, Siblings, signal_in, sub_in, action_course, run_action}
use Rattle.hp_model.specs.Cells.{Read, Changes}
use Rattle.hp_model.specs.Soundness.{Answer, FiringAnswer}
use Rattle.hp_model.specs.Answers.{FaithfulWork, FaithfulFiring, SiblingsAnswer, FaithfulSiblings, Finds, ended, tells, followed, kept}
use Rattle.hp_model.specs.Operations.{operation_items}
use Rattle.hp_model.proofs.Faithful.{Grows}
use Rattle.hp_model.proofs.FaithfulFirings.{AreAt}
use Rattle.hp_value.specs.declared.halt.Halt.{Halt}
use Rattle.hp_value.specs.declared.halt.Halt.TheVariants.{Cause as ByCause, Memory}
use Rattle.hp_value.specs.Mapped.{cause}
use Rattle.hp_view.specs.Seeing.{Seeing, written, GoesOn, OnlyReads}
use Rattle.hp_fire.specs.declared.course.Around.{Around}
use Rattle.hp_fire.specs.Joined.{IsPart, alone}

-- the call is faithful to the work, and the new view continues the old one
pub record Runs (library : Library) (work : Work) (old new : Seeing) (answer : Answer) : Type 0 where
  pub goes_on : GoesOn old new
  pub faithful : FaithfulWork library work new.reads (written old) (written new) answer

-- the same for a firing
pub record RunsFiring (library : Library) (fire : State → Firing) (old new : Seeing) (answer : FiringAnswer) : Type 0 where
  pub goes_on : GoesOn old new
  pub faithful : FaithfulFiring library fire new.reads (written old) (written new) answer

-- the same for sibling firings
pub record RunsGroup (library : Library) (group : State → Siblings) (old new : Seeing) (answer : SiblingsAnswer) : Type 0 where
  pub goes_on : GoesOn old new
  pub faithful : FaithfulSiblings library group new.reads (written old) (written new) answer

-- ---- what calls add to a course

-- the answer after is the one before, followed by an answer that has this property
pub record Appends (is_so : Answer → Type 0) (before after : Answer) : Type 0 where
  pub answer : Answer
  pub is : is_so answer
  pub added : after ≡ followed before answer

-- the work ran, and its answer was added
abbrev pub Adds : Library → Work → (old new : Seeing) → (before after : Answer) → Type 0
Adds library work old new before after = Appends (λ a. Runs library work old new a) before after

-- the same for a firing without siblings
pub record AddsFiring (library : Library) (fire : State → Firing) (old new : Seeing) (before after : Answer) : Type 0 where
  pub answer : FiringAnswer
  pub runs : RunsFiring library fire old new answer
  pub added : after ≡ followed before (alone answer)

-- The work's answer was added; or a cause ended the work before any effect, and nothing was added; or memory ran out.
abbrev pub Steps : Library → Work → (old new : Seeing) → (before after : Answer) → Result ⊤ Halt → Type 0
Steps library work old new before after (Ok u) = Adds library work old new before after
Steps library work old new before after (Err (ByCause x)) = (after ≡ before) × Runs library work old new (ended (abort_by (cause x)))
Steps library work old new before after (Err Memory) = ⊤

-- ---- parts of statements

-- what a statement finds in the state, by reads alone
pub record Finding {A : Type 0} (library : Library) (of : State → Outcome A) (old new : Seeing) (found : Outcome A) : Type 0 where
  pub only : OnlyReads old new
  pub goes_on : GoesOn old new
  pub finds : Finds library of new.reads (written new) found

-- the result, with its value mapped by f, is what the statement finds, unless memory ran out
abbrev pub Looks : {X A : Type 0} → (X → A) → Library → (State → Outcome A) → Seeing → Seeing → Result X Halt → Type 0
Looks f library of old new (Ok x) = Finding library of old new (Ok (f x))
Looks f library of old new (Err (ByCause c)) = Finding library of old new (Err (cause c))
Looks f library of old new (Err Memory) = ⊤

-- the operation succeeded, and what is left of its statement is the signal of its event
pub record Made (library : Library) (level : Level) (work : Work) (old new : Seeing) (p : Primitive) : Type 0 where
  pub goes_on : GoesOn old new
  pub then_signal : {more : List Read} {after : Changes} {a : Answer} → Grows new.reads more → FaithfulWork library (signal_in level p) more (written new) after a
      → FaithfulWork library work more (written old) after (followed (tells (without_detachments (operation_items p))) a)

-- the operation's occurrence, or the cause for which the statement ends, unless memory ran out
abbrev pub Makes : {X : Type 0} → (X → Primitive) → Library → Level → Work → Seeing → Seeing → Result X Halt → Type 0
Makes f library level work old new (Ok p) = Made library level work old new (f p)
Makes f library level work old new (Err (ByCause x)) = Runs library work old new (ended (abort_by (cause x)))
Makes f library level work old new (Err Memory) = ⊤

-- what is left of the work is the rest
pub record Starts (library : Library) (rest work : Work) (old new : Seeing) : Type 0 where
  pub then_runs : {last : Seeing} {a : Answer} → Runs library rest new last a → Runs library work old last a

-- the action of a task, which began at a mark, has ended, and its firing was added to the answer around it
abbrev pub ActionEnds : Library → Task → (mark : ℕ) → Node → Seeing → Seeing → Around → (before after : Answer) → Type 0
ActionEnds library t mark node now new around before after =
    (found : Findings) (first : Seeing) (outer a : Answer) → IsPart around outer a before → Runs library (action_course (level_at library t.now t.depth) t found) first now a
    → length first.undo ≡ mark
    → AddsFiring library (run_action node (level_at library t.now t.depth) t found) first new outer after

-- the end of a statement `sub` whose body ended so, and whether its other body follows
abbrev pub SubGoesOn : (body : End) → (statement : End) → (aborted : Bool) → Type 0
SubGoesOn done e b = (e ≡ done) × (b ≡ false)
SubGoesOn (abort_by x) e b = (e ≡ done) × (b ≡ true)
SubGoesOn (veto_by v) e b = (e ≡ veto_by v) × (b ≡ false)

-- the body of a statement `sub` has ended with this course, and nothing follows it
pub record SubOver (library : Library) (f : Work) (old new : Seeing) (a : Answer) : Type 0 where
  pub goes_on : GoesOn old new
  pub over : (otherwise : Work) → FaithfulWork library (λ S. sub_in f otherwise S) new.reads (written old) (written new) a

-- the body of a statement `sub` has aborted, and the other body follows
pub record SubAborted (library : Library) (f : Work) (old new : Seeing) (a : Answer) : Type 0 where
  pub goes_on : GoesOn old new
  pub then_other : (otherwise : Work) {more : List Read} {after : Changes} {b : Answer} → Grows new.reads more → FaithfulWork library otherwise more (written new) after b
      → FaithfulWork library (λ S. sub_in f otherwise S) more (written old) after (followed a b)

abbrev pub SubRuns : Library → Work → Seeing → Seeing → Answer → (aborted : Bool) → Type 0
SubRuns library f old new a false = SubOver library f old new a
SubRuns library f old new a true = SubAborted library f old new a

-- the body of a statement `sub`, which began at a mark, has ended, and was added to the answer around it
abbrev pub SubEnds : (mark : ℕ) → Seeing → Seeing → Around → (before after : Answer) → (aborted : Bool) → Type 0
SubEnds mark now new around before after aborted =
    (library : Library) (f : Work) (first : Seeing) (outer a : Answer) → IsPart around outer a before → Runs library f first now a → length first.undo ≡ mark
    → Appends (λ b. SubRuns library f first new b aborted) outer after

-- a nested transaction, which began at the first view and came to the second, has ended so
pub record Closes (first now new : Seeing) (e : End) : Type 0 where
  pub goes_on : GoesOn first new
  pub reads : new.reads ≡ now.reads
  pub writes : written new ≡ kept e (written first) (written now)

-- the tasks of a signal, or of a statement that fires a rule, may start in a transaction of this depth
pub record AreReady (library : Library) (depth : ℕ) (tasks : List Task) : Type 0 where
  pub at : AreAt (suc depth) tasks
  pub within : (t : Task) (ts : List Task) → tasks ≡ t ∷ ts → depth < library.depth_limit
