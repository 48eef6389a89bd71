-- The answers of faithful calls: how they compose, and how the end of a transaction changes them.
use Rattle.std.specs.Prelude.{◌≡◌, ℕ, List, [], ◌∷◌, ◌++◌, Bool, true, false, map, Option, None}
use Rattle.hp_model.specs.Values.{Veto, vetoed}
use Rattle.hp_model.specs.Rules.{Library}
use Rattle.hp_model.specs.State.{State, IsOrdered}
use Rattle.hp_model.specs.Tree.{Task, Items, no_items, node, append, Node, Ending, committed, aborted, without_detachments}
use Rattle.hp_model.specs.Transactions.{Detached, End, done, abort_by, veto_by, Work, Closed, survivors, deferred_of, detached_of, unreleased}
use Rattle.hp_model.specs.Firing.{Firing, Siblings, end_of, action_veto}
use Rattle.hp_model.specs.Cascade.{Unit, Generation, TransactionReport, task_report, transaction_report, Cascade, transactions_of, UnitReport, unit_report, run_unit}
use Rattle.hp_model.specs.Cells.{Cells, cells, Changes, over, Read, Holds}
use Rattle.hp_model.specs.Soundness.{Answer, answer_of, FiringAnswer, firing_answer, Faithful}

-- ---- faithful calls, for each kind of step

abbrev pub FaithfulWork : Library → Work → List Read → Changes → Changes → Answer → Type 0
FaithfulWork library work reads before after answer = Faithful library (λ S. answer_of (work S)) (λ S. (work S).state) reads before after answer

abbrev pub FaithfulFiring : Library → (State → Firing) → List Read → Changes → Changes → FiringAnswer → Type 0
FaithfulFiring library fire reads before after answer = Faithful library (λ S. firing_answer (fire S)) (λ S. (fire S).state) reads before after answer

-- the result of sibling firings, besides the state
pub record SiblingsAnswer : Type 0 where
  pub firings : List FiringAnswer
  pub vetoed_by : Option Veto

abbrev pub siblings_answer : Siblings → SiblingsAnswer
siblings_answer g = record { firings = map firing_answer g.firings; vetoed_by = g.vetoed_by }

abbrev pub FaithfulSiblings : Library → (State → Siblings) → List Read → Changes → Changes → SiblingsAnswer → Type 0
FaithfulSiblings library group reads before after answer = Faithful library (λ S. siblings_answer (group S)) (λ S. (group S).state) reads before after answer

-- What a step reads of the state: on each state whose cells are those under the writes, where the reads hold, it is
-- this
pub record Finds {A : Type 0} (library : Library) (of : State → A) (reads : List Read) (writes : Changes) (found : A) : Type 0 where
  pub from : (base : Cells) → Holds base reads → (S : State) → IsOrdered library S → cells library S ≡ over base writes → of S ≡ found

-- ---- answers of works

-- an answer with nothing but an end
abbrev pub ended : End → Answer
ended e = record { end = e; queued = []; detached = []; items = no_items }

-- an answer with nothing but items
abbrev pub tells : Items → Answer
tells items = record { end = done; queued = []; detached = []; items = items }

-- an answer that queues or detaches tasks
abbrev pub placing : List Task → Answer
placing ts = record { end = done; queued = deferred_of ts; detached = map unreleased (detached_of ts); items = no_items }

-- one answer after another
abbrev pub followed : Answer → Answer → Answer
followed a b = record { end = b.end; queued = a.queued ++ b.queued; detached = a.detached ++ b.detached; items = append a.items b.items }

abbrev pub is_done : End → Bool
is_done done = true
is_done (abort_by x) = false
is_done (veto_by r) = false

-- the writes after work that has ended as a transaction: its own, or those before it
abbrev pub kept : End → (before after : Changes) → Changes
kept done before after = after
kept (abort_by x) before after = before
kept (veto_by r) before after = before

abbrev pub ending_of : End → Ending
ending_of done = committed
ending_of (abort_by x) = aborted x
ending_of (veto_by r) = aborted (vetoed r)

abbrev pub queued_at : End → List Task → List Task
queued_at done ts = ts
queued_at (abort_by x) ts = []
queued_at (veto_by r) ts = []

abbrev pub detached_at : End → List Detached → List Detached
detached_at done ds = ds
detached_at (abort_by x) ds = survivors ds
detached_at (veto_by r) ds = survivors ds

-- work that has ended as a nested transaction with this node, as a part of its parent's answer
abbrev pub closing : Node → Answer → End → Answer
closing what a e =
    record {
      end = e;
      queued = queued_at a.end a.queued;
      detached = detached_at a.end a.detached;
      items = node what (ending_of a.end) a.items no_items;
    }

-- the same for an action's firing, of a rule that may be closed
abbrev pub closing_action : Node → (closed : Bool) → (rule : ℕ) → Answer → FiringAnswer
closing_action what closed rule a =
    record {
      vetoed_by = action_veto closed rule a.end;
      queued = queued_at a.end a.queued;
      detached = detached_at a.end a.detached;
      items = node what (ending_of a.end) a.items no_items;
    }

-- a firing that only has its node, and may veto
abbrev pub standing : Node → Option Veto → FiringAnswer
standing what v = record { vetoed_by = v; queued = []; detached = []; items = node what committed no_items no_items }

-- a firing that only has its node and passes on tasks
abbrev pub handing_on : Node → List Task → FiringAnswer
handing_on what ts = record { vetoed_by = None; queued = deferred_of ts; detached = map unreleased (detached_of ts); items = node what committed no_items no_items }

-- ---- answers of siblings

abbrev pub queued_in : List FiringAnswer → List Task
queued_in [] = []
queued_in (f ∷ fs) = f.queued ++ queued_in fs

abbrev pub detached_in : List FiringAnswer → List Detached
detached_in [] = []
detached_in (f ∷ fs) = f.detached ++ detached_in fs

abbrev pub items_in : List FiringAnswer → Items
items_in [] = no_items
items_in (f ∷ fs) = append f.items (items_in fs)

-- a group as a part of the transaction around it, which a veto aborts
abbrev pub group_answer : SiblingsAnswer → Answer
group_answer g = record { end = end_of g.vetoed_by; queued = queued_in g.firings; detached = detached_in g.firings; items = items_in g.firings }

-- ---- answers of top-level transactions, generations and cascades

-- an answer without the queue, which the next round runs
abbrev pub drained_answer : Answer → Answer
drained_answer a = record { end = done; queued = []; detached = a.detached; items = a.items }

-- nothing is left for a further round
abbrev pub is_settled : End → List Task → Bool
is_settled done [] = true
is_settled done (t ∷ ts) = false
is_settled (abort_by x) ts = true
is_settled (veto_by r) ts = true

-- the result of a top-level transaction, besides the state
pub record TopAnswer : Type 0 where
  pub ending : Ending
  pub items : Items
  pub detached : List Detached

abbrev pub top_answer : Closed → TopAnswer
top_answer c = record { ending = c.ending; items = without_detachments c.items; detached = c.detached }

-- work that has ended as a top-level transaction
abbrev pub closing_top : Answer → TopAnswer
closing_top a = record { ending = ending_of a.end; items = a.items; detached = detached_at a.end a.detached }

abbrev pub FaithfulTop : Library → (State → Closed) → List Read → Changes → Changes → TopAnswer → Type 0
FaithfulTop library transaction reads before after answer = Faithful library (λ S. top_answer (transaction S)) (λ S. (transaction S).state) reads before after answer

-- the result of a generation
pub record GenerationAnswer : Type 0 where
  pub transactions : List TransactionReport
  pub detached : List Detached

abbrev pub generation_answer : Generation → GenerationAnswer
generation_answer g = record { transactions = map transaction_report g.transactions; detached = g.detached }

abbrev pub FaithfulGeneration : Library → (State → Generation) → List Read → Changes → Changes → GenerationAnswer → Type 0
FaithfulGeneration library run reads before after answer = Faithful library (λ S. generation_answer (run S)) (λ S. (run S).state) reads before after answer

-- the report of a top-level transaction
abbrev pub reported : Option Task → TopAnswer → TransactionReport
reported t a = record { task = task_report t; ending = a.ending; items = a.items }

-- the reports of a cascade's transactions
abbrev pub cascade_answer : Cascade → List TransactionReport
cascade_answer c = map transaction_report (transactions_of c)

abbrev pub FaithfulCascade : Library → (State → Cascade) → List Read → Changes → Changes → List TransactionReport → Type 0
FaithfulCascade library run reads before after answer = Faithful library (λ S. cascade_answer (run S)) (λ S. (run S).state) reads before after answer

-- a unit
abbrev pub FaithfulUnit : Library → Unit → List Read → Changes → Changes → UnitReport → Type 0
FaithfulUnit library unit reads before after report = Faithful library (λ S. unit_report unit (run_unit library unit S)) (λ S. (run_unit library unit S).state) reads before after report
