-- What every top-level transaction keeps where only allowed rules fire, and what it leaves to run.
use Rattle.std.proofs.Common.{arith, ◌≡◌, refl, ℕ, zero, suc, ◌-◌, ◌<◌, ◌≤◌, List, [], ◌∷◌, ◌++◌, Option, None, Some, Bool, true, false, map}
use Rattle.std.specs.List.{AllByRecursion, cons_option}
use Rattle.std.specs.Bool.{then_some}
use Rattle.hp_model.specs.Values.{Veto}
use Rattle.hp_model.specs.Occurrences.{commit_reached, moment_reached}
use Rattle.hp_model.specs.Rules.{Coupling, immediate, deferred, separate, dependent, exclusive, is_deferred, is_detached, Library}
use Rattle.hp_model.specs.State.{State}
use Rattle.hp_model.specs.Tree.{Task, Step, condition_step, action_step}
use Rattle.hp_model.specs.Transactions.{Detached, End, done, abort_by, veto_by, Course, Work, then_do, drained, Closed, closed, closed_by, survivor_by, survivors, detached_of, unreleased}
use Rattle.hp_model.specs.Firing.{siblings, course_of, signal_in, level_at, fire_task, below_limit}
use Rattle.hp_model.specs.Cascade.{Unit, now_in, transaction, moment, no_context, unit_work, task_work, most_rounds, next_round, rounds, top_course, top, veto_end, Transaction}
use Rattle.hp_model.specs.Cascade.{generation, alone, due_by, due, cascade, run_unit, transactions_of}
use Rattle.hp_model.specs.Chains.{signal_triggers, body_triggers, unit_triggers}
use Rattle.hp_model.proofs.Guarded.{rank, body_rank, firing_course, step_rank}
use Rattle.hp_model.proofs.Guarded.{every_append, every_filter, every_to, both_pass, Guard, IsAllowed, IsPlainEnd, IsNew, KeptBy, Passes, FiresKept, then_do_kept, siblings_kept}
use Rattle.hp_model.proofs.Guarded.{signal_kept, body_kept, level_kept, fire_kept}

abbrev pub tasks : List Detached → List Task
tasks ds = map (λ (d : Detached). d.task) ds

pub step_small : (s : Step) → step_rank s ≤ 1
step_small condition_step = omega arith
step_small (action_step found) = omega arith

pub rank_small : (t : Task) → rank t ≤ body_rank t.depth
rank_small t = let small : step_rank t.step ≤ 1 = step_small t.step in omega arith

abbrev pub report_of : Option Task → Closed → Transaction
report_of t c = record { task = t; ending = c.ending; items = c.items }

-- ---- the tasks that a course leaves are new and may fire

module _ (limit : ℕ) (May : Task → Type 0) where
  abbrev pub AreNew : ℕ → List Task → Type 0
  AreNew n ts = AllByRecursion (IsNew limit May n) ts

  abbrev pub Leaves : ℕ → State → Course → Type 0
  Leaves n S c = AreNew n c.queued × AreNew n (tasks c.detached)

  pub lower_new : (m n : ℕ) (ts : List Task) → m ≤ n → AreNew n ts → AreNew m ts
  lower_new m n ts low h = every_to (IsNew limit May n) (IsNew limit May m) ts (λ t k. let above : n < rank t = k.0.0 in ((omega (arith, low, above), k.0.1), k.1)) h

  pub tasks_append : (n : ℕ) (ds es : List Detached) → AreNew n (tasks ds) → AreNew n (tasks es) → AreNew n (tasks (ds ++ es))
  tasks_append n [] es h k = k
  tasks_append n (d ∷ ds) es h k = (h.0, tasks_append n ds es h.1 k)

  tasks_unreleased : (n : ℕ) (ts : List Task) → AreNew n ts → AreNew n (tasks (map unreleased ts))
  tasks_unreleased n [] h = tt
  tasks_unreleased n (t ∷ ts) h = (h.0, tasks_unreleased n ts h.1)

  survivor_new : (n : ℕ) (place : Coupling) (e : Detached) (es : List Detached) → IsNew limit May n e.task → AreNew n (tasks es) → AreNew n (tasks (cons_option (survivor_by place e) es))
  survivor_new n immediate e es h k = k
  survivor_new n deferred e es h k = k
  survivor_new n separate e es h k = (h, k)
  survivor_new n dependent e es h k = k
  survivor_new n exclusive e es h k = (h, k)

  survivors_new : (n : ℕ) (ds : List Detached) → AreNew n (tasks ds) → AreNew n (tasks (survivors ds))
  survivors_new n [] h = tt
  survivors_new n (e ∷ es) h = survivor_new n e.task.place e (survivors es) h.0 (survivors_new n es h.1)

  pub closed_leaves : (n : ℕ) (e : End) (S : State) (c : Course) → Leaves n S c → AreNew n (closed_by e S c).queued × AreNew n (tasks (closed_by e S c).detached)
  closed_leaves n done S c h = h
  closed_leaves n (abort_by x) S c h = (tt, survivors_new n c.detached h.1)
  closed_leaves n (veto_by r) S c h = (tt, survivors_new n c.detached h.1)

  -- a task that is due is detached
  abbrev pub AreDue : ℕ → List Task → Type 0
  AreDue n ts = AllByRecursion (λ (t : Task). IsNew limit May n t × (is_detached t.place ≡ true)) ts

  due_chosen : (n : ℕ) (b : Bool) (t : Task) (ts : List Task) → IsNew limit May n t → is_detached t.place ≡ true → AreDue n ts → AreDue n (cons_option (then_some b t) ts)
  due_chosen n true t ts h is k = ((h, is), k)
  due_chosen n false t ts h is k = k

  due_one : (n : ℕ) (place : Coupling) (released : Bool) (t : Task) (ts : List Task) → is_detached t.place ≡ is_detached place → IsNew limit May n t → AreDue n ts
      → AreDue n (cons_option (then_some (due_by place released) t) ts)
  due_one n immediate released t ts same h k = k
  due_one n deferred released t ts same h k = k
  due_one n separate released t ts same h k = ((h, same), k)
  due_one n dependent released t ts same h k = ((h, same), k)
  due_one n exclusive released t ts same h k = due_chosen n released t ts h same k

  pub due_new : (n : ℕ) (ds : List Detached) → AreNew n (tasks ds) → AreDue n (due ds)
  due_new n [] h = tt
  due_new n (e ∷ es) h = due_one n e.task.place e.released e.task (due es) refl h.0 (due_new n es h.1)

pub leaving : (library : Library) (allowed : ℕ → ℕ → Bool) (limit : ℕ) → KeptBy library allowed limit (Leaves limit (IsAllowed library allowed))
leaving library allowed limit = let May : Task → Type 0 = IsAllowed library allowed in record {
  at_end = λ n S e plain. (tt, tt);
  at_limit = λ n S t deep h. (tt, tt);
  at_join = λ n S c d h k. (every_append (IsNew limit May n) c.queued d.queued h.0 k.0, tasks_append limit May n c.detached d.detached h.1 k.1);
  at_emission = λ n S v. (tt, tt);
  at_operation = λ n S op. (tt, tt);
  at_rule = λ n S op m r. (tt, tt);
  at_signal = λ n S p c h. h;
  at_tasks = λ n S ts h. (
    every_filter (IsNew limit May n) (λ (t : Task). is_deferred t.place) ts h,
    tasks_unreleased limit May n (detached_of ts)
        (every_filter (IsNew limit May n) (λ (t : Task). is_detached t.place) ts h),
  );
  at_node = λ n S c what e shallow plain h. closed_leaves limit May n c.end S c h;
  at_drain = λ n S c h. (tt, h.1);
  at_ending = λ n S c e plain h. h;
  at_lower = λ m n S c low h. (lower_new limit May m n c.queued low h.0, lower_new limit May m n (tasks c.detached) low h.1);
}

-- ---- top-level transactions

veto_plain : (v : Option Veto) → IsPlainEnd (veto_end v)
veto_plain None = tt
veto_plain (Some r) = tt

module _ (library : Library) (allowed : ℕ → ℕ → Bool) (guard : Guard library allowed) (P : ℕ → State → Course → Type 0) (kept : KeptBy library allowed library.depth_limit P) where
  abbrev May : Task → Type 0
  May = IsAllowed library allowed

  abbrev limit : ℕ
  limit = library.depth_limit

  fires : FiresKept library allowed guard limit P kept (λ d. d ≤ limit) (fire_task library)
  fires = fire_kept library allowed guard limit P kept refl

  pub next_round_kept : (n : ℕ) (e : End) (ts : List Task) (S : State) (c : Course) → P n S c → AreNew limit May n ts → P n S (next_round (fire_task library) e ts c)
  next_round_kept n done [] S c h new = h
  next_round_kept n done (t ∷ ts) S c h new =
      kept.at_join n S (drained c) (course_of (siblings (fire_task library) true (t ∷ ts) c.state)) (kept.at_drain n S c h)
      (kept.at_lower n (suc n) c.state (course_of (siblings (fire_task library) true (t ∷ ts) c.state)) (omega arith)
      (siblings_kept library allowed guard limit P kept n (fire_task library) true (t ∷ ts) c.state (λ d. d ≤ limit) fires new))
  next_round_kept n (abort_by x) ts S c h new = h
  next_round_kept n (veto_by r) ts S c h new = h

  -- the work, and then the commit event
  pub work_kept : (n now depth : ℕ) (work : Work) (S : State) → depth ≤ limit → n ≤ body_rank depth → Passes allowed (suc depth) (signal_triggers library commit_reached) → P n S (work S)
      → P n S (then_do (work S) (signal_in (level_at library now depth) commit_reached))
  work_kept n now depth work S low small ok h =
      then_do_kept library allowed guard limit P kept n S (work S) (signal_in (level_at library now depth) commit_reached) h
      (λ S'. kept.at_lower n (body_rank depth) S' (signal_in (level_at library now depth) commit_reached S') small
      (signal_kept library allowed guard limit P kept now depth (below_limit library (limit - depth)) (level_kept library allowed guard limit P kept depth refl low) commit_reached S' ok))

  pub unit_kept : (u : Unit) (S : State) → Passes allowed 1 (unit_triggers library u) → P 1 S (unit_work library u S)
  unit_kept (transaction now body) S ok =
      body_kept library allowed guard limit P kept now 0 (below_limit library (limit - 0)) (level_kept library allowed guard limit P kept 0 refl (omega arith)) body (no_context now) S
      (both_pass (allowed 1) (body_triggers library body) (signal_triggers library commit_reached) ok).0
  unit_kept (moment t) S ok =
      signal_kept library allowed guard limit P kept t 0 (below_limit library (limit - 0)) (level_kept library allowed guard limit P kept 0 refl (omega arith)) (moment_reached t) S
      (both_pass (allowed 1) (signal_triggers library (moment_reached t)) (signal_triggers library commit_reached) ok).0

  pub task_kept : (t : Task) (S : State) → t.depth ≤ limit → May t → P (rank t) S (task_work library t S)
  task_kept t S low ok = kept.at_ending (rank t) S (firing_course (fire_task library S t)) (veto_end (fire_task library S t).vetoed_by)
      (veto_plain (fire_task library S t).vetoed_by) (fires S t low ok)

pub unit_commit : (library : Library) (allowed : ℕ → ℕ → Bool) (u : Unit) → Passes allowed 1 (unit_triggers library u) → Passes allowed 1 (signal_triggers library commit_reached)
unit_commit library allowed (transaction now body) ok = (both_pass (allowed 1) (body_triggers library body) (signal_triggers library commit_reached) ok).1
unit_commit library allowed (moment t) ok = (both_pass (allowed 1) (signal_triggers library (moment_reached t)) (signal_triggers library commit_reached) ok).1

module _ (library : Library) (allowed : ℕ → ℕ → Bool) (guard : Guard library allowed) (P : ℕ → State → Course → Type 0) (kept : KeptBy library allowed library.depth_limit P) where
  abbrev leaves : KeptBy library allowed library.depth_limit (Leaves library.depth_limit (IsAllowed library allowed))
  leaves = leaving library allowed library.depth_limit

  rounds_kept : (k n : ℕ) (S : State) (c : Course) → P n S c → Leaves library.depth_limit (IsAllowed library allowed) n S c → P n S (rounds k (fire_task library) c)
  rounds_kept zero n S c h r = h
  rounds_kept (suc k) n S c h r =
      rounds_kept k n S (next_round (fire_task library) c.end c.queued c) (next_round_kept library allowed guard P kept n c.end c.queued S c h r.0)
      (next_round_kept library allowed guard (Leaves library.depth_limit (IsAllowed library allowed)) leaves n c.end c.queued S c r r.0)

  pub top_kept : (n now depth : ℕ) (work : Work) (S : State) → depth ≤ library.depth_limit → n ≤ body_rank depth → Passes allowed (suc depth) (signal_triggers library commit_reached)
      → P n S (work S) → Leaves library.depth_limit (IsAllowed library allowed) n S (work S) → P n S (top_course library now depth work S)
  top_kept n now depth work S low small ok h r =
      rounds_kept (most_rounds library) n S (then_do (work S) (signal_in (level_at library now depth) commit_reached)) (work_kept library allowed guard P kept n now depth work S low small ok h)
      (work_kept library allowed guard (Leaves library.depth_limit (IsAllowed library allowed)) leaves n now depth work S low small ok r)

  pub unit_course : (u : Unit) (S : State) → Passes allowed 1 (unit_triggers library u) → P 1 S (top_course library (now_in u) 0 (unit_work library u) S)
  unit_course u S ok =
      top_kept 1 (now_in u) 0 (unit_work library u) S (omega arith) (omega arith) (unit_commit library allowed u ok) (unit_kept library allowed guard P kept u S ok)
      (unit_kept library allowed guard (Leaves library.depth_limit (IsAllowed library allowed)) leaves u S ok)

  pub task_course : (t : Task) (S : State) → t.depth ≤ library.depth_limit → IsAllowed library allowed t → Passes allowed (suc t.depth) (signal_triggers library commit_reached)
      → P (rank t) S (top_course library t.now t.depth (task_work library t) S)
  task_course t S low ok commit =
      top_kept (rank t) t.now t.depth (task_work library t) S low (rank_small t) commit (task_kept library allowed guard P kept t S low ok)
      (task_kept library allowed guard (Leaves library.depth_limit (IsAllowed library allowed)) leaves t S low ok)

-- ---- cascades

module _ (library : Library) (allowed : ℕ → ℕ → Bool) (guard : Guard library allowed) where
  abbrev limit' : ℕ
  limit' = library.depth_limit

  abbrev May' : Task → Type 0
  May' = IsAllowed library allowed

  abbrev Lists : ℕ → State → Course → Type 0
  Lists = Leaves limit' May'

  pub unit_leaves : (u : Unit) (S : State) → Passes allowed 1 (unit_triggers library u) → AreNew limit' May' 1 (tasks (top library (now_in u) 0 (unit_work library u) S).detached)
  unit_leaves u S ok =
      let c = top_course library (now_in u) 0 (unit_work library u) S in
      (closed_leaves limit' May' 1 c.end S c (unit_course library allowed guard Lists (leaving library allowed limit') u S ok)).1

  pub task_leaves : (t : Task) (S : State) → t.depth ≤ limit' → May' t → is_detached t.place ≡ true → AreNew limit' May' (rank t) (tasks (top library t.now t.depth (task_work library t) S).detached)
  task_leaves t S low ok is =
      let c = top_course library t.now t.depth (task_work library t) S in
      (closed_leaves limit' May' (rank t) c.end S c (task_course library allowed guard Lists (leaving library allowed limit') t S low ok (ok.1 is))).1

  -- what a generation of ranks above m detaches has ranks above m + 1
  pub generation_leaves : (m : ℕ) (ts : List Task) (S : State) → AreDue limit' May' m ts → AreNew limit' May' (suc m) (tasks (generation library ts S).detached)
  generation_leaves m [] S h = tt
  generation_leaves m (t ∷ ts) S h =
      let first = alone (Some t) (top library t.now t.depth (task_work library t) S) in
      tasks_append limit' May' (suc m) first.detached (generation library ts first.state).detached
      (lower_new limit' May' (suc m) (rank t) (tasks first.detached) h.0.0.0.0 (task_leaves t S h.0.0.0.1 h.0.0.1 h.0.1))
      (generation_leaves m ts first.state h.1)

  -- a fact of all courses gives one of all transactions
  module _ (P : ℕ → State → Course → Type 0) (kept : KeptBy library allowed library.depth_limit P) (Q : Transaction → Type 0)
      (unit_closed : (S : State) (c : Course) → P 0 S c → Q (report_of None (closed S c)))
      (task_closed : (t : Task) → May' t → (S : State) (c : Course) → P 0 S c → Q (report_of (Some t) (closed S c))) where
    generation_each : (m : ℕ) (ts : List Task) (S : State) → AreDue limit' May' m ts → AllByRecursion Q (generation library ts S).transactions
    generation_each m [] S h = tt
    generation_each m (t ∷ ts) S h =
        let c = top_course library t.now t.depth (task_work library t) S in
        let first = alone (Some t) (top library t.now t.depth (task_work library t) S) in (
          task_closed t h.0.0.1 S c (kept.at_lower 0 (rank t) S c (omega arith) (task_course library allowed guard P kept t S h.0.0.0.1 h.0.0.1 (h.0.0.1.1 h.0.1))),
          generation_each m ts first.state h.1,
        )

    cascade_each : (n m : ℕ) (ts : List Task) (S : State) → AreDue limit' May' m ts → AllByRecursion Q (transactions_of (cascade n library ts S))
    cascade_each zero m ts S h = tt
    cascade_each (suc n) m [] S h = tt
    cascade_each (suc n) m (t ∷ ts) S h =
        let g = generation library (t ∷ ts) S in
        every_append Q g.transactions (transactions_of (cascade n library (due g.detached) g.state)) (generation_each m (t ∷ ts) S h)
        (cascade_each n (suc m) (due g.detached) g.state (due_new limit' May' (suc m) g.detached (generation_leaves m (t ∷ ts) S h)))

    pub unit_each : (u : Unit) (S : State) → Passes allowed 1 (unit_triggers library u) → AllByRecursion Q (transactions_of (run_unit library u S))
    unit_each u S ok =
        let c = top_course library (now_in u) 0 (unit_work library u) S in
        let first = alone None (top library (now_in u) 0 (unit_work library u) S) in (
          unit_closed S c (kept.at_lower 0 1 S c (omega arith) (unit_course library allowed guard P kept u S ok)),
          cascade_each (most_rounds library) 1 (due first.detached) first.state (due_new limit' May' 1 first.detached (unit_leaves u S ok)),
        )
