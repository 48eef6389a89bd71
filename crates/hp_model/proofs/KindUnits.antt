-- Firings, top-level transactions and units of a kinded library end with no cause of a kind.
use Rattle.std.proofs.Common.{arith, ◌≡◌, refl, sym, subst, ℕ, zero, suc, pos, ◌+◌, List, [], ◌∷◌, length, Option, None, Some, Bool, true, false, ◌-◌, IsTrue}
use Rattle.std.proofs.lemmas.Bool.{and_parts}
use Rattle.std.specs.Prelude.{replicate}
use Rattle.std.specs.Bool.{then_some}
use Rattle.std.specs.List.{AllByRecursion, list_all, slice_index_or, cons_option}
use Rattle.hp_model.specs.Values.{Veto, fits_64}
use Rattle.hp_model.specs.Occurrences.{commit_reached, moment_reached}
use Rattle.hp_model.specs.Conditions.{Findings, Verdict, satisfied, unsatisfied, faulty, verdict}
use Rattle.hp_model.specs.Rules.{Coupling, immediate, deferred, separate, dependent, exclusive, Library, Rule, no_rule, rule_at}
use Rattle.hp_model.specs.State.{State, initial_state, with_status, absent, RuleState}
use Rattle.hp_model.specs.Tree.{Task, Ending, committed, aborted, Step, condition_step, action_step, Node, sub_node, fire_node, act_node, without_action, with_fault, with_action, with_later_action}
use Rattle.hp_model.specs.Transactions.{Detached, End, done, abort_by, veto_by, Course, Work, then_do, drained, placed, Closed, closed, closed_by}
use Rattle.hp_model.specs.Firing.{Fire, siblings, course_of, signal_in, run_action, follow, decide, take_step, below_limit, level_at, fire_task, deferring, inert, fault_veto}
use Rattle.hp_model.specs.Firing.{action_course, action_context, action_task, task_environment, nested}
use Rattle.hp_model.specs.Cascade.{Unit, now_in, transaction, moment, no_context, unit_work, task_work, most_rounds, next_round, rounds, top_course, top, veto_end, Transaction}
use Rattle.hp_model.specs.Cascade.{generation, due_by, due, cascade, run_unit, run_units, transactions_of}
use Rattle.hp_model.specs.Ranges.{entry_fits, body_fits, unit_fits, IsFitLibrary}
use Rattle.hp_model.specs.Kinds.{Declared, is_declared, is_fired, Scope, no_scope, entries_kinded, with_entries, query_classes, is_condition_calm, rule_scope, rule_kinded}
use Rattle.hp_model.specs.Kinds.{rules_kinded, library_kinded, body_kinded, unit_kinded, is_body_calm, is_node_calm, NotOfKinds, CauseOf, KindedCause, KindsHold, NeverOfKinds}
use Rattle.hp_model.specs.Endings.{EndsOnlyBy, NodeHasOnly, TreeHasOnly, TransactionsHaveOnly, ReportHasOnly}
use Rattle.hp_model.proofs.Endings.{reports_only}
use Rattle.hp_model.proofs.Induction.{firing_course}
use Rattle.hp_model.proofs.FitValues.{each_append, OccurrenceFits, FindingsFit}
use Rattle.hp_model.proofs.FitStates.{objects_of_fit, initial_fits}
use Rattle.hp_model.proofs.FitCourses.{at_level, StepFits}
use Rattle.hp_model.proofs.FitUnits.{VerdictFits, verdict_fits, findings_bound, rule_at_fits}
use Rattle.hp_model.proofs.KindValues.{EnvironmentTyped}
use Rattle.hp_model.proofs.KindRows.{FindingsTyped, let_sorts, VerdictTyped, verdict_typed, findings_typed}
use Rattle.hp_model.proofs.KindCourses.{IsTimely, IsKindedEnd, weaker_course, Good, OccurredWell, StepTyped, TaskTyped, TasksTyped, DetachedTyped, CourseTyped, WorkTyped}
use Rattle.hp_model.proofs.KindCourses.{FireTyped, BelowTyped, ContextTyped, joined_typed, then_do_typed, closed_typed, placed_typed, siblings_typed, signal_typed, body_typed}

-- how a top-level transaction ends, without what is said of arithmetic
ending_kinded : (e : Ending) → EndsOnlyBy (CauseOf false) e → EndsOnlyBy NotOfKinds e
ending_kinded committed h = tt
ending_kinded (aborted c) h = h.0

-- ---- the rules by their numbers

kinded_from : (library : Library) (d : Declared) (n : ℕ) (rules : List Rule) (m : ℕ) → IsTrue (rules_kinded library d n rules)
    → IsTrue (rule_kinded library d (is_fired d (m + n)) (slice_index_or rules m no_rule))
kinded_from library d n [] m h = refl
kinded_from library d n (r ∷ rs) zero h =
    let same : n ≡ 0 + n = omega arith in
    subst (λ k. IsTrue (rule_kinded library d (is_fired d k) r)) same (and_parts (rule_kinded library d (is_fired d n) r) (rules_kinded library d (suc n) rs) h).0
kinded_from library d n (r ∷ rs) (suc m) h =
    let same : m + suc n ≡ suc m + n = omega arith in
    subst (λ k. IsTrue (rule_kinded library d (is_fired d k) (slice_index_or rs m no_rule))) same
    (kinded_from library d (suc n) rs m (and_parts (rule_kinded library d (is_fired d n) r) (rules_kinded library d (suc n) rs) h).1)

kinded_at : (library : Library) (d : Declared) (n : ℕ) → IsTrue (library_kinded library d) → IsTrue (rule_kinded library d (is_fired d n) (rule_at library n))
kinded_at library d n h =
    let same : n + 0 ≡ n = omega arith in
    subst (λ k. IsTrue (rule_kinded library d (is_fired d k) (rule_at library n))) same (kinded_from library d 0 library.rules n h)

module _ (library : Library) (d : Declared) (known : IsFitLibrary library) (kinded : IsTrue (library_kinded library d)) where
  -- the scope of a rule's condition
  abbrev scope_at : ℕ → Scope
  scope_at n = rule_scope (is_fired d n) (rule_at library n)

  rule_parts : (n : ℕ) → IsTrue (entries_kinded library d (scope_at n) (rule_at library n).condition)
      × IsTrue (body_kinded library d (with_entries library d (scope_at n) (rule_at library n).condition) (query_classes (rule_at library n).condition) (rule_at library n).action)
  rule_parts n =
      and_parts (entries_kinded library d (scope_at n) (rule_at library n).condition)
      (body_kinded library d (with_entries library d (scope_at n) (rule_at library n).condition) (query_classes (rule_at library n).condition) (rule_at library n).action)
      (kinded_at library d n kinded)

  action_fits : (n : ℕ) → IsTrue (body_fits (length library.classes) (rule_at library n).action)
  action_fits n =
      (and_parts (list_all entry_fits (rule_at library n).condition) (body_fits (length library.classes) (rule_at library n).action)
      (rule_at_fits (length library.classes) library.rules n known.rules_fit)).1

  condition_fits : (n : ℕ) → IsTrue (list_all entry_fits (rule_at library n).condition)
  condition_fits n =
      (and_parts (list_all entry_fits (rule_at library n).condition) (body_fits (length library.classes) (rule_at library n).action)
      (rule_at_fits (length library.classes) library.rules n known.rules_fit)).0

  -- what a rule's condition found
  abbrev FoundTyped : ℕ → Findings → Type 0
  FoundTyped n found = FindingsTyped library (query_classes (rule_at library n).condition) (let_sorts library d (scope_at n) (rule_at library n).condition) found

  -- what a task's firing starts with
  abbrev Occurred : Task → Type 0
  Occurred t = OccurrenceFits library t.occurrence × OccurredWell library d t.rule t.occurrence × IsTimely library d t.now

  -- the environment of a task's condition
  task_typed : (t : Task) → Occurred t → EnvironmentTyped library d (scope_at t.rule) (task_environment t)
  task_typed t h = record { columns = h.1.0; parts = h.1.1; rows = tt; values = tt; now = h.2 }

  action_typed : (t : Task) (found : Findings) → Occurred t → FindingsFit found → FoundTyped t.rule found
      → ContextTyped library d (with_entries library d (scope_at t.rule) (rule_at library t.rule).condition) (query_classes (rule_at library t.rule).condition) (action_context t found)
  action_typed t found h fit k = record {
    fits = (findings_bound library found (task_environment t) fit (h.0, tt, tt), fit.0);
    environment = findings_typed library d (rule_at library t.rule).condition found (scope_at t.rule) (task_environment t) k (task_typed t h);
    answers = k.0;
  }

  -- ---- firings

  run_action_typed : (what : Node) → NodeHasOnly (KindedCause library) what → (below : Option Fire) (t : Task) → is_node_calm library what ≡ is_body_calm (rule_at library t.rule).action
      → (found : Findings) (S : State) → BelowTyped library d below → Occurred t → FindingsFit found
      → FoundTyped t.rule found → Good library d S → CourseTyped library d true (firing_course (run_action what (at_level library t.now t.depth below) t found S))
  run_action_typed what is below t same found S fires occurred fit h good =
      let c = action_course (at_level library t.now t.depth below) t found S in
      let course : CourseTyped library d (is_body_calm (rule_at library t.rule).action) c =
      body_typed library d known t.now occurred.2 t.depth below fires (rule_at library t.rule).action (with_entries library d (scope_at t.rule) (rule_at library t.rule).condition)
      (query_classes (rule_at library t.rule).condition) (action_context t found)
      (action_fits t.rule) (rule_parts t.rule).1 (action_typed t found occurred fit h) S good in
      closed_typed library d c.end S c what done is tt (subst (λ b. IsKindedEnd b c.end) (sym same) course.end) good course

  deferring_typed : (place : Coupling) (t : Task) (found : Findings) (S : State) → Occurred t → FindingsFit found → FoundTyped t.rule found → Good library d S
      → CourseTyped library d true (firing_course (deferring (fire_node t.rule t.place with_later_action) (placed (action_task place t found ∷ []) S)))
  deferring_typed place t found S occurred fit h good =
      closed_typed library d {inner = false} done S (placed (action_task place t found ∷ []) S) (fire_node t.rule t.place with_later_action) done tt tt tt good
      (placed_typed library d (action_task place t found ∷ []) (((fit, occurred.0), (occurred.1, h), occurred.2), tt) S good)

  follow_typed : (place : Coupling) (below : Option Fire) (t : Task) (found : Findings) (S : State) → BelowTyped library d below → Occurred t → FindingsFit found
      → FoundTyped t.rule found → Good library d S → CourseTyped library d true (firing_course (follow place (at_level library t.now t.depth below) t found S))
  follow_typed immediate below t found S fires occurred fit h good = run_action_typed (fire_node t.rule t.place with_action) tt below t refl found S fires occurred fit h good
  follow_typed deferred below t found S fires occurred fit h good = deferring_typed deferred t found S occurred fit h good
  follow_typed separate below t found S fires occurred fit h good = deferring_typed separate t found S occurred fit h good
  follow_typed dependent below t found S fires occurred fit h good = deferring_typed dependent t found S occurred fit h good
  follow_typed exclusive below t found S fires occurred fit h good = deferring_typed exclusive t found S occurred fit h good

  inert_typed : (what : Node) → NodeHasOnly (KindedCause library) what → (v : Option Veto) (S : State) → Good library d S → CourseTyped library d true (firing_course (inert what v S))
  inert_typed what is v S good = record { state = good; queued = tt; detached = tt; items = (((is, tt), tt), tt); end = tt }

  decide_typed : (v : Verdict) (below : Option Fire) (t : Task) (S : State) → BelowTyped library d below → Occurred t → VerdictFits v
      → VerdictTyped library (query_classes (rule_at library t.rule).condition) (let_sorts library d (scope_at t.rule) (rule_at library t.rule).condition)
      (is_condition_calm (rule_at library t.rule).condition) v → Good library d S
      → CourseTyped library d true (firing_course (decide v (at_level library t.now t.depth below) t S))
  decide_typed (satisfied found) below t S fires occurred fit h good = follow_typed (rule_at library t.rule).action_coupling below t found S fires occurred fit h good
  decide_typed unsatisfied below t S fires occurred fit h good = inert_typed (fire_node t.rule t.place without_action) tt None S good
  decide_typed (faulty c) below t S fires occurred fit h good = inert_typed (fire_node t.rule t.place (with_fault c)) h (fault_veto (rule_at library t.rule).closed t.rule) S good

  step_typed : (s : Step) (below : Option Fire) (t : Task) (S : State) → BelowTyped library d below → StepFits s → Occurred t → StepTyped library d t.rule s → Good library d S
      → CourseTyped library d true (firing_course (take_step s (at_level library t.now t.depth below) t S))
  step_typed condition_step below t S fires fit occurred h good =
      decide_typed (verdict S.objects (task_environment t) (rule_at library t.rule).condition) below t S fires occurred
      (verdict_fits library S.objects (task_environment t) (rule_at library t.rule).condition (condition_fits t.rule) (occurred.0, tt, tt) (objects_of_fit library S good.fit))
      (verdict_typed library d S.objects (scope_at t.rule) (task_environment t) (rule_at library t.rule).condition (objects_of_fit library S good.fit)
      (task_typed t occurred) (rule_parts t.rule).0) good
  step_typed (action_step found) below t S fires fit occurred h good = run_action_typed (act_node t.rule t.place) tt below t refl found S fires occurred fit h good

  below_typed : (n : ℕ) → BelowTyped library d (below_limit library n)
  below_typed zero = tt
  below_typed (suc n) = λ S t good h. step_typed t.step (below_limit library n) t S (below_typed n) h.0.0 (h.0.1, h.1.0, h.2) h.1.1 good

  fire_typed : FireTyped library d (fire_task library)
  fire_typed S t good h = step_typed t.step (below_limit library (library.depth_limit - t.depth)) t S (below_typed (library.depth_limit - t.depth)) h.0.0 (h.0.1, h.1.0, h.2) h.1.1 good

  -- ---- top-level transactions

  no_context_typed : (now : ℕ) → IsTimely library d now → ContextTyped library d no_scope [] (no_context now)
  no_context_typed now timely = record { fits = ((tt, tt, tt), tt); environment = record { columns = tt; parts = tt; rows = tt; values = tt; now = timely }; answers = tt }

  -- a moment is of 64 bits
  unit_work_typed : (u : Unit) → IsTrue (unit_fits library u) → IsTrue (unit_kinded library d u) → WorkTyped library d false (unit_work library u)
  unit_work_typed (transaction now body) fit h S good =
      let parts = and_parts (fits_64 (pos now)) (body_fits (length library.classes) body) fit in
      weaker_course library d (is_body_calm body) false (unit_work library (transaction now body) S) (λ e. refl)
      (body_typed library d known now parts.0 0 (below_limit library (library.depth_limit - 0)) (below_typed (library.depth_limit - 0)) body no_scope
      [] (no_context now) parts.1 h (no_context_typed now parts.0) S good)
  unit_work_typed (moment t) fit h S good =
      signal_typed library d t fit 0 (below_limit library (library.depth_limit - 0)) (moment_reached t) (below_typed (library.depth_limit - 0)) (fit, refl) S good

  veto_kinded : (v : Option Veto) → IsKindedEnd false (veto_end v)
  veto_kinded None = tt
  veto_kinded (Some r) = tt

  task_work_typed : (t : Task) → TaskTyped library d t → WorkTyped library d false (task_work library t)
  task_work_typed t h S good =
      let f = fire_typed S t good h in
      record { state = f.state; queued = f.queued; detached = f.detached; items = f.items; end = veto_kinded (fire_task library S t).vetoed_by }

  next_round_typed : (e : End) (ts : List Task) (c : Course) → TasksTyped library d ts → CourseTyped library d false c → CourseTyped library d false (next_round (fire_task library) e ts c)
  next_round_typed done [] c h course = course
  next_round_typed done (t ∷ ts) c h course =
      joined_typed library d (drained c) (course_of (siblings (fire_task library) true (t ∷ ts) c.state))
      (record { state = course.state; queued = tt; detached = course.detached; items = course.items; end = tt })
      (siblings_typed library d (fire_task library) true (t ∷ ts) fire_typed h c.state course.state)
  next_round_typed (abort_by x) ts c h course = course
  next_round_typed (veto_by r) ts c h course = course

  rounds_typed : (n : ℕ) (c : Course) → CourseTyped library d false c → CourseTyped library d false (rounds n (fire_task library) c)
  rounds_typed zero c course = course
  rounds_typed (suc n) c course = rounds_typed n (next_round (fire_task library) c.end c.queued c) (next_round_typed c.end c.queued c course.queued course)

  top_course_typed : (now : ℕ) → IsTimely library d now → (depth : ℕ) (work : Work) → WorkTyped library d false work → WorkTyped library d false (top_course library now depth work)
  top_course_typed now timely depth work h S good =
      rounds_typed (most_rounds library) (then_do (work S) (signal_in (level_at library now depth) commit_reached))
      (then_do_typed library d (work S) (signal_in (level_at library now depth) commit_reached) (h S good)
      (signal_typed library d now timely depth (below_limit library (library.depth_limit - depth)) commit_reached (below_typed (library.depth_limit - depth)) (refl, refl)))

  -- how it ended, its tree, its state and what it detaches
  pub record TopTyped (c : Closed) : Type 0 where
    pub state : Good library d c.state
    pub detached : DetachedTyped library d c.detached
    pub ending : EndsOnlyBy NotOfKinds c.ending
    pub items : TreeHasOnly (KindedCause library) c.items

  top_typed : (now : ℕ) → IsTimely library d now → (depth : ℕ) (work : Work) → WorkTyped library d false work → (S : State) → Good library d S → TopTyped (top library now depth work S)
  top_typed now timely depth work h S good =
      let c = top_course library now depth work S in
      let course : CourseTyped library d false c = top_course_typed now timely depth work h S good in
      let end : CourseTyped library d false (nested sub_node (closed S c) done) = closed_typed library d c.end S c sub_node done tt tt course.end good course in
      record { state = end.state; detached = end.detached; ending = ending_kinded (closed_by c.end S c).ending end.items.0.0.1; items = end.items.0.1 }

  -- ---- cascades and units

  due_one : (b : Bool) (t : Task) (ts : List Task) → TaskTyped library d t → TasksTyped library d ts → TasksTyped library d (cons_option (then_some b t) ts)
  due_one true t ts h k = (h, k)
  due_one false t ts h k = k

  due_typed : (xs : List Detached) → DetachedTyped library d xs → TasksTyped library d (due xs)
  due_typed [] h = tt
  due_typed (x ∷ xs) h = due_one (due_by x.task.place x.released) x.task (due xs) h.0 (due_typed xs h.1)

  generation_typed : (ts : List Task) → TasksTyped library d ts → (S : State) → Good library d S
      → (Good library d (generation library ts S).state × DetachedTyped library d (generation library ts S).detached)
      × TransactionsHaveOnly (KindedCause library) (generation library ts S).transactions
  generation_typed [] h S good = ((good, tt), tt)
  generation_typed (t ∷ ts) h S good =
      let first = top_typed t.now h.0.2 t.depth (task_work library t) (task_work_typed t h.0) S good in
      let after = top library t.now t.depth (task_work library t) S in
      let rest = generation_typed ts h.1 after.state first.state in (
        (rest.0.0, each_append (λ (x : Detached). TaskTyped library d x.task) after.detached (generation library ts after.state).detached first.detached rest.0.1),
        ((first.ending, first.items), rest.1),
      )

  cascade_typed : (n : ℕ) (ts : List Task) → TasksTyped library d ts → (S : State) → Good library d S → Good library d (cascade n library ts S).state
      × TransactionsHaveOnly (KindedCause library) (transactions_of (cascade n library ts S))
  cascade_typed zero ts h S good = (good, tt)
  cascade_typed (suc n) [] h S good = (good, tt)
  cascade_typed (suc n) (t ∷ ts) h S good =
      let g = generation library (t ∷ ts) S in
      let here = generation_typed (t ∷ ts) h S good in
      let rest = cascade_typed n (due g.detached) (due_typed g.detached here.0.1) g.state here.0.0 in (
        rest.0,
        each_append (λ (x : Transaction). EndsOnlyBy NotOfKinds x.ending × TreeHasOnly (KindedCause library) x.items) g.transactions
            (transactions_of (cascade n library (due g.detached) g.state)) here.1 rest.1,
      )

  unit_timely : (u : Unit) → IsTrue (unit_fits library u) → IsTimely library d (now_in u)
  unit_timely (transaction now body) fit = (and_parts (fits_64 (pos now)) (body_fits (length library.classes) body) fit).0
  unit_timely (moment t) fit = fit

  pub unit_typed : (u : Unit) → IsTrue (unit_fits library u) → IsTrue (unit_kinded library d u) → (S : State) → Good library d S
      → TransactionsHaveOnly (KindedCause library) (transactions_of (run_unit library u S)) × Good library d (run_unit library u S).state
  unit_typed u fit h S good =
      let own = top library (now_in u) 0 (unit_work library u) S in
      let first = top_typed (now_in u) (unit_timely u fit) 0 (unit_work library u) (unit_work_typed u fit h) S good in
      let rest = cascade_typed (most_rounds library) (due own.detached) (due_typed own.detached first.detached) own.state first.state in
      (((first.ending, first.items), rest.1), rest.0)

-- ---- the laws

pub kinds_hold : KindsHold
kinds_hold library d known kinded u fit h S state declared =
    let end = unit_typed library d known kinded u fit h S (record { fit = state; declared = declared }) in
    (end.0, end.1.declared)

units_kinded : (library : Library) (d : Declared) → IsFitLibrary library → IsTrue (library_kinded library d) → (us : List Unit) → AllByRecursion (λ u. IsTrue (unit_fits library u)) us
    → AllByRecursion (λ u. IsTrue (unit_kinded library d u)) us → (S : State) → Good library d S → AllByRecursion (ReportHasOnly (KindedCause library)) (run_units library us S).units
units_kinded library d known kinded [] fit h S good = tt
units_kinded library d known kinded (u ∷ us) fit h S good =
    let here = unit_typed library d known kinded u fit.0 h.0 S good in
    (reports_only (KindedCause library) (transactions_of (run_unit library u S)) here.0, units_kinded library d known kinded us fit.1 h.1 (run_unit library u S).state here.1)

none_declared : (d : Declared) (n : ℕ) → AllByRecursion (λ (r : RuleState). AllByRecursion (λ p. IsTrue (is_declared d p)) r.past) (replicate n (with_status absent))
none_declared d zero = tt
none_declared d (suc n) = (tt, none_declared d n)

pub never_of_kinds : NeverOfKinds
never_of_kinds script d known fit kinded h =
    units_kinded script.library d known kinded script.units fit h (initial_state script.library)
    (record { fit = initial_fits script.library; declared = none_declared d (length script.library.rules) })
