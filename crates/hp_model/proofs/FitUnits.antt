-- Each firing, top-level transaction and unit that starts from a fit state leaves a fit state.
use Rattle.std.proofs.Common.{refl, ℕ, zero, suc, pos, List, [], ◌∷◌, length, Option, Bool, true, false, ◌-◌, IsTrue}
use Rattle.std.proofs.lemmas.Bool.{and_parts}
use Rattle.std.specs.Prelude.{⊤, Ok, Err, None, Some}
use Rattle.std.specs.Bool.{then_some}
use Rattle.std.specs.List.{AllByRecursion, list_all, slice_index_or, cons_option}
use Rattle.hp_model.specs.Values.{Name, NamedValues, Value, KeyedRow, Outcome, fits_64}
use Rattle.hp_model.specs.Occurrences.{commit_reached, moment_reached}
use Rattle.hp_model.specs.Expressions.{Environment, bound, holding}
use Rattle.hp_model.specs.Conditions.{Answers, Findings, Verdict, satisfied, unsatisfied, faulty, answer, aggregated, verdict, if_answered, if_unanswered, if_valued, keeping}
use Rattle.hp_model.specs.Conditions.{keeping_value, with_answers, with_values, with_findings}
use Rattle.hp_model.specs.Rules.{Coupling, immediate, deferred, separate, dependent, exclusive, Entry, query_entry, no_entry, let_entry, Library, Rule, no_rule, rule_at}
use Rattle.hp_model.specs.State.{State, Objects, IsFit}
use Rattle.hp_model.specs.Tree.{Task, Step, condition_step, action_step, Node, sub_node, fire_node, act_node, with_action, with_later_action}
use Rattle.hp_model.specs.Transactions.{Detached, End, done, abort_by, veto_by, Course, Work, then_do, drained, placed}
use Rattle.hp_model.specs.Firing.{Fire, siblings, course_of, signal_in, run_action, follow, decide, take_step, below_limit, level_at, fire_task, deferring, action_course}
use Rattle.hp_model.specs.Firing.{action_context, action_task, task_environment}
use Rattle.hp_model.specs.Cascade.{Unit, now_in, transaction, moment, no_context, unit_work, task_work, most_rounds, next_round, rounds, top_course, top, generation, due_by, due}
use Rattle.hp_model.specs.Cascade.{cascade, run_unit, run_units}
use Rattle.hp_model.specs.Ranges.{expression_fits, aggregate_fits, entry_fits, body_fits, rule_fits, unit_fits, IsFitLibrary}
use Rattle.hp_model.proofs.Induction.{firing_course}
use Rattle.hp_model.proofs.FitValues.{Gives, each_append, ValueFits, KeyedFits, HeldFits, RowsFit, OccurrenceFits, EnvironmentFits, ValuesFit, AnswersFit, FindingsFit, ObjectsFit}
use Rattle.hp_model.proofs.FitValues.{answer_gives, bound_fits, holding_fits, aggregated_gives}
use Rattle.hp_model.proofs.FitStates.{objects_of_fit}
use Rattle.hp_model.proofs.FitCourses.{StepFits, TaskFits, TasksFit, DetachedFit, CourseFits, WorkFits, FireFits, BelowFits, at_level, joined_fits, then_do_fits, closed_fits}
use Rattle.hp_model.proofs.FitCourses.{placed_fits, siblings_fit, signal_fits, body_run_fits}

-- ---- conditions and what they find

abbrev pub VerdictFits : Verdict → Type 0
VerdictFits (satisfied found) = FindingsFit found
VerdictFits unsatisfied = ⊤
VerdictFits (faulty c) = ⊤

keeping_fits : (x : Name) (rows : List KeyedRow) (v : Verdict) → RowsFit rows → VerdictFits v → VerdictFits (keeping x rows v)
keeping_fits x rows (satisfied found) h k = ((h, k.0), k.1)
keeping_fits x rows unsatisfied h k = tt
keeping_fits x rows (faulty c) h k = tt

keeping_value_fits : (x : Name) (v : Value) (w : Verdict) → ValueFits v → VerdictFits w → VerdictFits (keeping_value x v w)
keeping_value_fits x v (satisfied found) h k = (k.0, (h, k.1))
keeping_value_fits x v unsatisfied h k = tt
keeping_value_fits x v (faulty c) h k = tt

answered_fits : (x : Name) (o : Outcome (List KeyedRow)) (next : KeyedRow → Verdict) → Gives RowsFit o → ((r : KeyedRow) → KeyedFits r → VerdictFits (next r)) → VerdictFits (if_answered x o next)
answered_fits x (Err c) next gives k = tt
answered_fits x (Ok []) next gives k = tt
answered_fits x (Ok (r ∷ rs)) next gives k = let h = gives.fact (r ∷ rs) refl in keeping_fits x (r ∷ rs) (next r) h (k r h.0)

unanswered_fits : (o : Outcome (List KeyedRow)) (next : Verdict) → VerdictFits next → VerdictFits (if_unanswered o next)
unanswered_fits (Err c) next k = tt
unanswered_fits (Ok []) next k = k
unanswered_fits (Ok (r ∷ rs)) next k = tt

valued_fits : (x : Name) (o : Outcome (Option Value)) (next : Value → Verdict) → Gives HeldFits o → ((v : Value) → ValueFits v → VerdictFits (next v)) → VerdictFits (if_valued x o next)
valued_fits x (Err c) next gives k = tt
valued_fits x (Ok None) next gives k = tt
valued_fits x (Ok (Some v)) next gives k = let h = gives.fact (Some v) refl in keeping_value_fits x v (next v) h (k v h)

pub verdict_fits : (library : Library) (objects : Objects) (env : Environment) (es : List Entry) → IsTrue (list_all entry_fits es) → EnvironmentFits library env
    → ObjectsFit library objects → VerdictFits (verdict objects env es)
verdict_fits library objects env [] k fit h = (tt, tt)
verdict_fits library objects env (query_entry q ∷ es) k fit h =
    let parts = and_parts (expression_fits q.predicate) (list_all entry_fits es) k in
    answered_fits q.name (answer env q.name q.class q.predicate objects) (λ first. verdict objects (bound q.name first env) es)
    (answer_gives library env q.name q.class q.predicate objects h) (λ first hfirst. verdict_fits library objects (bound q.name first env) es parts.1
    (bound_fits library q.name first env hfirst fit) h)
verdict_fits library objects env (no_entry q ∷ es) k fit h =
    let parts = and_parts (expression_fits q.predicate) (list_all entry_fits es) k in
    unanswered_fits (answer env q.name q.class q.predicate objects) (verdict objects env es) (verdict_fits library objects env es parts.1 fit h)
verdict_fits library objects env (let_entry x a ∷ es) k fit h =
    let parts = and_parts (aggregate_fits a) (list_all entry_fits es) k in
    valued_fits x (aggregated objects env a) (λ v. verdict objects (holding x v env) es)
    (aggregated_gives library env objects fit h a parts.0) (λ v hv. verdict_fits library objects (holding x v env) es parts.1 (holding_fits library x v env hv fit) h)

one_answer : (library : Library) (x : Name) (rows : List KeyedRow) (more : Answers) (env : Environment) → RowsFit rows → EnvironmentFits library env
    → ((inner : Environment) → EnvironmentFits library inner → EnvironmentFits library (with_answers inner more)) → EnvironmentFits library (with_answers env ((x, rows) ∷ more))
one_answer library x [] more env h fit next = next env fit
one_answer library x (r ∷ rs) more env h fit next = next (bound x r env) (bound_fits library x r env h.0 fit)

pub answers_bound : (library : Library) (answers : Answers) (env : Environment) → AnswersFit answers → EnvironmentFits library env → EnvironmentFits library (with_answers env answers)
answers_bound library [] env h fit = fit
answers_bound library (a ∷ more) env h fit = one_answer library a.0 a.1 more env h.0 fit (λ inner inner_fit. answers_bound library more inner h.1 inner_fit)

pub values_bound : (library : Library) (values : NamedValues) (env : Environment) → ValuesFit values → EnvironmentFits library env → EnvironmentFits library (with_values env values)
values_bound library [] env h fit = fit
values_bound library (v ∷ vs) env h fit = values_bound library vs (holding v.0 v.1 env) h.1 (holding_fits library v.0 v.1 env h.0 fit)

pub findings_bound : (library : Library) (found : Findings) (env : Environment) → FindingsFit found → EnvironmentFits library env → EnvironmentFits library (with_findings env found)
findings_bound library found env h fit = values_bound library found.values (with_answers env found.answers) h.1 (answers_bound library found.answers env h.0 fit)

-- ---- firings

pub rule_at_fits : (classes : ℕ) (rules : List Rule) (n : ℕ) → IsTrue (list_all (rule_fits classes) rules) → IsTrue (rule_fits classes (slice_index_or rules n no_rule))
rule_at_fits classes [] n h = refl
rule_at_fits classes (r ∷ rs) zero h = (and_parts (rule_fits classes r) (list_all (rule_fits classes) rs) h).0
rule_at_fits classes (r ∷ rs) (suc n) h = rule_at_fits classes rs n (and_parts (rule_fits classes r) (list_all (rule_fits classes) rs) h).1

module _ (library : Library) (known : IsFitLibrary library) where
  action_fits : (n : ℕ) → IsTrue (body_fits (length library.classes) (rule_at library n).action)
  action_fits n =
      (and_parts (list_all entry_fits (rule_at library n).condition) (body_fits (length library.classes) (rule_at library n).action)
      (rule_at_fits (length library.classes) library.rules n known.rules_fit)).1

  condition_fits : (n : ℕ) → IsTrue (list_all entry_fits (rule_at library n).condition)
  condition_fits n =
      (and_parts (list_all entry_fits (rule_at library n).condition) (body_fits (length library.classes) (rule_at library n).action)
      (rule_at_fits (length library.classes) library.rules n known.rules_fit)).0

  run_action_fits : (what : Node) (below : Option Fire) (t : Task) (found : Findings) (S : State) → BelowFits library below → OccurrenceFits library t.occurrence → FindingsFit found → IsFit library S
      → CourseFits library (firing_course (run_action what (at_level library t.now t.depth below) t found S))
  run_action_fits what below t found S fires occurred h fit =
      let level = at_level library t.now t.depth below in
      closed_fits library (action_course level t found S).end S (action_course level t found S) what done fit
      (body_run_fits library known t.now t.depth below fires (rule_at library t.rule).action (action_context t found) (action_fits t.rule)
      (findings_bound library found (task_environment t) h (occurred, tt, tt), h.0) S fit)

  deferring_fits : (place : Coupling) (t : Task) (found : Findings) (S : State) → OccurrenceFits library t.occurrence → FindingsFit found → IsFit library S
      → CourseFits library (firing_course (deferring (fire_node t.rule t.place with_later_action) (placed (action_task place t found ∷ []) S)))
  deferring_fits place t found S occurred h fit =
      closed_fits library done S (placed (action_task place t found ∷ []) S) (fire_node t.rule t.place with_later_action) done fit
      (placed_fits library (action_task place t found ∷ []) ((h, occurred), tt) S fit)

  follow_fits : (place : Coupling) (below : Option Fire) (t : Task) (found : Findings) (S : State) → BelowFits library below → OccurrenceFits library t.occurrence → FindingsFit found → IsFit library S
      → CourseFits library (firing_course (follow place (at_level library t.now t.depth below) t found S))
  follow_fits immediate below t found S fires occurred h fit = run_action_fits (fire_node t.rule t.place with_action) below t found S fires occurred h fit
  follow_fits deferred below t found S fires occurred h fit = deferring_fits deferred t found S occurred h fit
  follow_fits separate below t found S fires occurred h fit = deferring_fits separate t found S occurred h fit
  follow_fits dependent below t found S fires occurred h fit = deferring_fits dependent t found S occurred h fit
  follow_fits exclusive below t found S fires occurred h fit = deferring_fits exclusive t found S occurred h fit

  decide_fits : (v : Verdict) (below : Option Fire) (t : Task) (S : State) → BelowFits library below → OccurrenceFits library t.occurrence → VerdictFits v → IsFit library S
      → CourseFits library (firing_course (decide v (at_level library t.now t.depth below) t S))
  decide_fits (satisfied found) below t S fires occurred h fit = follow_fits (rule_at library t.rule).action_coupling below t found S fires occurred h fit
  decide_fits unsatisfied below t S fires occurred h fit = record { state = fit; queued = tt; detached = tt }
  decide_fits (faulty c) below t S fires occurred h fit = record { state = fit; queued = tt; detached = tt }

  step_fits : (s : Step) (below : Option Fire) (t : Task) (S : State) → BelowFits library below → StepFits s → OccurrenceFits library t.occurrence → IsFit library S
      → CourseFits library (firing_course (take_step s (at_level library t.now t.depth below) t S))
  step_fits condition_step below t S fires h occurred fit =
      decide_fits (verdict S.objects (task_environment t) (rule_at library t.rule).condition) below t S fires occurred
      (verdict_fits library S.objects (task_environment t) (rule_at library t.rule).condition (condition_fits t.rule) (occurred, tt, tt) (objects_of_fit library S fit)) fit
  step_fits (action_step found) below t S fires h occurred fit = run_action_fits (act_node t.rule t.place) below t found S fires occurred h fit

  below_fits : (n : ℕ) → BelowFits library (below_limit library n)
  below_fits zero = tt
  below_fits (suc n) = λ S t fit h. step_fits t.step (below_limit library n) t S (below_fits n) h.0 h.1 fit

  pub fire_fits : FireFits library (fire_task library)
  fire_fits S t fit h = step_fits t.step (below_limit library (library.depth_limit - t.depth)) t S (below_fits (library.depth_limit - t.depth)) h.0 h.1 fit

  -- ---- top-level transactions

  unit_work_fits : (u : Unit) → IsTrue (unit_fits library u) → WorkFits library (unit_work library u)
  unit_work_fits (transaction now body) h S fit =
      body_run_fits library known now 0 (below_limit library (library.depth_limit - 0)) (below_fits (library.depth_limit - 0)) body (no_context now)
      (and_parts (fits_64 (pos now)) (body_fits (length library.classes) body) h).1 ((tt, tt, tt), tt) S fit
  unit_work_fits (moment t) h S fit = signal_fits library t 0 (below_limit library (library.depth_limit - 0)) (moment_reached t) (below_fits (library.depth_limit - 0)) h S fit

  task_work_fits : (t : Task) → TaskFits library t → WorkFits library (task_work library t)
  task_work_fits t h S fit = let f = fire_fits S t fit h in record { state = f.state; queued = f.queued; detached = f.detached }

  next_round_fits : (e : End) (ts : List Task) (c : Course) → TasksFit library ts → CourseFits library c → CourseFits library (next_round (fire_task library) e ts c)
  next_round_fits done [] c h fit = fit
  next_round_fits done (t ∷ ts) c h fit =
      joined_fits library (drained c) (course_of (siblings (fire_task library) true (t ∷ ts) c.state)) (record { state = fit.state; queued = tt; detached = fit.detached })
      (siblings_fit library (fire_task library) true (t ∷ ts) fire_fits h c.state fit.state)
  next_round_fits (abort_by x) ts c h fit = fit
  next_round_fits (veto_by r) ts c h fit = fit

  rounds_fit : (n : ℕ) (c : Course) → CourseFits library c → CourseFits library (rounds n (fire_task library) c)
  rounds_fit zero c fit = fit
  rounds_fit (suc n) c fit = rounds_fit n (next_round (fire_task library) c.end c.queued c) (next_round_fits c.end c.queued c fit.queued fit)

  top_course_fits : (now depth : ℕ) (work : Work) → WorkFits library work → WorkFits library (top_course library now depth work)
  top_course_fits now depth work h S fit =
      rounds_fit (most_rounds library) (then_do (work S) (signal_in (level_at library now depth) commit_reached))
      (then_do_fits library (work S) (signal_in (level_at library now depth) commit_reached) (h S fit)
      (signal_fits library now depth (below_limit library (library.depth_limit - depth)) commit_reached (below_fits (library.depth_limit - depth)) refl))

  -- its state and what it detaches
  top_fits : (now depth : ℕ) (work : Work) → WorkFits library work → (S : State) → IsFit library S → IsFit library (top library now depth work S).state
      × DetachedFit library (top library now depth work S).detached
  top_fits now depth work h S fit =
      let c = top_course library now depth work S in
      let end = closed_fits library c.end S c sub_node done fit (top_course_fits now depth work h S fit) in (end.state, end.detached)

  -- ---- cascades and units

  due_one : (b : Bool) (t : Task) (ts : List Task) → TaskFits library t → TasksFit library ts → TasksFit library (cons_option (then_some b t) ts)
  due_one true t ts h k = (h, k)
  due_one false t ts h k = k

  due_fits : (ds : List Detached) → DetachedFit library ds → TasksFit library (due ds)
  due_fits [] h = tt
  due_fits (d ∷ ds) h = due_one (due_by d.task.place d.released) d.task (due ds) h.0 (due_fits ds h.1)

  generation_fits : (ts : List Task) → TasksFit library ts → (S : State) → IsFit library S → IsFit library (generation library ts S).state × DetachedFit library (generation library ts S).detached
  generation_fits [] h S fit = (fit, tt)
  generation_fits (t ∷ ts) h S fit =
      let first = top_fits t.now t.depth (task_work library t) (task_work_fits t h.0) S fit in
      let after = top library t.now t.depth (task_work library t) S in
      let rest = generation_fits ts h.1 after.state first.0 in
      (rest.0, each_append (λ (d : Detached). TaskFits library d.task) after.detached (generation library ts after.state).detached first.1 rest.1)

  cascade_fits : (n : ℕ) (ts : List Task) → TasksFit library ts → (S : State) → IsFit library S → IsFit library (cascade n library ts S).state
  cascade_fits zero ts h S fit = fit
  cascade_fits (suc n) [] h S fit = fit
  cascade_fits (suc n) (t ∷ ts) h S fit =
      let g = generation library (t ∷ ts) S in
      let here = generation_fits (t ∷ ts) h S fit in
      cascade_fits n (due g.detached) (due_fits g.detached here.1) g.state here.0

  -- a unit
  pub unit_keeps_fit : (u : Unit) → IsTrue (unit_fits library u) → (S : State) → IsFit library S → IsFit library (run_unit library u S).state
  unit_keeps_fit u h S fit =
      let own = top library (now_in u) 0 (unit_work library u) S in
      let first = top_fits (now_in u) 0 (unit_work library u) (unit_work_fits u h) S fit in
      cascade_fits (most_rounds library) (due own.detached) (due_fits own.detached first.1) own.state first.0

  -- units, one after another
  pub units_keep_fit : (us : List Unit) → AllByRecursion (λ u. IsTrue (unit_fits library u)) us → (S : State) → IsFit library S → IsFit library (run_units library us S).state
  units_keep_fit [] h S fit = fit
  units_keep_fit (u ∷ us) h S fit = units_keep_fit us h.1 (run_unit library u S).state (unit_keeps_fit u h.0 S fit)
