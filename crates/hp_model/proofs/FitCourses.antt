-- All that runs from a state that fits leaves one that fits, and the tasks that it makes fit too.
use Rattle.std.proofs.Common.{◌≡◌, refl, ℕ, suc, ℤ, List, [], ◌∷◌, length, Option, None, Some, Bool, true, false, ◌&&◌, IsTrue, nat_lt}
use Rattle.std.proofs.lemmas.Bool.{and_parts, and_from}
use Rattle.std.specs.Prelude.{⊤, Ok, Err, bytes_eq, filter, filter_map, option_map, unwrap_or}
use Rattle.std.specs.List.{AllByRecursion, cons_option}
use Rattle.std.specs.Map.{lookup}
use Rattle.hp_model.specs.Values.{Name, Value, Row, KeyedRow, Veto, exists, missing, requested, vetoed, depth_exceeded, Outcome, fits_64, value_fits, row_fits}
use Rattle.hp_model.specs.Occurrences.{Primitive, created, updated, deleted, signalled, History, Occurrence}
use Rattle.hp_model.specs.Expressions.{value_of}
use Rattle.hp_model.specs.Events.{occurrence_of}
use Rattle.hp_model.specs.Conditions.{Answers, answer, let_of}
use Rattle.hp_model.specs.Rules.{Coupling, immediate, deferred, separate, dependent, exclusive, is_immediate, Statement, create, update, delete, signal, emit, when, each}
use Rattle.hp_model.specs.Rules.{for_answer, with_object, subtransaction, let_value, abort, veto, veto_with, on_rule, fire, Body, empty, ◌then◌, Library, Rule, class_at}
use Rattle.hp_model.specs.State.{State, RuleState, object_fits, find_object, rule_state, with_rule, with_objects, extended, Status, absent, enabled, disabled, IsFit}
use Rattle.hp_model.specs.Tree.{Task, Node, Operation, create_op, update_op, delete_op, rule_op, no_items, operation, emission, apply, sub_node}
use Rattle.hp_model.specs.Transactions.{Detached, End, done, abort_by, veto_by, Course, Work, ends, joined, after_end, then_do, with_value, for_each, with_items, survivor_by}
use Rattle.hp_model.specs.Transactions.{survivors, closed_by, closed, placed, detached_of, unreleased}
use Rattle.hp_model.specs.Firing.{Firing, Fire, after_firing, siblings, Siblings, course_of, Level, start, triggered, signal_in, Context, with_row, with_let, operated}
use Rattle.hp_model.specs.Firing.{created_if_absent, updated_if_present, deleted_if_present, vetoes, nested, sub_by, choose, run_statement, run_body, changed_row, made_row}
use Rattle.hp_model.specs.Firing.{checked_kinds, keyed_row, integer_value, boolean_value, values_of, answer_named, named_object, operated_rule, fired_task, start_fired}
use Rattle.hp_model.specs.Firing.{triggered_by, task_if, triggered_from}
use Rattle.hp_model.specs.Ranges.{expression_fits, assignments_fit, aggregate_fits, statement_fits, body_fits, IsFitLibrary}
pub use Rattle.hp_model.specs.Fitting.{StepFits, TaskFits}
use Rattle.hp_model.proofs.Induction.{firing_course}
use Rattle.hp_model.proofs.FitValues.{Gives, Gives-any, each_to, each_append, each_filter, each_map, each_found, ValueFits, KeyedFits, RowsFit, PrimitiveFits, OptionFits}
use Rattle.hp_model.proofs.FitValues.{EnvironmentFits, AnswersFit, values_give, answer_gives, bound_fits, holding_fits, let_gives}
use Rattle.hp_model.proofs.FitRows.{made_gives, checked_gives, ChangesFit, object_changed, key_gives, keyed_gives, object_gives}
use Rattle.hp_model.proofs.FitStates.{found_fit, PastFits, objects_of_fit, pasts_of_fit, extended_fits, with_rule_fits, rule_state_fits, operated_rule_gives, OperationFits}
use Rattle.hp_model.proofs.FitStates.{operation_fits, occurrence_fits}

-- ---- what fits

abbrev pub TasksFit : Library → List Task → Type 0
TasksFit library ts = AllByRecursion (TaskFits library) ts

abbrev pub DetachedFit : Library → List Detached → Type 0
DetachedFit library ds = AllByRecursion (λ (d : Detached). TaskFits library d.task) ds

pub record CourseFits (library : Library) (c : Course) : Type 0 where
  pub state : IsFit library c.state
  pub queued : TasksFit library c.queued
  pub detached : DetachedFit library c.detached

-- what is done from a state that fits
abbrev pub WorkFits : Library → Work → Type 0
WorkFits library work = (S : State) → IsFit library S → CourseFits library (work S)

abbrev pub FireFits : Library → Fire → Type 0
FireFits library f = (S : State) (t : Task) → IsFit library S → TaskFits library t → CourseFits library (firing_course (f S t))

abbrev pub BelowFits : Library → Option Fire → Type 0
BelowFits library None = ⊤
BelowFits library (Some f) = FireFits library f

abbrev pub ContextFits : Library → Context → Type 0
ContextFits library context = EnvironmentFits library context.environment × AnswersFit context.answers

-- ---- courses

module _ (library : Library) where
  pub ends_fits : (e : End) → WorkFits library (ends e)
  ends_fits e S fit = record { state = fit; queued = tt; detached = tt }

  pub joined_fits : (c d : Course) → CourseFits library c → CourseFits library d → CourseFits library (joined c d)
  joined_fits c d h k = record {
    state = k.state;
    queued = each_append (TaskFits library) c.queued d.queued h.queued k.queued;
    detached = each_append (λ (x : Detached). TaskFits library x.task) c.detached d.detached h.detached k.detached;
  }

  after_end_fits : (e : End) (c : Course) (next : Work) → CourseFits library c → WorkFits library next → CourseFits library (after_end e c next)
  after_end_fits done c next h k = joined_fits c (next c.state) h (k c.state h.state)
  after_end_fits (abort_by x) c next h k = h
  after_end_fits (veto_by r) c next h k = h

  pub then_do_fits : (c : Course) (next : Work) → CourseFits library c → WorkFits library next → CourseFits library (then_do c next)
  then_do_fits c next h k = after_end_fits c.end c next h k

  with_value_fits : {A : Type 0} (P : A → Type 0) (o : Outcome A) (next : A → Work) (S : State) → IsFit library S → Gives P o → ((v : A) → P v → CourseFits library (next v S))
      → CourseFits library (with_value o next S)
  with_value_fits P (Err c) next S fit gives k = ends_fits (abort_by c) S fit
  with_value_fits P (Ok v) next S fit gives k = k v (gives.fact v refl)

  for_each_fits : {A : Type 0} (P : A → Type 0) (xs : List A) (work : A → Work) → AllByRecursion P xs → ((x : A) → P x → WorkFits library (work x)) → WorkFits library (for_each xs work)
  for_each_fits P [] work all k S fit = ends_fits done S fit
  for_each_fits P (x ∷ xs) work all k S fit = then_do_fits (work x S) (for_each xs work) (k x all.0 S fit) (for_each_fits P xs work all.1 k)

  survivor_fits : (place : Coupling) (d : Detached) (ds : List Detached) → TaskFits library d.task → DetachedFit library ds → DetachedFit library (cons_option (survivor_by place d) ds)
  survivor_fits immediate d ds h k = k
  survivor_fits deferred d ds h k = k
  survivor_fits separate d ds h k = (h, k)
  survivor_fits dependent d ds h k = k
  survivor_fits exclusive d ds h k = (h, k)

  survivors_fit : (ds : List Detached) → DetachedFit library ds → DetachedFit library (survivors ds)
  survivors_fit [] h = tt
  survivors_fit (d ∷ ds) h = survivor_fits d.task.place d (survivors ds) h.0 (survivors_fit ds h.1)

  -- what a transaction from a state gives, as a part of another course
  pub closed_fits : (e : End) (S : State) (c : Course) (what : Node) (last : End) → IsFit library S → CourseFits library c → CourseFits library (nested what (closed_by e S c) last)
  closed_fits done S c what last fit h = record { state = h.state; queued = h.queued; detached = h.detached }
  closed_fits (abort_by x) S c what last fit h = record { state = fit; queued = tt; detached = survivors_fit c.detached h.detached }
  closed_fits (veto_by r) S c what last fit h = record { state = fit; queued = tt; detached = survivors_fit c.detached h.detached }

  pub placed_fits : (ts : List Task) → TasksFit library ts → WorkFits library (placed ts)
  placed_fits ts h S fit = record {
    state = fit;
    queued = each_filter (TaskFits library) _ ts h;
    detached = each_map (TaskFits library) (λ (d : Detached). TaskFits library d.task) unreleased (detached_of ts) (λ t k. k) (each_filter (TaskFits library) _ ts h);
  }

  -- ---- siblings and signals

  after_firing_fits : (stops : Bool) (v : Option Veto) (f : Firing) (rest : State → Siblings) → CourseFits library (firing_course f) → WorkFits library (λ S. course_of (rest S))
      → CourseFits library (course_of (after_firing stops v f rest))
  after_firing_fits true (Some r) f rest h k = joined_fits (firing_course f) (ends (abort_by (vetoed r)) f.state) h (ends_fits (abort_by (vetoed r)) f.state h.state)
  after_firing_fits true None f rest h k = joined_fits (firing_course f) (course_of (rest f.state)) h (k f.state h.state)
  after_firing_fits false v f rest h k = joined_fits (firing_course f) (course_of (rest f.state)) h (k f.state h.state)

  pub siblings_fit : (f : Fire) (stops : Bool) (ts : List Task) → FireFits library f → TasksFit library ts → WorkFits library (λ S. course_of (siblings f stops ts S))
  siblings_fit f stops [] fires h S fit = ends_fits done S fit
  siblings_fit f stops (t ∷ ts) fires h S fit = after_firing_fits stops (f S t).vetoed_by (f S t) (siblings f stops ts) (fires S t fit h.0) (siblings_fit f stops ts fires h.1)

  start_fits : (below : Option Fire) (ts : List Task) → BelowFits library below → TasksFit library ts → WorkFits library (start below ts)
  start_fits below [] fires h S fit = ends_fits done S fit
  start_fits None (t ∷ ts) fires h S fit = ends_fits (abort_by depth_exceeded) S fit
  start_fits (Some f) (t ∷ ts) fires h S fit =
      then_do_fits (placed (t ∷ ts) S) (λ S'. course_of (siblings f true (filter (λ (u : Task). is_immediate u.place) (t ∷ ts)) S')) (placed_fits (t ∷ ts) h S fit)
      (siblings_fit f true (filter (λ (u : Task). is_immediate u.place) (t ∷ ts)) fires (each_filter (TaskFits library) (λ (u : Task). is_immediate u.place) (t ∷ ts) h))

  occurred_fits : (level : Level) (n : ℕ) (rule : Rule) (o : Option Occurrence) (ts : List Task) → OptionFits library o → TasksFit library ts
      → TasksFit library (cons_option (option_map (triggered_by level n rule) o) ts)
  occurred_fits level n rule None ts h k = k
  occurred_fits level n rule (Some o) ts h k = ((tt, h), k)

  status_fits : (level : Level) (n : ℕ) (rule : Rule) (status : Status) (past : History) (ts : List Task) → AllByRecursion (PrimitiveFits library) past
      → TasksFit library ts → TasksFit library (cons_option (task_if status level n rule past) ts)
  status_fits level n rule absent past ts h k = k
  status_fits level n rule enabled past ts h k = occurred_fits level n rule (occurrence_of rule.event past) ts (occurrence_fits library rule.event past h) k
  status_fits level n rule disabled past ts h k = k

  triggered_from_fit : (level : Level) (n : ℕ) (rules : List Rule) (rs : List RuleState) → AllByRecursion (PastFits library) rs
      → TasksFit library (filter_map (λ t. t) (triggered_from level n rules rs))
  triggered_from_fit level n [] rs h = tt
  triggered_from_fit level n (rule ∷ rules) [] h = tt
  triggered_from_fit level n (rule ∷ rules) (r ∷ rs) h =
      status_fits level n rule r.status r.past (filter_map (λ t. t) (triggered_from level (suc n) rules rs)) h.0 (triggered_from_fit level (suc n) rules rs h.1)

-- a level of the library where tasks one deeper fire so
abbrev pub at_level : Library → (now depth : ℕ) → Option Fire → Level
at_level library now depth below = record { library = library; depth = depth; now = now; below = below }

module _ (library : Library) where
  pub signal_fits : (now depth : ℕ) (below : Option Fire) (p : Primitive) → BelowFits library below → PrimitiveFits library p → WorkFits library (signal_in (at_level library now depth below) p)
  signal_fits now depth below p fires h S fit =
      let more = extended_fits library p S h fit in
      start_fits library below (triggered (at_level library now depth below) (extended p S)) fires
      (triggered_from_fit library (at_level library now depth below) 0 library.rules (extended p S).rules (pasts_of_fit library (extended p S) more)) (extended p S) more

  -- ---- statements

  operated_fit : (now depth : ℕ) (below : Option Fire) (op : Operation) (p : Primitive) → BelowFits library below → OperationFits library op → PrimitiveFits library p
      → (S : State) → IsFit library S → CourseFits library (operated (at_level library now depth below) op p (apply op S.objects) S)
  operated_fit now depth below op p fires h k S fit =
      then_do_fits library (with_items (operation op no_items) (with_objects S (apply op S.objects))) (signal_in (at_level library now depth below) p)
      (record { state = operation_fits library op S h fit; queued = tt; detached = tt }) (signal_fits now depth below p fires k)

  created_fit : (now depth : ℕ) (below : Option Fire) (class : ℕ) (key : ℤ) (new : Row) (old : Option Row) → BelowFits library below → IsTrue (object_fits library class key new)
      → WorkFits library (created_if_absent (at_level library now depth below) class key new old)
  created_fit now depth below class key new (Some old) fires h S fit = ends_fits library (abort_by exists) S fit
  created_fit now depth below class key new None fires h S fit = operated_fit now depth below (create_op class key new) (created class key new) fires h h S fit

  updated_fit : (now depth : ℕ) (below : Option Fire) (class : ℕ) (key : ℤ) (given : Row) (old : Option Row) → BelowFits library below
      → ((row : Row) → old ≡ Some row → IsTrue (object_fits library class key row) × IsTrue (object_fits library class key (changed_row given row)))
      → WorkFits library (updated_if_present (at_level library now depth below) class key given old)
  updated_fit now depth below class key given None fires h S fit = ends_fits library (abort_by missing) S fit
  updated_fit now depth below class key given (Some old) fires h S fit =
      let fits = h old refl in
      operated_fit now depth below (update_op class key (changed_row given old)) (updated class key old (changed_row given old)) fires fits.1
      (and_from (object_fits library class key old) _ fits.0 fits.1) S fit

  deleted_fit : (now depth : ℕ) (below : Option Fire) (class : ℕ) (key : ℤ) (old : Option Row) → BelowFits library below → ((row : Row) → old ≡ Some row → IsTrue (object_fits library class key row))
      → WorkFits library (deleted_if_present (at_level library now depth below) class key old)
  deleted_fit now depth below class key None fires h S fit = ends_fits library (abort_by missing) S fit
  deleted_fit now depth below class key (Some old) fires h S fit = operated_fit now depth below (delete_op class key) (deleted class key old) fires tt (h old refl) S fit

  vetoes_fit : (r : Option ℕ) (message : Option Value) → WorkFits library (vetoes r message)
  vetoes_fit None message S fit = ends_fits library done S fit
  vetoes_fit (Some r) message S fit = ends_fits library (veto_by (record { rule = r; message = message })) S fit

  choose_fits : (b : Bool) (f g : Work) → WorkFits library f → WorkFits library g → WorkFits library (choose b f g)
  choose_fits true f g h k = h
  choose_fits false f g h k = k

  sub_fits : (e : End) (S : State) (c : Course) (otherwise : Work) → IsFit library S → CourseFits library c → WorkFits library otherwise → CourseFits library (sub_by e (closed S c) otherwise)
  sub_fits done S c otherwise fit h k = closed_fits library c.end S c sub_node done fit h
  sub_fits (abort_by x) S c otherwise fit h k = then_do_fits library (nested sub_node (closed S c) done) otherwise (closed_fits library c.end S c sub_node done fit h) k
  sub_fits (veto_by r) S c otherwise fit h k = closed_fits library c.end S c sub_node (veto_by r) fit h

  fired_fits : (status : Status) (now depth : ℕ) (below : Option Fire) (n : ℕ) → BelowFits library below → WorkFits library (start_fired status (at_level library now depth below) n)
  fired_fits absent now depth below n fires S fit = ends_fits library (abort_by missing) S fit
  fired_fits enabled now depth below n fires S fit = start_fits library below (fired_task (at_level library now depth below) n ∷ []) fires ((tt, tt), tt) S fit
  fired_fits disabled now depth below n fires S fit = start_fits library below (fired_task (at_level library now depth below) n ∷ []) fires ((tt, tt), tt) S fit

  named_fits : (o : Option (List KeyedRow)) → ((rows : List KeyedRow) → o ≡ Some rows → RowsFit rows) → RowsFit (unwrap_or o [])
  named_fits None h = tt
  named_fits (Some rows) h = h rows refl

  pub kept_answer_fits : (answers : Answers) (x : Name) → AnswersFit answers → RowsFit (answer_named answers x)
  kept_answer_fits answers x h = named_fits (lookup (bytes_eq x) answers) (λ rows is. each_found RowsFit (bytes_eq x) answers rows h is)

  pub created_object : (class : ℕ) (r : KeyedRow) → IsTrue (nat_lt class (length library.classes)) → IsTrue (fits_64 r.key) × IsTrue (row_fits (class_at library class).fields r.row)
      → IsTrue (object_fits library class r.key r.row)
  created_object class r within h = and_from (nat_lt class (length library.classes)) _ within (and_from (fits_64 r.key) _ h.0 h.1)

  module _ (known : IsFitLibrary library) (now depth : ℕ) (below : Option Fire) (fires : BelowFits library below) where
    mutual
      pub statement_run_fits : (s : Statement) (context : Context) → IsTrue (statement_fits (length library.classes) s) → ContextFits library context
          → WorkFits library (run_statement s (at_level library now depth below) context)
      statement_run_fits (create class key pairs) context h env S fit =
          let within = and_parts (nat_lt class (length library.classes)) (expression_fits key && assignments_fit pairs) h in
          let parts = and_parts (expression_fits key) (assignments_fit pairs) within.1 in
          with_value_fits library (λ (r : KeyedRow). IsTrue (fits_64 r.key) × IsTrue (row_fits (class_at library class).fields r.row))
          (keyed_row context.environment key pairs (made_row (class_at library class).fields))
          (λ r. created_if_absent (at_level library now depth below) class r.key r.row (find_object S.objects class r.key)) S fit
          (keyed_gives library context.environment env.0 (λ row. IsTrue (row_fits (class_at library class).fields row)) key pairs (made_row (class_at library class).fields)
          parts.0 parts.1 (λ given hgiven. made_gives (class_at library class).fields given hgiven))
          (λ r hr. created_fit now depth below class r.key r.row (find_object S.objects class r.key) fires (created_object class r within.0 hr) S fit)
      statement_run_fits (update class key pairs) context h env S fit =
          let parts = and_parts (expression_fits key) (assignments_fit pairs) h in
          with_value_fits library (λ (r : KeyedRow). IsTrue (fits_64 r.key) × ChangesFit (class_at library class).fields r.row)
          (keyed_row context.environment key pairs (checked_kinds (class_at library class).fields))
          (λ r. updated_if_present (at_level library now depth below) class r.key r.row (find_object S.objects class r.key)) S fit
          (keyed_gives library context.environment env.0 (ChangesFit (class_at library class).fields) key pairs (checked_kinds (class_at library class).fields)
          parts.0 parts.1 (λ given hgiven. checked_gives (class_at library class).fields given hgiven))
          (λ r hr. updated_fit now depth below class r.key r.row (find_object S.objects class r.key) fires
          (λ old is.
          let here = found_fit library class r.key S.objects old (objects_of_fit library S fit) is in
          (here, object_changed library class r.key r.row old known.fields_differ hr.1 here)) S fit)
      statement_run_fits (delete class key) context h env S fit =
          with_value_fits library (λ z. IsTrue (fits_64 z)) (integer_value context.environment key)
          (λ k. deleted_if_present (at_level library now depth below) class k (find_object S.objects class k)) S fit
          (key_gives library context.environment env.0 key h)
          (λ k hk. deleted_fit now depth below class k (find_object S.objects class k) fires (λ old is. found_fit library class k S.objects old (objects_of_fit library S fit) is) S fit)
      statement_run_fits (signal name arguments) context h env S fit =
          with_value_fits library (AllByRecursion ValueFits) (values_of context.environment arguments) (λ vs. signal_in (at_level library now depth below) (signalled name vs)) S fit
          (values_give library context.environment env.0 arguments h)
          (λ vs hvs. signal_fits now depth below (signalled name vs) fires (each_to value_fits vs hvs) S fit)
      statement_run_fits (emit e) context h env S fit =
          with_value_fits library (λ _. ⊤) (value_of context.environment e) (λ v. with_items (emission v no_items)) S fit (Gives-any (value_of context.environment e))
          (λ v _. record { state = fit; queued = tt; detached = tt })
      statement_run_fits (when e then_body else_body) context h env S fit =
          let parts = and_parts (expression_fits e) (body_fits (length library.classes) then_body && body_fits (length library.classes) else_body) h in
          let bodies = and_parts (body_fits (length library.classes) then_body) (body_fits (length library.classes) else_body) parts.1 in
          with_value_fits library (λ _. ⊤) (boolean_value context.environment e) (λ b. choose b (run_body then_body (at_level library now depth below) context)
          (run_body else_body (at_level library now depth below) context)) S fit
          (Gives-any (boolean_value context.environment e))
          (λ b _. choose_fits b (run_body then_body (at_level library now depth below) context) (run_body else_body (at_level library now depth below) context)
          (body_run_fits then_body context bodies.0 env) (body_run_fits else_body context bodies.1 env) S fit)
      statement_run_fits (each x class predicate body) context h env S fit =
          let parts = and_parts (expression_fits predicate) (body_fits (length library.classes) body) h in
          with_value_fits library RowsFit (answer context.environment x class predicate S.objects)
          (λ rows. for_each rows (λ r. run_body body (at_level library now depth below) (with_row x r context))) S fit
          (answer_gives library context.environment x class predicate S.objects (objects_of_fit library S fit))
          (λ rows hrows. for_each_fits library KeyedFits rows (λ r. run_body body (at_level library now depth below) (with_row x r context)) hrows
          (λ r hr. body_run_fits body (with_row x r context) parts.1 (bound_fits library x r context.environment hr env.0, env.1)) S fit)
      statement_run_fits (for_answer x body) context h env S fit =
          for_each_fits library KeyedFits (answer_named context.answers x) (λ r. run_body body (at_level library now depth below) (with_row x r context)) (kept_answer_fits context.answers x env.1)
          (λ r hr. body_run_fits body (with_row x r context) h (bound_fits library x r context.environment hr env.0, env.1)) S fit
      statement_run_fits (with_object x class key body) context h env S fit =
          let parts = and_parts (expression_fits key) (body_fits (length library.classes) body) h in
          with_value_fits library KeyedFits (named_object S.objects context.environment class key) (λ r. run_body body (at_level library now depth below) (with_row x r context)) S fit
          (object_gives library context.environment env.0 S.objects class key parts.0 (objects_of_fit library S fit))
          (λ r hr. body_run_fits body (with_row x r context) parts.1 (bound_fits library x r context.environment hr env.0, env.1) S fit)
      statement_run_fits (subtransaction body otherwise) context h env S fit =
          let bodies = and_parts (body_fits (length library.classes) body) (body_fits (length library.classes) otherwise) h in
          sub_fits (run_body body (at_level library now depth below) context S).end S (run_body body (at_level library now depth below) context S)
          (run_body otherwise (at_level library now depth below) context) fit
          (body_run_fits body context bodies.0 env S fit) (body_run_fits otherwise context bodies.1 env)
      statement_run_fits abort context h env S fit = ends_fits library (abort_by requested) S fit
      statement_run_fits (let_value x a body) context h env S fit =
          let parts = and_parts (aggregate_fits a) (body_fits (length library.classes) body) h in
          with_value_fits library ValueFits (let_of S.objects context.environment a) (λ v. run_body body (at_level library now depth below) (with_let x v context)) S fit
          (let_gives library context.environment S.objects env.0 (objects_of_fit library S fit) a parts.0)
          (λ v hv. body_run_fits body (with_let x v context) parts.1 (holding_fits library x v context.environment hv env.0, env.1) S fit)
      statement_run_fits veto context h env S fit = vetoes_fit context.rule None S fit
      statement_run_fits (veto_with e) context h env S fit =
          with_value_fits library (λ _. ⊤) (value_of context.environment e) (λ v. vetoes context.rule (Some v)) S fit (Gives-any (value_of context.environment e))
          (λ v _. vetoes_fit context.rule (Some v) S fit)
      statement_run_fits (on_rule op n) context h env S fit =
          with_value_fits library (PastFits library) (operated_rule op (rule_state S n)) (λ r S'. with_items (operation (rule_op op n) no_items) (with_rule S' n r)) S fit
          (operated_rule_gives library op (rule_state S n) (rule_state_fits library S n fit)) (λ r hr. record { state = with_rule_fits library S n r hr fit; queued = tt; detached = tt })
      statement_run_fits (fire n) context h env S fit = fired_fits (rule_state S n).status now depth below n fires S fit

      pub body_run_fits : (b : Body) (context : Context) → IsTrue (body_fits (length library.classes) b) → ContextFits library context
          → WorkFits library (run_body b (at_level library now depth below) context)
      body_run_fits empty context h env S fit = ends_fits library done S fit
      body_run_fits (s then rest) context h env S fit =
          let parts = and_parts (statement_fits (length library.classes) s) (body_fits (length library.classes) rest) h in
          then_do_fits library (run_statement s (at_level library now depth below) context S) (run_body rest (at_level library now depth below) context)
          (statement_run_fits s context parts.0 env S fit) (body_run_fits rest context parts.1 env)
