-- All that a kinded body runs, from a state in which all is as declared, ends with no cause of a kind and leaves such a
-- state; and the tasks that it makes have occurrences and answers that their rules' kinds are right for.
use Rattle.std.proofs.Common.{◌≡◌, refl, subst, sym, ℕ, zero, suc, ℤ, pos, List, [], ◌∷◌, length, map, Option, None, Some, Bool, true, false, ◌&&◌, IsTrue, nat_lt}
use Rattle.std.proofs.lemmas.Bool.{and_parts, and_from}
use Rattle.std.specs.Prelude.{⊤, Ok, Err, bytes_eq, filter, filter_map, option_map, unwrap_or, is_some, slice_set}
use Rattle.std.specs.List.{AllByRecursion, cons_option, list_all, slice_index_or}
use Rattle.std.specs.Map.{lookup}
use Rattle.hp_model.specs.Values.{Name, Value, Veto, Row, KeyedRow, integer_kind, boolean_kind, exists, missing, requested, vetoed, depth_exceeded, Outcome, fits_64, value_fits, row_fits}
use Rattle.hp_model.specs.Occurrences.{Primitive, created, updated, deleted, signalled, History, Occurrence, no_occurrence}
use Rattle.hp_model.specs.Expressions.{value_of}
use Rattle.hp_model.specs.Events.{Event, occurrence_of}
use Rattle.hp_model.specs.Conditions.{answer, let_of}
use Rattle.hp_model.specs.Rules.{Coupling, immediate, deferred, separate, dependent, exclusive, is_immediate, Assignment, RuleOperation, install, enable, disable, remove}
use Rattle.hp_model.specs.Rules.{Statement, create, update, delete, signal, emit, when, each, for_answer, with_object, subtransaction, let_value, abort, veto, veto_with, on_rule}
use Rattle.hp_model.specs.Rules.{fire, Body, empty, ◌then◌, Library, Rule, no_rule, class_at, rule_at}
use Rattle.hp_model.specs.State.{State, RuleState, object_fits, find_object, rule_state, with_rule, with_status, with_objects, extended_rule, extended, Status, absent, enabled, disabled, IsFit}
use Rattle.hp_model.specs.Tree.{Task, Step, condition_step, action_step, Node, Operation, create_op, update_op, delete_op, rule_op, no_items, operation, emission, apply, sub_node}
use Rattle.hp_model.specs.Transactions.{Detached, End, done, abort_by, veto_by, Course, Work, ends, joined, after_end, then_do, with_value, for_each, with_items, survivor_by}
use Rattle.hp_model.specs.Transactions.{survivors, closed_by, closed, placed, detached_of, unreleased}
use Rattle.hp_model.specs.Firing.{Firing, Fire, after_firing, siblings, Siblings, course_of, Level, start, triggered, signal_in, Context, with_row, with_let, operated}
use Rattle.hp_model.specs.Firing.{created_if_absent, updated_if_present, deleted_if_present, vetoes, nested, sub_by, choose, run_statement, run_body, changed_row, made_row}
use Rattle.hp_model.specs.Firing.{checked_kinds, keyed_row, integer_value, boolean_value, values_of, answer_named, named_object, operated_rule, fired_task, start_fired}
use Rattle.hp_model.specs.Firing.{triggered_by, task_if, triggered_from}
use Rattle.hp_model.specs.Ranges.{expression_fits, assignments_fit, aggregate_fits, statement_fits, body_fits, IsFitLibrary}
use Rattle.hp_model.specs.Kinds.{Sort, any, aggregate_sort, is_aggregate_calm, with_sort, rule_scope, Declared, signature_of, covers, is_declared, is_fired, columns_of, columns_by}
use Rattle.hp_model.specs.Kinds.{Scope, with_name, is_only, sort_of, assignments_kinded, all_assigned, statement_kinded, body_kinded, query_classes, is_calm, is_statement_calm}
use Rattle.hp_model.specs.Kinds.{is_body_calm, is_node_calm, CauseOf, KindedCause, ArePastsDeclared}
use Rattle.hp_model.specs.Endings.{NodeHasOnly, TreeHasOnly}
use Rattle.hp_model.proofs.Endings.{only_append, only_detachments}
use Rattle.hp_model.proofs.Induction.{firing_course}
use Rattle.hp_model.proofs.FitValues.{Gives, Gives-any, each_to, each_append, each_filter, each_map, ValueFits, KeyedFits, RowsFit, PrimitiveFits, OptionFits, EnvironmentFits}
use Rattle.hp_model.proofs.FitValues.{AnswersFit, values_give, answer_gives, bound_fits, holding_fits, let_gives}
use Rattle.hp_model.proofs.FitRows.{made_gives, checked_gives, ChangesFit, object_changed, key_gives, keyed_gives, object_gives, kinds_are, fields_at}
use Rattle.hp_model.proofs.FitStates.{found_fit, PastFits, objects_of_fit, pasts_of_fit, extended_fits, with_rule_fits, rule_state_fits, operated_rule_gives, OperationFits}
use Rattle.hp_model.proofs.FitStates.{operation_fits, occurrence_fits}
use Rattle.hp_model.proofs.FitCourses.{TaskFits, at_level, kept_answer_fits, created_object}
use Rattle.hp_model.proofs.KindValues.{Safe-value, Safe-cause, Safe-weaker, PartTyped, PartsTyped, EnvironmentTyped, KeyedOf}
use Rattle.hp_model.proofs.KindEvents.{Well, MayBeWell, occurrence_well, parts_open}
use Rattle.hp_model.proofs.KindRows.{Sound, not_first, not_second, any_sound, integer_sound, boolean_sound, arguments_sound, row_sound, made_sound, checked_sound, RowsOf}
use Rattle.hp_model.proofs.KindRows.{answer_sound, bound_typed, holding_typed, HasSort, let_sound, sorted_is, let_sorts, AnswersTyped, FindingsTyped, answer_named_typed}
use Rattle.hp_model.proofs.KindRows.{object_sound, operated_sound}

-- ---- ends

abbrev pub IsKindedEnd : (calm : Bool) → End → Type 0
IsKindedEnd calm done = ⊤
IsKindedEnd calm (abort_by c) = CauseOf calm c
IsKindedEnd calm (veto_by r) = ⊤

weaker_end : (b c : Bool) (e : End) → (b ≡ false → c ≡ false) → IsKindedEnd b e → IsKindedEnd c e
weaker_end b c done less h = tt
weaker_end b c (abort_by x) less h = (h.0, λ is. less (h.1 is))
weaker_end b c (veto_by r) less h = tt

-- ---- the rules by their numbers

-- the rules of the list have these numbers, from the n-th on
abbrev pub AreAt : (ℕ → Rule) → ℕ → List Rule → Type 0
AreAt f n [] = ⊤
AreAt f n (r ∷ rs) = (f n ≡ r) × AreAt f (suc n) rs

later_at : (f : ℕ → Rule) (n : ℕ) (rs : List Rule) → AreAt (λ m. f (suc m)) n rs → AreAt f (suc n) rs
later_at f n [] h = tt
later_at f n (r ∷ rs) h = (h.0, later_at f (suc n) rs h.1)

pub all_at : (rules : List Rule) → AreAt (λ n. slice_index_or rules n no_rule) 0 rules
all_at [] = tt
all_at (r ∷ rs) = (refl, later_at (λ n. slice_index_or (r ∷ rs) n no_rule) 0 rs (all_at rs))

module _ (library : Library) (d : Declared) where
  -- ---- what is as declared

  abbrev PastTyped : RuleState → Type 0
  PastTyped r = AllByRecursion (PartTyped library d) r.past

  abbrev PastDeclared : RuleState → Type 0
  PastDeclared r = AllByRecursion (λ p. IsTrue (is_declared d p)) r.past

  pub record Good (S : State) : Type 0 where
    pub fit : IsFit library S
    pub declared : ArePastsDeclared d S

  abbrev pub OccurredWell : ℕ → Occurrence → Type 0
  OccurredWell n o = Well (PartTyped library d) (columns_by (is_fired d n) (rule_at library n).event) o

  abbrev pub StepTyped : ℕ → Step → Type 0
  StepTyped n condition_step = ⊤
  StepTyped n (action_step found) = FindingsTyped library (query_classes (rule_at library n).condition)
      (let_sorts library d (rule_scope (is_fired d n) (rule_at library n)) (rule_at library n).condition) found

  -- the clock's moment is of 64 bits
  abbrev pub IsTimely : ℕ → Type 0
  IsTimely now = IsTrue (fits_64 (pos now))

  abbrev pub TaskTyped : Task → Type 0
  TaskTyped t = TaskFits library t × (OccurredWell t.rule t.occurrence × StepTyped t.rule t.step) × IsTimely t.now

  abbrev pub TasksTyped : List Task → Type 0
  TasksTyped ts = AllByRecursion TaskTyped ts

  abbrev pub DetachedTyped : List Detached → Type 0
  DetachedTyped ds = AllByRecursion (λ (x : Detached). TaskTyped x.task) ds

  pub record CourseTyped (calm : Bool) (c : Course) : Type 0 where
    pub state : Good c.state
    pub queued : TasksTyped c.queued
    pub detached : DetachedTyped c.detached
    pub items : TreeHasOnly (KindedCause library) c.items
    pub end : IsKindedEnd calm c.end

  pub weaker_course : (a b : Bool) (c : Course) → (a ≡ false → b ≡ false) → CourseTyped a c → CourseTyped b c
  weaker_course a b c less h = record { state = h.state; queued = h.queued; detached = h.detached; items = h.items; end = weaker_end a b c.end less h.end }

  abbrev pub WorkTyped : (calm : Bool) → Work → Type 0
  WorkTyped calm work = (S : State) → Good S → CourseTyped calm (work S)

  weaker_work : (a b : Bool) (work : Work) → (a ≡ false → b ≡ false) → WorkTyped a work → WorkTyped b work
  weaker_work a b work less h S good = weaker_course a b (work S) less (h S good)

  abbrev pub FireTyped : Fire → Type 0
  FireTyped f = (S : State) (t : Task) → Good S → TaskTyped t → CourseTyped true (firing_course (f S t))

  abbrev pub BelowTyped : Option Fire → Type 0
  BelowTyped None = ⊤
  BelowTyped (Some f) = FireTyped f

  pub record ContextTyped (scope : Scope) (queries : List (Name × ℕ)) (context : Context) : Type 0 where
    pub fits : EnvironmentFits library context.environment × AnswersFit context.answers
    pub environment : EnvironmentTyped library d scope context.environment
    pub answers : AnswersTyped library queries context.answers

  -- ---- states

  both_each : (ps : List Primitive) → AllByRecursion (PrimitiveFits library) ps → AllByRecursion (λ p. IsTrue (is_declared d p)) ps → PartsTyped library d ps
  both_each [] h k = tt
  both_each (p ∷ ps) h k = ((h.0, k.0), both_each ps h.1 k.1)

  both_pasts : (rs : List RuleState) → AllByRecursion (PastFits library) rs → AllByRecursion PastDeclared rs → AllByRecursion PastTyped rs
  both_pasts [] h k = tt
  both_pasts (r ∷ rs) h k = (both_each r.past h.0 k.0, both_pasts rs h.1 k.1)

  extended_past : (p : Primitive) (status : Status) (past : History) → IsTrue (is_declared d p) → AllByRecursion (λ q. IsTrue (is_declared d q)) past
      → PastDeclared (extended_rule p (record { status = status; past = past }))
  extended_past p absent past is h = h
  extended_past p enabled past is h = (is, h)
  extended_past p disabled past is h = h

  extended_pasts : (p : Primitive) (rs : List RuleState) → IsTrue (is_declared d p) → AllByRecursion PastDeclared rs → AllByRecursion PastDeclared (map (extended_rule p) rs)
  extended_pasts p [] is h = tt
  extended_pasts p (r ∷ rs) is h = (extended_past p r.status r.past is h.0, extended_pasts p rs is h.1)

  extended_good : (p : Primitive) (S : State) → PartTyped library d p → Good S → Good (extended p S)
  extended_good p S h good = record { fit = extended_fits library p S h.0 good.fit; declared = extended_pasts p S.rules h.1 good.declared }

  set_past : (rs : List RuleState) (n : ℕ) (r : RuleState) → PastDeclared r → AllByRecursion PastDeclared rs → AllByRecursion PastDeclared (slice_set rs n r)
  set_past [] n r is h = tt
  set_past (s ∷ rs) zero r is h = (is, h.1)
  set_past (s ∷ rs) (suc n) r is h = (h.0, set_past rs n r is h.1)

  past_at : (rs : List RuleState) (n : ℕ) → AllByRecursion PastDeclared rs → PastDeclared (slice_index_or rs n (with_status absent))
  past_at [] n h = tt
  past_at (r ∷ rs) zero h = h.0
  past_at (r ∷ rs) (suc n) h = past_at rs n h.1

  operated_past : (op : RuleOperation) (status : Status) (past : History) → AllByRecursion (λ q. IsTrue (is_declared d q)) past → (r : RuleState)
      → operated_rule op (record { status = status; past = past }) ≡ Ok r → PastDeclared r
  operated_past op status past h r e = (operated_declared op status past h).value r e
    where
      operated_declared : (op : RuleOperation) (status : Status) (past : History) → AllByRecursion (λ q. IsTrue (is_declared d q)) past
          → Sound true PastDeclared (operated_rule op (record { status = status; past = past }))
      operated_declared install absent past h = Safe-value (with_status enabled) tt
      operated_declared install enabled past h = Safe-value _ h
      operated_declared install disabled past h = Safe-value _ h
      operated_declared enable absent past h = Safe-cause missing (tt, λ e. cc)
      operated_declared enable enabled past h = Safe-value _ h
      operated_declared enable disabled past h = Safe-value (with_status enabled) tt
      operated_declared disable absent past h = Safe-cause missing (tt, λ e. cc)
      operated_declared disable enabled past h = Safe-value (with_status disabled) tt
      operated_declared disable disabled past h = Safe-value _ h
      operated_declared remove absent past h = Safe-value _ h
      operated_declared remove enabled past h = Safe-value (with_status absent) tt
      operated_declared remove disabled past h = Safe-value (with_status absent) tt

  -- ---- courses

  pub ends_typed : {calm : Bool} (e : End) → IsKindedEnd calm e → WorkTyped calm (ends e)
  ends_typed e plain S good = record { state = good; queued = tt; detached = tt; items = tt; end = plain }

  pub joined_typed : {calm : Bool} (b c : Course) → CourseTyped calm b → CourseTyped calm c → CourseTyped calm (joined b c)
  joined_typed b c h k = record {
    state = k.state;
    queued = each_append TaskTyped b.queued c.queued h.queued k.queued;
    detached = each_append (λ (x : Detached). TaskTyped x.task) b.detached c.detached h.detached k.detached;
    items = only_append (KindedCause library) b.items c.items h.items k.items;
    end = k.end;
  }

  after_end_typed : {calm : Bool} (e : End) (c : Course) (next : Work) → CourseTyped calm c → WorkTyped calm next → CourseTyped calm (after_end e c next)
  after_end_typed done c next h k = joined_typed c (next c.state) h (k c.state h.state)
  after_end_typed (abort_by x) c next h k = h
  after_end_typed (veto_by r) c next h k = h

  pub then_do_typed : {calm : Bool} (c : Course) (next : Work) → CourseTyped calm c → WorkTyped calm next → CourseTyped calm (then_do c next)
  then_do_typed c next h k = after_end_typed c.end c next h k

  with_value_typed : {calm : Bool} {A : Type 0} (P Q : A → Type 0) (o : Outcome A) (next : A → Work) (S : State) → Good S → Gives P o → Sound calm Q o
      → ((v : A) → P v → Q v → CourseTyped calm (next v S)) → CourseTyped calm (with_value o next S)
  with_value_typed P Q (Err c) next S good gives safe k = ends_typed (abort_by c) (safe.cause c refl) S good
  with_value_typed P Q (Ok v) next S good gives safe k = k v (gives.fact v refl) (safe.value v refl)

  for_each_typed : {calm : Bool} {A : Type 0} (P Q : A → Type 0) (xs : List A) (work : A → Work) → AllByRecursion P xs → AllByRecursion Q xs
      → ((x : A) → P x → Q x → WorkTyped calm (work x)) → WorkTyped calm (for_each xs work)
  for_each_typed P Q [] work all more k S good = ends_typed done tt S good
  for_each_typed P Q (x ∷ xs) work all more k S good = then_do_typed (work x S) (for_each xs work) (k x all.0 more.0 S good) (for_each_typed P Q xs work all.1 more.1 k)

  survivor_typed : (place : Coupling) (x : Detached) (xs : List Detached) → TaskTyped x.task → DetachedTyped xs → DetachedTyped (cons_option (survivor_by place x) xs)
  survivor_typed immediate x xs h k = k
  survivor_typed deferred x xs h k = k
  survivor_typed separate x xs h k = (h, k)
  survivor_typed dependent x xs h k = k
  survivor_typed exclusive x xs h k = (h, k)

  survivors_typed : (xs : List Detached) → DetachedTyped xs → DetachedTyped (survivors xs)
  survivors_typed [] h = tt
  survivors_typed (x ∷ xs) h = survivor_typed x.task.place x (survivors xs) h.0 (survivors_typed xs h.1)

  -- what a transaction from a state gives, as a part of another course
  pub closed_typed : {calm inner : Bool} (e : End) (S : State) (c : Course) (what : Node) (last : End) → NodeHasOnly (KindedCause library) what
      → IsKindedEnd calm last → IsKindedEnd (is_node_calm library what) e → Good S → CourseTyped inner c → CourseTyped calm (nested what (closed_by e S c) last)
  closed_typed done S c what last is plain ended good h = record { state = h.state; queued = h.queued; detached = h.detached; items = (((is, tt), h.items), tt); end = plain }
  closed_typed (abort_by x) S c what last is plain ended good h = record {
    state = good;
    queued = tt;
    detached = survivors_typed c.detached h.detached;
    items =
        (((is, ended), h.items), tt);
    end = plain;
  }
  closed_typed (veto_by r) S c what last is plain ended good h = record {
    state = good;
    queued = tt;
    detached = survivors_typed c.detached h.detached;
    items =
        (((is, (tt, λ e. cc)), h.items), tt);
    end = plain;
  }

  pub placed_typed : {calm : Bool} (ts : List Task) → TasksTyped ts → WorkTyped calm (placed ts)
  placed_typed ts h S good = record {
    state = good;
    queued = each_filter TaskTyped _ ts h;
    detached = each_map TaskTyped (λ (x : Detached). TaskTyped x.task) unreleased (detached_of ts) (λ t k. k) (each_filter TaskTyped _ ts h);
    items = only_detachments (KindedCause library) (detached_of ts);
    end = tt;
  }

  -- ---- siblings and signals

  after_firing_typed : {calm : Bool} (stops : Bool) (v : Option Veto) (f : Firing) (rest : State → Siblings) → CourseTyped true (firing_course f)
      → WorkTyped calm (λ S. course_of (rest S)) → CourseTyped calm (course_of (after_firing stops v f rest))
  after_firing_typed true (Some r) f rest h k = joined_typed (firing_course f) (ends (abort_by (vetoed r)) f.state) (weaker_course true _ (firing_course f) (λ e. cc) h)
      (ends_typed (abort_by (vetoed r)) (tt, λ e. cc) f.state h.state)
  after_firing_typed true None f rest h k = joined_typed (firing_course f) (course_of (rest f.state)) (weaker_course true _ (firing_course f) (λ e. cc) h) (k f.state h.state)
  after_firing_typed false v f rest h k = joined_typed (firing_course f) (course_of (rest f.state)) (weaker_course true _ (firing_course f) (λ e. cc) h) (k f.state h.state)

  pub siblings_typed : {calm : Bool} (f : Fire) (stops : Bool) (ts : List Task) → FireTyped f → TasksTyped ts → WorkTyped calm (λ S. course_of (siblings f stops ts S))
  siblings_typed f stops [] fires h S good = ends_typed done tt S good
  siblings_typed f stops (t ∷ ts) fires h S good = after_firing_typed stops (f S t).vetoed_by (f S t) (siblings f stops ts) (fires S t good h.0) (siblings_typed f stops ts fires h.1)

  start_typed : {calm : Bool} (below : Option Fire) (ts : List Task) → BelowTyped below → TasksTyped ts → WorkTyped calm (start below ts)
  start_typed below [] fires h S good = ends_typed done tt S good
  start_typed None (t ∷ ts) fires h S good = ends_typed (abort_by depth_exceeded) (tt, λ e. cc) S good
  start_typed (Some f) (t ∷ ts) fires h S good =
      then_do_typed (placed (t ∷ ts) S) (λ S'. course_of (siblings f true (filter (λ (u : Task). is_immediate u.place) (t ∷ ts)) S')) (placed_typed (t ∷ ts) h S good)
      (siblings_typed f true (filter (λ (u : Task). is_immediate u.place) (t ∷ ts)) fires (each_filter TaskTyped (λ (u : Task). is_immediate u.place) (t ∷ ts) h))

  by_columns : (fired : Bool) (e : Event) (o : Option Occurrence) → MayBeWell (PartTyped library d) (columns_of e) o → MayBeWell (PartTyped library d) (columns_by fired e) o
  by_columns fired e None h = tt
  by_columns true e (Some o) h = (parts_open o.parts, h.1)
  by_columns false e (Some o) h = h

  occurred_typed : (level : Level) → IsTimely level.now → (n : ℕ) (rule : Rule) (o : Option Occurrence) (ts : List Task) → rule_at library n ≡ rule
      → OptionFits library o → MayBeWell (PartTyped library d) (columns_of rule.event) o → TasksTyped ts
      → TasksTyped (cons_option (option_map (triggered_by level n rule) o) ts)
  occurred_typed level timely n rule None ts same fit h k = k
  occurred_typed level timely n rule (Some o) ts same fit h k =
      (((tt, fit), (subst (λ (r : Rule). Well (PartTyped library d) (columns_by (is_fired d n) r.event) o) (sym same) (by_columns (is_fired d n) rule.event (Some o) h), tt), timely), k)

  fits_each : (ps : List Primitive) → PartsTyped library d ps → AllByRecursion (PrimitiveFits library) ps
  fits_each [] h = tt
  fits_each (p ∷ ps) h = (h.0.0, fits_each ps h.1)

  status_typed : (level : Level) → IsTimely level.now → (n : ℕ) (rule : Rule) (status : Status) (past : History) (ts : List Task) → rule_at library n ≡ rule → PartsTyped library d past → TasksTyped ts
      → TasksTyped (cons_option (task_if status level n rule past) ts)
  status_typed level timely n rule absent past ts same h k = k
  status_typed level timely n rule enabled past ts same h k =
      occurred_typed level timely n rule (occurrence_of rule.event past) ts same (occurrence_fits library rule.event past (fits_each past h))
      (occurrence_well (PartTyped library d) rule.event past h) k
  status_typed level timely n rule disabled past ts same h k = k

  triggered_from_typed : (level : Level) → IsTimely level.now → (n : ℕ) (rules : List Rule) (rs : List RuleState) → AreAt (rule_at library) n rules
      → AllByRecursion PastTyped rs → TasksTyped (filter_map (λ t. t) (triggered_from level n rules rs))
  triggered_from_typed level timely n [] rs at h = tt
  triggered_from_typed level timely n (rule ∷ rules) [] at h = tt
  triggered_from_typed level timely n (rule ∷ rules) (r ∷ rs) at h =
      status_typed level timely n rule r.status r.past (filter_map (λ t. t) (triggered_from level (suc n) rules rs)) at.0 h.0 (triggered_from_typed level timely (suc n) rules rs at.1 h.1)

  pub signal_typed : {calm : Bool} (now : ℕ) → IsTimely now → (depth : ℕ) (below : Option Fire) (p : Primitive) → BelowTyped below → PartTyped library d p
      → WorkTyped calm (signal_in (at_level library now depth below) p)
  signal_typed now timely depth below p fires h S good =
      let more = extended_good p S h good in
      start_typed below (triggered (at_level library now depth below) (extended p S)) fires
      (triggered_from_typed (at_level library now depth below) timely 0 library.rules (extended p S).rules (all_at library.rules)
      (both_pasts (extended p S).rules (pasts_of_fit library (extended p S) more.fit) more.declared)) (extended p S) more

  -- ---- statements

  operated_typed : {calm : Bool} (now : ℕ) → IsTimely now → (depth : ℕ) (below : Option Fire) (op : Operation) (p : Primitive) → BelowTyped below → OperationFits library op → PartTyped library d p
      → WorkTyped calm (λ S. operated (at_level library now depth below) op p (apply op S.objects) S)
  operated_typed now timely depth below op p fires h k S good =
      then_do_typed (with_items (operation op no_items) (with_objects S (apply op S.objects))) (signal_in (at_level library now depth below) p)
      (record { state = record { fit = operation_fits library op S h good.fit; declared = good.declared }; queued = tt; detached = tt; items = tt; end = tt })
      (signal_typed now timely depth below p fires k)

  created_typed : {calm : Bool} (now : ℕ) → IsTimely now → (depth : ℕ) (below : Option Fire) (class : ℕ) (key : ℤ) (new : Row) (old : Option Row)
      → BelowTyped below → IsTrue (object_fits library class key new)
      → WorkTyped calm (created_if_absent (at_level library now depth below) class key new old)
  created_typed now timely depth below class key new (Some old) fires h S good = ends_typed (abort_by exists) (tt, λ e. cc) S good
  created_typed now timely depth below class key new None fires h S good = operated_typed now timely depth below (create_op class key new) (created class key new) fires h (h, refl) S good

  updated_typed : {calm : Bool} (now : ℕ) → IsTimely now → (depth : ℕ) (below : Option Fire) (class : ℕ) (key : ℤ) (given : Row) (old : Option Row) → BelowTyped below
      → ((row : Row) → old ≡ Some row → IsTrue (object_fits library class key row) × IsTrue (object_fits library class key (changed_row given row)))
      → WorkTyped calm (updated_if_present (at_level library now depth below) class key given old)
  updated_typed now timely depth below class key given None fires h S good = ends_typed (abort_by missing) (tt, λ e. cc) S good
  updated_typed now timely depth below class key given (Some old) fires h S good =
      let fits = h old refl in
      operated_typed now timely depth below (update_op class key (changed_row given old)) (updated class key old (changed_row given old)) fires fits.1
      (and_from (object_fits library class key old) _ fits.0 fits.1, refl) S good

  deleted_typed : {calm : Bool} (now : ℕ) → IsTimely now → (depth : ℕ) (below : Option Fire) (class : ℕ) (key : ℤ) (old : Option Row) → BelowTyped below
      → ((row : Row) → old ≡ Some row → IsTrue (object_fits library class key row))
      → WorkTyped calm (deleted_if_present (at_level library now depth below) class key old)
  deleted_typed now timely depth below class key None fires h S good = ends_typed (abort_by missing) (tt, λ e. cc) S good
  deleted_typed now timely depth below class key (Some old) fires h S good = operated_typed now timely depth below (delete_op class key) (deleted class key old) fires tt (h old refl, refl) S good

  vetoes_typed : {calm : Bool} (r : Option ℕ) (message : Option Value) → WorkTyped calm (vetoes r message)
  vetoes_typed None message S good = ends_typed done tt S good
  vetoes_typed (Some r) message S good = ends_typed (veto_by (record { rule = r; message = message })) tt S good

  choose_typed : {calm : Bool} (b : Bool) (f g : Work) → WorkTyped calm f → WorkTyped calm g → WorkTyped calm (choose b f g)
  choose_typed true f g h k = h
  choose_typed false f g h k = k

  sub_typed : {calm inner : Bool} (e : End) (S : State) (c : Course) (otherwise : Work) → Good S → CourseTyped inner c → WorkTyped calm otherwise → CourseTyped calm (sub_by e (closed S c) otherwise)
  sub_typed done S c otherwise good h k = closed_typed c.end S c sub_node done tt tt (weaker_end _ false c.end (λ _. refl) h.end) good h
  sub_typed (abort_by x) S c otherwise good h k =
      then_do_typed (nested sub_node (closed S c) done) otherwise (closed_typed c.end S c sub_node done tt tt (weaker_end _ false c.end (λ _. refl) h.end) good h) k
  sub_typed (veto_by r) S c otherwise good h k = closed_typed c.end S c sub_node (veto_by r) tt tt (weaker_end _ false c.end (λ _. refl) h.end) good h

  fired_well : (fired : Bool) (e : Event) → fired ≡ true → Well (PartTyped library d) (columns_by fired e) no_occurrence
  fired_well true e is = (tt, tt)
  fired_well false e is = cc

  fired_typed : {calm : Bool} (status : Status) (now : ℕ) → IsTimely now → (depth : ℕ) (below : Option Fire) (n : ℕ) → is_fired d n ≡ true → BelowTyped below
      → WorkTyped calm (start_fired status (at_level library now depth below) n)
  fired_typed absent now timely depth below n is fires S good = ends_typed (abort_by missing) (tt, λ e. cc) S good
  fired_typed enabled now timely depth below n is fires S good = start_typed below (fired_task (at_level library now depth below) n ∷ []) fires
      (((tt, tt), (fired_well (is_fired d n) (rule_at library n).event is, tt), timely), tt) S good
  fired_typed disabled now timely depth below n is fires S good = start_typed below (fired_task (at_level library now depth below) n ∷ []) fires
      (((tt, tt), (fired_well (is_fired d n) (rule_at library n).event is, tt), timely), tt) S good

  row_context : (x : Name) (class : ℕ) (r : KeyedRow) (scope : Scope) (queries : List (Name × ℕ)) (context : Context) → KeyedFits r → KeyedOf library class r → ContextTyped scope queries context
      → ContextTyped (with_name x class scope) queries (with_row x r context)
  row_context x class r scope queries context fit h typed = record {
    fits = (bound_fits library x r context.environment fit typed.fits.0, typed.fits.1);
    environment = bound_typed library d x class r scope context.environment h typed.environment;
    answers = typed.answers;
  }

  let_context : (x : Name) (s : Sort) (v : Value) (scope : Scope) (queries : List (Name × ℕ)) (context : Context) → ValueFits v → HasSort s v → ContextTyped scope queries context
      → ContextTyped (with_sort x s scope) queries (with_let x v context)
  let_context x s v scope queries context fit h typed = record {
    fits = (holding_fits library x v context.environment fit typed.fits.0, typed.fits.1);
    environment = holding_typed library d x s v scope context.environment h typed.environment;
    answers = typed.answers;
  }

  module _ (known : IsFitLibrary library) (now : ℕ) (timely : IsTimely now) (depth : ℕ) (below : Option Fire) (fires : BelowTyped below) where
    abbrev level : Level
    level = at_level library now depth below

    mutual
      pub statement_typed : (s : Statement) (scope : Scope) (queries : List (Name × ℕ)) (context : Context) → IsTrue (statement_fits (length library.classes) s)
          → IsTrue (statement_kinded library d scope queries s)
          → ContextTyped scope queries context → WorkTyped (is_statement_calm s) (run_statement s level context)
      statement_typed (create class key pairs) scope queries context h k env S good =
          let within = and_parts (nat_lt class (length library.classes)) (expression_fits key && assignments_fit pairs) h in
          let parts = and_parts (expression_fits key) (assignments_fit pairs) within.1 in
          let fields = (class_at library class).fields in
          let kinds = and_parts (is_only integer_kind (sort_of library d scope key)) (assignments_kinded library d scope fields pairs && all_assigned fields pairs) k in
          let all = and_parts (assignments_kinded library d scope fields pairs) (all_assigned fields pairs) kinds.1 in
          with_value_typed (λ (r : KeyedRow). IsTrue (fits_64 r.key) × IsTrue (row_fits fields r.row)) (λ (r : KeyedRow). ⊤)
          (keyed_row context.environment key pairs (made_row fields)) (λ r. created_if_absent level class r.key r.row (find_object S.objects class r.key)) S good
          (keyed_gives library context.environment env.fits.0 (λ row. IsTrue (row_fits fields row)) key pairs (made_row fields) parts.0 parts.1 (λ given hgiven. made_gives fields given hgiven))
          (row_sound library d scope context.environment env.environment (is_calm key && list_all (λ (a : Assignment). is_calm a.value) pairs) (λ row. ⊤)
          key pairs fields (made_row fields) (λ e. e) kinds.0 all.0
          (λ given hgiven. made_sound (is_calm key && list_all (λ (a : Assignment). is_calm a.value) pairs) fields fields pairs given
          (kinds_are fields (fields_at library.classes class known.fields_differ)) all.1 hgiven))
          (λ r hr _. created_typed now timely depth below class r.key r.row (find_object S.objects class r.key) fires (created_object library class r within.0 hr) S good)
      statement_typed (update class key pairs) scope queries context h k env S good =
          let parts = and_parts (expression_fits key) (assignments_fit pairs) h in
          let fields = (class_at library class).fields in
          let kinds = and_parts (is_only integer_kind (sort_of library d scope key)) (assignments_kinded library d scope fields pairs) k in
          with_value_typed (λ (r : KeyedRow). IsTrue (fits_64 r.key) × ChangesFit fields r.row) (λ (r : KeyedRow). ⊤)
          (keyed_row context.environment key pairs (checked_kinds fields)) (λ r. updated_if_present level class r.key r.row (find_object S.objects class r.key)) S good
          (keyed_gives library context.environment env.fits.0 (ChangesFit fields) key pairs (checked_kinds fields) parts.0 parts.1 (λ given hgiven. checked_gives fields given hgiven))
          (row_sound library d scope context.environment env.environment (is_calm key && list_all (λ (a : Assignment). is_calm a.value) pairs) (λ row. ⊤)
          key pairs fields (checked_kinds fields) (λ e. e) kinds.0 kinds.1
          (λ given hgiven. checked_sound (is_calm key && list_all (λ (a : Assignment). is_calm a.value) pairs) fields pairs given hgiven))
          (λ r hr _. updated_typed now timely depth below class r.key r.row (find_object S.objects class r.key) fires
          (λ old is.
          let here = found_fit library class r.key S.objects old (objects_of_fit library S good.fit) is in
          (here, object_changed library class r.key r.row old known.fields_differ hr.1 here)) S good)
      statement_typed (delete class key) scope queries context h k env S good =
          with_value_typed (λ z. IsTrue (fits_64 z)) (λ z. ⊤) (integer_value context.environment key) (λ z. deleted_if_present level class z (find_object S.objects class z)) S good
          (key_gives library context.environment env.fits.0 key h) (integer_sound library d scope context.environment env.environment (is_calm key) key (λ e. e) k)
          (λ z hz _. deleted_typed now timely depth below class z (find_object S.objects class z) fires
          (λ old is. found_fit library class z S.objects old (objects_of_fit library S good.fit) is) S good)
      statement_typed (signal name arguments) scope queries context h k env S good =
          with_value_typed (AllByRecursion ValueFits) (λ vs. IsTrue (covers (signature_of d name) vs)) (values_of context.environment arguments) (λ vs. signal_in level (signalled name vs)) S good
          (values_give library context.environment env.fits.0 arguments h) (arguments_sound library d scope context.environment env.environment
          (list_all is_calm arguments) (signature_of d name) arguments (λ e. e) k)
          (λ vs hvs cover. signal_typed now timely depth below (signalled name vs) fires (each_to value_fits vs hvs, cover) S good)
      statement_typed (emit e) scope queries context h k env S good =
          with_value_typed (λ _. ⊤) (λ _. ⊤) (value_of context.environment e) (λ v. with_items (emission v no_items)) S good (Gives-any (value_of context.environment e))
          (any_sound library d scope context.environment env.environment (is_calm e) e (λ z. z) k)
          (λ v _ _. record { state = good; queued = tt; detached = tt; items = tt; end = tt })
      statement_typed (when e then_body else_body) scope queries context h k env S good =
          let parts = and_parts (expression_fits e) (body_fits (length library.classes) then_body && body_fits (length library.classes) else_body) h in
          let bodies = and_parts (body_fits (length library.classes) then_body) (body_fits (length library.classes) else_body) parts.1 in
          let kinds = and_parts (is_only boolean_kind (sort_of library d scope e)) (body_kinded library d scope queries then_body && body_kinded library d scope queries else_body) k in
          let both = and_parts (body_kinded library d scope queries then_body) (body_kinded library d scope queries else_body) kinds.1 in
          with_value_typed (λ _. ⊤) (λ _. ⊤) (boolean_value context.environment e) (λ b. choose b (run_body then_body level context) (run_body else_body level context)) S good
          (Gives-any (boolean_value context.environment e)) (boolean_sound library d scope context.environment env.environment
          (is_calm e && (is_body_calm then_body && is_body_calm else_body)) e (λ z. not_first (is_calm e) (is_body_calm then_body && is_body_calm else_body) z) kinds.0)
          (λ b _ _. choose_typed b (run_body then_body level context) (run_body else_body level context)
          (weaker_work (is_body_calm then_body) (is_calm e && (is_body_calm then_body && is_body_calm else_body)) (run_body then_body level context)
          (λ z. not_second (is_calm e) (is_body_calm then_body && is_body_calm else_body) (not_first (is_body_calm then_body) (is_body_calm else_body) z))
          (body_typed then_body scope queries context bodies.0 both.0 env))
          (weaker_work (is_body_calm else_body) (is_calm e && (is_body_calm then_body && is_body_calm else_body)) (run_body else_body level context)
          (λ z. not_second (is_calm e) (is_body_calm then_body && is_body_calm else_body) (not_second (is_body_calm then_body) (is_body_calm else_body) z))
          (body_typed else_body scope queries context bodies.1 both.1 env)) S good)
      statement_typed (each x class predicate body) scope queries context h k env S good =
          let parts = and_parts (expression_fits predicate) (body_fits (length library.classes) body) h in
          let kinds = and_parts (is_only boolean_kind (sort_of library d (with_name x class scope) predicate)) (body_kinded library d (with_name x class scope) queries body) k in
          with_value_typed RowsFit (RowsOf library class) (answer context.environment x class predicate S.objects) (λ rows. for_each rows (λ r. run_body body level (with_row x r context))) S good
          (answer_gives library context.environment x class predicate S.objects (objects_of_fit library S good.fit))
          (Safe-weaker (λ c e. (e.0, λ _. not_first (is_calm predicate) (is_body_calm body) e.1)) (λ rows e. e)
          (answer_sound library d x class predicate scope context.environment env.environment kinds.0 S.objects (objects_of_fit library S good.fit)))
          (λ rows hrows of. for_each_typed KeyedFits (λ (r : KeyedRow). KeyedOf library class r) rows (λ r. run_body body level (with_row x r context)) hrows of
          (λ r hr is. weaker_work (is_body_calm body) (is_calm predicate && is_body_calm body) (run_body body level (with_row x r context))
          (λ z. not_second (is_calm predicate) (is_body_calm body) z) (body_typed body (with_name x class scope) queries (with_row x r context) parts.1
          kinds.1 (row_context x class r scope queries context hr is env))) S good)
      statement_typed (for_answer x body) scope queries context h k env S good =
          let kinds = and_parts (is_some (lookup (bytes_eq x) queries)) (body_kinded library d (with_name x (unwrap_or (lookup (bytes_eq x) queries) 0) scope) queries body) k in
          let class : ℕ = unwrap_or (lookup (bytes_eq x) queries) 0 in
          for_each_typed KeyedFits (λ (r : KeyedRow). KeyedOf library class r) (answer_named context.answers x) (λ r. run_body body level (with_row x r context))
          (kept_answer_fits library context.answers x env.fits.1)
          (answer_named_typed library x queries context.answers env.answers)
          (λ r hr is. body_typed body (with_name x class scope) queries (with_row x r context) h kinds.1 (row_context x class r scope queries context hr is env)) S good
      statement_typed (with_object x class key body) scope queries context h k env S good =
          let parts = and_parts (expression_fits key) (body_fits (length library.classes) body) h in
          let kinds = and_parts (is_only integer_kind (sort_of library d scope key)) (body_kinded library d (with_name x class scope) queries body) k in
          with_value_typed KeyedFits (λ (r : KeyedRow). KeyedOf library class r) (named_object S.objects context.environment class key) (λ r. run_body body level (with_row x r context)) S good
          (object_gives library context.environment env.fits.0 S.objects class key parts.0 (objects_of_fit library S good.fit))
          (object_sound library d scope context.environment env.environment (is_calm key && is_body_calm body) S.objects class key (λ z. not_first (is_calm key) (is_body_calm body) z)
          (objects_of_fit library S good.fit) kinds.0)
          (λ r hr is. weaker_course (is_body_calm body) (is_calm key && is_body_calm body) (run_body body level (with_row x r context) S)
          (λ z. not_second (is_calm key) (is_body_calm body) z) (body_typed body (with_name x class scope) queries (with_row x r context) parts.1
          kinds.1 (row_context x class r scope queries context hr is env) S good))
      statement_typed (subtransaction body otherwise) scope queries context h k env S good =
          let bodies = and_parts (body_fits (length library.classes) body) (body_fits (length library.classes) otherwise) h in
          let kinds = and_parts (body_kinded library d scope queries body) (body_kinded library d scope queries otherwise) k in
          sub_typed (run_body body level context S).end S (run_body body level context S) (run_body otherwise level context) good
          (body_typed body scope queries context bodies.0 kinds.0 env S good) (body_typed otherwise scope queries context bodies.1 kinds.1 env)
      statement_typed abort scope queries context h k env S good = ends_typed (abort_by requested) (tt, λ e. cc) S good
      statement_typed (let_value x a body) scope queries context h k env S good =
          let parts = and_parts (aggregate_fits a) (body_fits (length library.classes) body) h in
          let s = unwrap_or (aggregate_sort library d scope a) any in
          let kinds = sorted_is (aggregate_sort library d scope a) (λ t. body_kinded library d (with_sort x t scope) queries body) k in
          with_value_typed ValueFits (HasSort s) (let_of S.objects context.environment a) (λ v. run_body body level (with_let x v context)) S good
          (let_gives library context.environment S.objects env.fits.0 (objects_of_fit library S good.fit) a parts.0)
          (let_sound library d scope context.environment env.environment S.objects (objects_of_fit library S good.fit) (is_aggregate_calm a && is_body_calm body)
          a s (λ z. not_first (is_aggregate_calm a) (is_body_calm body) z) kinds.0)
          (λ v hv is. weaker_course (is_body_calm body) (is_aggregate_calm a && is_body_calm body) (run_body body level (with_let x v context) S)
          (λ z. not_second (is_aggregate_calm a) (is_body_calm body) z)
          (body_typed body (with_sort x s scope) queries (with_let x v context) parts.1 kinds.1 (let_context x s v scope queries context hv is env) S good))
      statement_typed veto scope queries context h k env S good = vetoes_typed context.rule None S good
      statement_typed (veto_with e) scope queries context h k env S good =
          with_value_typed (λ _. ⊤) (λ _. ⊤) (value_of context.environment e) (λ v. vetoes context.rule (Some v)) S good (Gives-any (value_of context.environment e))
          (any_sound library d scope context.environment env.environment (is_calm e) e (λ z. z) k)
          (λ v _ _. vetoes_typed context.rule (Some v) S good)
      statement_typed (on_rule op n) scope queries context h k env S good =
          with_value_typed (λ (r : RuleState). PastFits library r × PastDeclared r) (λ r. ⊤) (operated_rule op (rule_state S n))
          (λ r S'. with_items (operation (rule_op op n) no_items) (with_rule S' n r)) S good
          (record {
            fact = λ r e. (
              (operated_rule_gives library op (rule_state S n) (rule_state_fits library S n good.fit)).fact r e,
              operated_past op
                  (rule_state S n).status (rule_state S n).past (past_at S.rules n good.declared) r e,
            );
          })
          (operated_sound true op (rule_state S n))
          (λ r hr _. record {
            state = record { fit = with_rule_fits library S n r hr.0 good.fit; declared = set_past S.rules n r hr.1 good.declared };
            queued =
                tt;
            detached = tt;
            items = tt;
            end = tt;
          })
      statement_typed (fire n) scope queries context h k env S good = fired_typed (rule_state S n).status now timely depth below n k fires S good

      pub body_typed : (b : Body) (scope : Scope) (queries : List (Name × ℕ)) (context : Context) → IsTrue (body_fits (length library.classes) b) → IsTrue (body_kinded library d scope queries b)
          → ContextTyped scope queries context → WorkTyped (is_body_calm b) (run_body b level context)
      body_typed empty scope queries context h k env S good = ends_typed done tt S good
      body_typed (s then rest) scope queries context h k env S good =
          let parts = and_parts (statement_fits (length library.classes) s) (body_fits (length library.classes) rest) h in
          let kinds = and_parts (statement_kinded library d scope queries s) (body_kinded library d scope queries rest) k in
          then_do_typed (run_statement s level context S) (run_body rest level context)
          (weaker_course (is_statement_calm s) (is_statement_calm s && is_body_calm rest) (run_statement s level context S) (λ z. not_first (is_statement_calm s) (is_body_calm rest) z)
          (statement_typed s scope queries context parts.0 kinds.0 env S good))
          (weaker_work (is_body_calm rest) (is_statement_calm s && is_body_calm rest) (run_body rest level context) (λ z. not_second (is_statement_calm s) (is_body_calm rest) z)
          (body_typed rest scope queries context parts.1 kinds.1 env))
