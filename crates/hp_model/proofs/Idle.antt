-- A script does the same where the rules that are never installed do nothing.
use native.Mathlib.Omega.{arith}
use Rattle.std.proofs.Common.{◌+◌, ℤ, ◌-◌, option_map, ◌≡◌, refl, sym, ap, ◌∙◌, subst, ℕ, zero, suc, Bool, true, false, List, [], ◌∷◌, ◌++◌, length, map, Option, None, Some}
use Rattle.std.specs.Bool.{then_some}
use Rattle.std.proofs.lemmas.Bool.{and_parts}
use Rattle.std.proofs.lemmas.List.Folds.{list_all-append}
use Rattle.std.specs.Prelude.{replicate, IsTrue, if◌then◌else◌, ⊤, Ok, Err, filter}
use Rattle.std.specs.List.{filter_map, slice_index_or, list_all, AllByRecursion, cons_option}
use Rattle.hp_model.specs.Values.{Value, Row, Veto, exists, missing, requested, depth_exceeded, Outcome}
use Rattle.hp_model.specs.Occurrences.{Primitive, created, updated, deleted, signalled, commit_reached, moment_reached, History, Occurrence, no_occurrence}
use Rattle.hp_model.specs.Events.{occurrence_of}
use Rattle.hp_model.specs.Rules.{Coupling, immediate, deferred, separate, dependent, exclusive, is_immediate, is_deferred, is_detached, Rule, no_rule, Library, rule_at, class_at}
use Rattle.hp_model.specs.Rules.{Statement, create, update, delete, signal, emit, when, each, for_answer, with_object, subtransaction, let_value, abort, veto, veto_with, on_rule}
use Rattle.hp_model.specs.Rules.{fire, Body, empty, ◌then◌, RuleOperation, install, enable, disable, remove}
use Rattle.hp_model.specs.State.{Objects, State, initial_state, RuleState, Status, absent, enabled, disabled, with_status, rule_state, with_objects, with_rule, extended}
use Rattle.hp_model.specs.State.{find_object, write_object, remove_object}
use Rattle.hp_model.specs.Expressions.{value_of}
use Rattle.hp_model.specs.Conditions.{Findings, Verdict, satisfied, unsatisfied, faulty, answer, verdict, let_of}
use Rattle.hp_model.specs.Tree.{Task, Step, condition_step, action_step, Node, sub_node, fire_node, act_node, with_action, with_fault, Operation, create_op, update_op, delete_op}
use Rattle.hp_model.specs.Tree.{rule_op, no_items, operation, append}
use Rattle.hp_model.specs.Transactions.{End, done, abort_by, veto_by, Course, Work, ends, joined, after_end, then_do, with_value, for_each, with_items, closed, closed_by, undone}
use Rattle.hp_model.specs.Transactions.{drained, placed, Detached, unreleased, survivor_by, survivors, detached_of}
use Rattle.hp_model.specs.Firing.{inert, fault_veto, Firing, Fire, after_firing, siblings, Siblings, course_of, Level, start, task_if, triggered_by, triggered_from, triggered}
use Rattle.hp_model.specs.Firing.{signal_in, Context, with_row, with_let, operated, created_if_absent, updated_if_present, deleted_if_present, changed_row, made_row, checked_kinds}
use Rattle.hp_model.specs.Firing.{keyed_row, integer_value, boolean_value, values_of, answer_named, named_object, operated_rule, fired_task, start_fired, vetoes, nested, sub_by}
use Rattle.hp_model.specs.Firing.{sub_in, choose, run_statement, run_body, firing_with, run_action, action_course, action_context, action_veto, follow, decide, take_step}
use Rattle.hp_model.specs.Firing.{task_environment, below_limit, level_at, fire_task}
use Rattle.hp_model.specs.Cascade.{run_units, unit_report, Unit, transaction, moment, now_in, no_context, unit_work, veto_end, task_work, most_rounds, next_round, rounds}
use Rattle.hp_model.specs.Cascade.{top_course, top, Generation, alone, followed_by, generation, due, due_by, Cascade, Evaluation, before_cascade, cascade, run_unit, unit_report}
use Rattle.hp_model.proofs.BridgesSignals.{extended-status}
use Rattle.hp_model.proofs.BridgesWrites.{rule_state-apart, with_rule-same}
use Rattle.hp_model.specs.Chains.{NotTooDeep}
use Rattle.hp_model.specs.Endings.{everywhere, ReportHasOnly}
use Rattle.hp_model.specs.Idle.{operation_installs, statement_installs, body_installs, unit_installs, IsInstallClosed, idle_rule, idle_from, with_idle, OthersAreIdle, NeverTooDeepByIdle}
use Rattle.hp_model.proofs.Shallow.{never_too_deep}

-- ---- lists

all_append : {A : Type 0} (P : A → Type 0) (xs ys : List A) → AllByRecursion P xs → AllByRecursion P ys → AllByRecursion P (xs ++ ys)
all_append P [] ys h k = k
all_append P (x ∷ xs) ys h k = (h.0, all_append P xs ys h.1 k)

all_choice : {A : Type 0} (P : A → Type 0) (b : Bool) (x : A) (xs : List A) → P x → AllByRecursion P xs → AllByRecursion P (if b then x ∷ xs else xs)
all_choice P true x xs h k = (h, k)
all_choice P false x xs h k = k

all_filter : {A : Type 0} (P : A → Type 0) (test : A → Bool) (xs : List A) → AllByRecursion P xs → AllByRecursion P (filter test xs)
all_filter P test [] h = tt
all_filter P test (x ∷ xs) h = all_choice P (test x) x (filter test xs) h.0 (all_filter P test xs h.1)

both_installed : (present : ℕ → Bool) (xs ys : List ℕ) → IsTrue (list_all present (xs ++ ys)) → IsTrue (list_all present xs) × IsTrue (list_all present ys)
both_installed present xs ys h = and_parts (list_all present xs) (list_all present ys) (subst IsTrue (list_all-append present xs ys) h)

-- ---- the rules that are left

idle_length : (present : ℕ → Bool) (classes n : ℕ) (rules : List Rule) → length (idle_from present classes n rules) ≡ length rules
idle_length present classes n [] = refl
idle_length present classes n (rule ∷ rules) = ap suc (idle_length present classes (suc n) rules)

-- a rule of the set is as it was
left_from : (present : ℕ → Bool) (classes n k m : ℕ) (rules : List Rule) → m ≡ n + k → present m ≡ true → slice_index_or (idle_from present classes n rules) k no_rule ≡ slice_index_or rules k no_rule
left_from present classes n k m [] is here = refl
left_from present classes n zero m (rule ∷ rules) is here =
    let same : m ≡ n = omega (arith, is) in
    ap (λ b. if b then rule else idle_rule classes rule) (ap present (sym same) ∙ here)
left_from present classes n (suc k) m (rule ∷ rules) is here = left_from present classes (suc n) k m rules (omega (arith, is)) here

module _ (library : Library) (present : ℕ → Bool) (whole : IsInstallClosed library present) where
  abbrev other : Library
  other = with_idle present library

  left : (n : ℕ) → IsTrue (present n) → rule_at other n ≡ rule_at library n
  left n here = left_from present (length library.classes) 0 n n library.rules (omega arith) here

  -- ---- states

  -- no rule outside the set has been installed
  abbrev Absent : State → Type 0
  Absent S = (n : ℕ) → present n ≡ false → (rule_state S n).status ≡ absent

  absent_extended : (p : Primitive) (S : State) → Absent S → Absent (extended p S)
  absent_extended p S h n out = extended-status p S n ∙ h n out

  absent_set : (S : State) (n : ℕ) (r : RuleState) → IsTrue (present n) → Absent S → Absent (with_rule S n r)
  absent_set S n r here h m out = ap (λ (x : RuleState). x.status) (rule_state-apart S n m r (λ e. let same = ap present e in cc)) ∙ h m out

  abbrev IsPresent : Task → Type 0
  IsPresent t = IsTrue (present t.rule)

  abbrev ArePresent : List Task → Type 0
  ArePresent ts = AllByRecursion IsPresent ts

  abbrev AreDetached : List Detached → Type 0
  AreDetached ds = AllByRecursion (λ (d : Detached). IsPresent d.task) ds

  unreleased_present : (ts : List Task) → ArePresent ts → AreDetached (map unreleased ts)
  unreleased_present [] h = tt
  unreleased_present (t ∷ ts) h = (h.0, unreleased_present ts h.1)

  survivor_present : (place : Coupling) (e : Detached) (es : List Detached) → IsPresent e.task → AreDetached es → AreDetached (cons_option (survivor_by place e) es)
  survivor_present immediate e es h k = k
  survivor_present deferred e es h k = k
  survivor_present separate e es h k = (h, k)
  survivor_present dependent e es h k = k
  survivor_present exclusive e es h k = (h, k)

  survivors_present : (ds : List Detached) → AreDetached ds → AreDetached (survivors ds)
  survivors_present [] h = tt
  survivors_present (d ∷ ds) h = survivor_present d.task.place d (survivors ds) h.0 (survivors_present ds h.1)

  -- ---- courses

  record Good (c : Course) : Type 0 where
    state : Absent c.state
    queued : ArePresent c.queued
    detached : AreDetached c.detached

  -- the same course by both libraries
  record Kept (c d : Course) : Type 0 where
    is : c ≡ d
    good : Good c

  abbrev Equal : Work → Work → Type 0
  Equal f g = (S : State) → Absent S → Kept (f S) (g S)

  kept_end : (e : End) → Equal (ends e) (ends e)
  kept_end e S h = record { is = refl; good = record { state = h; queued = tt; detached = tt } }

  joined_good : (c d : Course) → Good c → Good d → Good (joined c d)
  joined_good c d g k = record {
    state = k.state;
    queued = all_append IsPresent c.queued d.queued g.queued k.queued;
    detached =
        all_append (λ (e : Detached). IsPresent e.task) c.detached d.detached g.detached k.detached;
  }

  kept_after : (e : End) (c : Course) (f g : Work) → Good c → Equal f g → Kept (after_end e c f) (after_end e c g)
  kept_after done c f g good same = let next = same c.state good.state in record { is = ap (joined c) next.is; good = joined_good c (f c.state) good next.good }
  kept_after (abort_by x) c f g good same = record { is = refl; good = good }
  kept_after (veto_by v) c f g good same = record { is = refl; good = good }

  kept_then : (c d : Course) (f g : Work) → Kept c d → Equal f g → Kept (then_do c f) (then_do d g)
  kept_then c d f g kept same = subst (λ (x : Course). Kept (then_do c f) (then_do x g)) kept.is (kept_after c.end c f g kept.good same)

  kept_value : {A : Type 0} (o : Outcome A) (f g : A → Work) → ((x : A) → Equal (f x) (g x)) → Equal (with_value o f) (with_value o g)
  kept_value (Err c) f g same = kept_end (abort_by c)
  kept_value (Ok x) f g same = same x

  kept_each : {A : Type 0} (xs : List A) (f g : A → Work) → ((x : A) → Equal (f x) (g x)) → Equal (for_each xs f) (for_each xs g)
  kept_each [] f g same = kept_end done
  kept_each (x ∷ xs) f g same = λ S h. kept_then (f x S) (g x S) (for_each xs f) (for_each xs g) (same x S h) (kept_each xs f g same)

  -- what depends on the objects alone
  by_objects : (f g : Objects → Work) → ((objects : Objects) → Equal (f objects) (g objects)) → Equal (λ S. f S.objects S) (λ S. g S.objects S)
  by_objects f g same S h = same S.objects S h

  -- ---- firings

  record GoodFiring (f : Firing) : Type 0 where
    state : Absent f.state
    queued : ArePresent f.queued
    detached : AreDetached f.detached

  record KeptFiring (f g : Firing) : Type 0 where
    is : f ≡ g
    good : GoodFiring f

  -- tasks of present rules fire the same
  abbrev EqualFire : Fire → Fire → Type 0
  EqualFire f g = (t : Task) → IsPresent t → (S : State) → Absent S → KeptFiring (f S t) (g S t)

  abbrev EqualBelow : Option Fire → Option Fire → Type 0
  EqualBelow None None = ⊤
  EqualBelow None (Some g) = ⊥
  EqualBelow (Some f) None = ⊥
  EqualBelow (Some f) (Some g) = EqualFire f g

  one_more : (f : Firing) (g h : Siblings) → GoodFiring f → Kept (course_of g) (course_of h)
      → Kept (course_of (record { firings = f ∷ g.firings; state = g.state; vetoed_by = g.vetoed_by })) (course_of (record { firings = f ∷ h.firings; state = h.state; vetoed_by = h.vetoed_by }))
  one_more f g h good kept = record {
    is = λ i. record {
      state = (kept.is i).state;
      queued = f.queued ++ (kept.is i).queued;
      detached = f.detached ++ (kept.is i).detached;
      items =
          append f.items (kept.is i).items;
      end = (kept.is i).end;
    };
    good = record {
      state = kept.good.state;
      queued = all_append IsPresent f.queued (course_of g).queued good.queued kept.good.queued;
      detached = all_append (λ (e : Detached). IsPresent e.task) f.detached (course_of g).detached good.detached kept.good.detached;
    };
  }

  kept_sibling : (stops : Bool) (v : Option Veto) (f : Firing) (g h : State → Siblings) → GoodFiring f → Equal (λ S. course_of (g S)) (λ S. course_of (h S))
      → Kept (course_of (after_firing stops v f g)) (course_of (after_firing stops v f h))
  kept_sibling true (Some v) f g h good same =
      record {
        is = refl;
        good = record {
          state = good.state;
          queued = all_append IsPresent f.queued [] good.queued tt;
          detached =
              all_append (λ (e : Detached). IsPresent e.task) f.detached [] good.detached tt;
        };
      }
  kept_sibling true None f g h good same = one_more f (g f.state) (h f.state) good (same f.state good.state)
  kept_sibling false v f g h good same = one_more f (g f.state) (h f.state) good (same f.state good.state)

  kept_siblings : (f g : Fire) → EqualFire f g → (stops : Bool) (ts : List Task) → ArePresent ts → Equal (λ S. course_of (siblings f stops ts S)) (λ S. course_of (siblings g stops ts S))
  kept_siblings f g fires stops [] here = kept_end done
  kept_siblings f g fires stops (t ∷ ts) here = λ S h.
      let same = fires t here.0 S h in
      subst (λ (x : Firing). Kept (course_of (after_firing stops (f S t).vetoed_by (f S t) (siblings f stops ts))) (course_of (after_firing stops x.vetoed_by x (siblings g stops ts)))) same.is
      (kept_sibling stops (f S t).vetoed_by (f S t) (siblings f stops ts) (siblings g stops ts) same.good (kept_siblings f g fires stops ts here.1))

  -- ---- signals

  kept_placed : (ts : List Task) → ArePresent ts → Equal (placed ts) (placed ts)
  kept_placed ts here S h = record {
    is = refl;
    good = record {
      state = h;
      queued = all_filter IsPresent (λ (t : Task). is_deferred t.place) ts here;
      detached =
          unreleased_present (detached_of ts) (all_filter IsPresent (λ (t : Task). is_detached t.place) ts here);
    };
  }

  kept_start : (below below' : Option Fire) → EqualBelow below below' → (ts : List Task) → ArePresent ts → Equal (start below ts) (start below' ts)
  kept_start None None fires [] here = kept_end done
  kept_start None (Some g) fires ts here = absurd fires
  kept_start (Some f) None fires ts here = absurd fires
  kept_start (Some f) (Some g) fires [] here = kept_end done
  kept_start None None fires (t ∷ ts) here = kept_end (abort_by depth_exceeded)
  kept_start (Some f) (Some g) fires (t ∷ ts) here = λ S h.
      let now = filter (λ (u : Task). is_immediate u.place) (t ∷ ts) in
      kept_then (placed (t ∷ ts) S) (placed (t ∷ ts) S) (λ S'. course_of (siblings f true now S')) (λ S'. course_of (siblings g true now S'))
      (kept_placed (t ∷ ts) here S h) (kept_siblings f g fires true now (all_filter IsPresent (λ (u : Task). is_immediate u.place) (t ∷ ts) here))

  -- ---- the level of a transaction, in both libraries

  module _ (depth now : ℕ) (below below' : Option Fire) (fires : EqualBelow below below') where
    abbrev level : Level
    level = record { library = library; depth = depth; now = now; below = below }

    abbrev level' : Level
    level' = record { library = other; depth = depth; now = now; below = below' }

    -- the task of a rule that is present, or nothing of one that is absent
    record OneTask (n : ℕ) (o p : Option Task) : Type 0 where
      is : o ≡ p
      here : (t : Task) → o ≡ Some t → IsPresent t

    task_here : (n : ℕ) (rule : Rule) (s : Status) (past : History) (t : Task) → IsTrue (present n) → task_if s level n rule past ≡ Some t → IsPresent t
    task_here n rule absent past t here e = cc
    task_here n rule disabled past t here e = cc
    task_here n rule enabled past t here e = of (occurrence_of rule.event past) e
      where
        of : (o : Option Occurrence) → option_map (triggered_by level n rule) o ≡ Some t → IsPresent t
        of None k = cc
        of (Some o) k = subst IsPresent (let same : triggered_by level n rule o ≡ t = cc in same) here

    one_task : (classes n : ℕ) (rule : Rule) (r : RuleState) (b : Bool) → present n ≡ b → (b ≡ false → r.status ≡ absent)
        → OneTask n (task_if r.status level n rule r.past) (task_if r.status level' n (if b then rule else idle_rule classes rule) r.past)
    one_task classes n rule r true is h = record { is = same r.status; here = λ t e. task_here n rule r.status r.past t is e }
      where
        same : (s : Status) → task_if s level n rule r.past ≡ task_if s level' n rule r.past
        same absent = refl
        same enabled = refl
        same disabled = refl
    one_task classes n rule r false is h =
        subst (λ s. OneTask n (task_if s level n rule r.past) (task_if s level' n (idle_rule classes rule) r.past)) (sym (h refl)) (record { is = refl; here = λ t e. cc })

    -- the triggered tasks, from the n-th rule on
    record Tasks (ts us : List Task) : Type 0 where
      is : ts ≡ us
      here : ArePresent ts

    one_listed : (n : ℕ) (o p : Option Task) (ts us : List Task) → OneTask n o p → Tasks ts us → Tasks (cons_option o ts) (cons_option p us)
    one_listed n o p ts us one rest = record { is = λ i. cons_option (one.is i) (rest.is i); here = of o one.here }
      where
        of : (x : Option Task) → ((t : Task) → x ≡ Some t → IsPresent t) → ArePresent (cons_option x ts)
        of None h = rest.here
        of (Some t) h = (h t refl, rest.here)

    tasks_listed : (classes n : ℕ) (rules : List Rule) (rs : List RuleState) → ((k m : ℕ) → m ≡ n + k → present m ≡ false → (slice_index_or rs k (with_status absent)).status ≡ absent)
        → Tasks (filter_map (λ t. t) (triggered_from level n rules rs)) (filter_map (λ t. t) (triggered_from level' n (idle_from present classes n rules) rs))
    tasks_listed classes n [] rs h = record { is = refl; here = tt }
    tasks_listed classes n (rule ∷ rules) [] h = record { is = refl; here = tt }
    tasks_listed classes n (rule ∷ rules) (r ∷ rs) h =
        one_listed n (task_if r.status level n rule r.past) (task_if r.status level' n (if present n then rule else idle_rule classes rule) r.past) _ _
        (one_task classes n rule r (present n) refl (λ out. h 0 n (omega arith) out))
        (tasks_listed classes (suc n) rules rs (λ k m is out. h (suc k) m (omega (arith, is)) out))

    kept_signal : (p : Primitive) → Equal (signal_in level p) (signal_in level' p)
    kept_signal p S h =
        let heard = absent_extended p S h in
        let tasks = tasks_listed (length library.classes) 0 library.rules (extended p S).rules (λ k m is out. let same : k ≡ m = omega (arith, is) in heard k (ap present same ∙ out)) in
        let kept = kept_start below below' fires (triggered level (extended p S)) tasks.here (extended p S) heard in
        subst (λ ts. Kept (start below (triggered level (extended p S)) (extended p S)) (start below' ts (extended p S))) tasks.is kept

    kept_operated : (op : Operation) (p : Primitive) (objects : Objects) → Equal (operated level op p objects) (operated level' op p objects)
    kept_operated op p objects S h =
        kept_then (with_items (operation op no_items) (with_objects S objects)) (with_items (operation op no_items) (with_objects S objects)) (signal_in level p) (signal_in level' p)
        (record { is = refl; good = record { state = h; queued = tt; detached = tt } }) (kept_signal p)

    kept_created : (class : ℕ) (key : ℤ) (new : Row) (found : Option Row) → Equal (created_if_absent level class key new found) (created_if_absent level' class key new found)
    kept_created class key new (Some old) = kept_end (abort_by exists)
    kept_created class key new None = λ S h. kept_operated (create_op class key new) (created class key new) (write_object S.objects class key new) S h

    kept_updated : (class : ℕ) (key : ℤ) (given : Row) (found : Option Row) → Equal (updated_if_present level class key given found) (updated_if_present level' class key given found)
    kept_updated class key given None = kept_end (abort_by missing)
    kept_updated class key given (Some old) = λ S h.
        let new = changed_row given old in kept_operated (update_op class key new) (updated class key old new) (write_object S.objects class key new) S h

    kept_deleted : (class : ℕ) (key : ℤ) (found : Option Row) → Equal (deleted_if_present level class key found) (deleted_if_present level' class key found)
    kept_deleted class key None = kept_end (abort_by missing)
    kept_deleted class key (Some old) = λ S h. kept_operated (delete_op class key) (deleted class key old) (remove_object S.objects class key) S h

    -- ---- statements

    kept_sub_by : (e : End) (S : State) (c : Course) (f g : Work) → Absent S → Good c → Equal f g → Kept (sub_by e (closed_by e S c) f) (sub_by e (closed_by e S c) g)
    kept_sub_by done S c f g h good same = record { is = refl; good = record { state = good.state; queued = good.queued; detached = good.detached } }
    kept_sub_by (abort_by x) S c f g h good same =
        kept_then (nested sub_node (undone S c x) done) (nested sub_node (undone S c x) done) f g
        (record { is = refl; good = record { state = h; queued = tt; detached = survivors_present c.detached good.detached } }) same
    kept_sub_by (veto_by v) S c f g h good same = record { is = refl; good = record { state = h; queued = tt; detached = survivors_present c.detached good.detached } }

    kept_sub : (body body' otherwise otherwise' : Work) → Equal body body' → Equal otherwise otherwise' → Equal (sub_in body otherwise) (sub_in body' otherwise')
    kept_sub body body' otherwise otherwise' inner next S h =
        let c = body S in
        let same = inner S h in
        subst (λ (d : Course). Kept (sub_by c.end (closed S c) otherwise) (sub_by d.end (closed S d) otherwise')) same.is (kept_sub_by c.end S c otherwise otherwise' h same.good next)

    -- an operation on a rule whose state is this
    abbrev rule_work : RuleOperation → ℕ → RuleState → Work
    rule_work op n r = with_value (operated_rule op r) (λ r' S'. with_items (operation (rule_op op n) no_items) (with_rule S' n r'))

    kept_set : (op : RuleOperation) (n : ℕ) (r : RuleState) → IsTrue (present n)
        → Equal (λ S. with_items (operation (rule_op op n) no_items) (with_rule S n r)) (λ S. with_items (operation (rule_op op n) no_items) (with_rule S n r))
    kept_set op n r here S h = record { is = refl; good = record { state = absent_set S n r here h; queued = tt; detached = tt } }

    -- a rule that is absent stays so, unless it is installed
    kept_absent : (op : RuleOperation) (n : ℕ) (past : History) (S : State) → IsTrue (list_all present (operation_installs op n)) → rule_state S n ≡ record { status = absent; past = past } → Absent S
        → present n ≡ false → Kept (rule_work op n (record { status = absent; past = past }) S) (rule_work op n (record { status = absent; past = past }) S)
    kept_absent install n past S ok at h out = let here = (and_parts (present n) true ok).0 in cc
    kept_absent enable n past S ok at h out = kept_end (abort_by missing) S h
    kept_absent disable n past S ok at h out = kept_end (abort_by missing) S h
    kept_absent remove n past S ok at h out = record {
      is = refl;
      good = record { state = subst Absent (sym (with_rule-same S n) ∙ ap (with_rule S n) at) h; queued = tt; detached = tt };
    }

    kept_rule : (op : RuleOperation) (n : ℕ) (S : State) (b : Bool) → present n ≡ b → IsTrue (list_all present (operation_installs op n)) → Absent S
        → Kept (rule_work op n (rule_state S n) S) (rule_work op n (rule_state S n) S)
    kept_rule op n S true is ok h = kept_value (operated_rule op (rule_state S n)) _ _ (λ r. kept_set op n r is) S h
    kept_rule op n S false is ok h =
        let at : rule_state S n ≡ record { status = absent; past = (rule_state S n).past } = ap (λ s. record { status = s; past = (rule_state S n).past }) (h n is) in
        subst (λ r. Kept (rule_work op n r S) (rule_work op n r S)) (sym at) (kept_absent op n (rule_state S n).past S ok at h is)

    kept_fired : (n : ℕ) (S : State) (s : Status) → (rule_state S n).status ≡ s → Absent S → (b : Bool) → present n ≡ b → Kept (start_fired s level n S) (start_fired s level' n S)
    kept_fired n S absent at h b is = kept_end (abort_by missing) S h
    kept_fired n S enabled at h true is =
        subst (λ (r : Rule). Kept (start below (triggered_by level n (rule_at library n) no_occurrence ∷ []) S) (start below' (triggered_by level' n r no_occurrence ∷ []) S)) (sym (left n is))
        (kept_start below below' fires (fired_task level n ∷ []) (is, tt) S h)
    kept_fired n S disabled at h true is =
        subst (λ (r : Rule). Kept (start below (triggered_by level n (rule_at library n) no_occurrence ∷ []) S) (start below' (triggered_by level' n r no_occurrence ∷ []) S)) (sym (left n is))
        (kept_start below below' fires (fired_task level n ∷ []) (is, tt) S h)
    kept_fired n S enabled at h false is = let gone = sym at ∙ h n is in cc
    kept_fired n S disabled at h false is = let gone = sym at ∙ h n is in cc

    kept_veto : (rule : Option ℕ) (message : Option Value) → Equal (vetoes rule message) (vetoes rule message)
    kept_veto None message = kept_end done
    kept_veto (Some r) message = kept_end (veto_by (record { rule = r; message = message }))

    kept_choice : (b : Bool) (f g f' g' : Work) → Equal f f' → Equal g g' → Equal (choose b f g) (choose b f' g')
    kept_choice true f g f' g' h k = h
    kept_choice false f g f' g' h k = k

    mutual
      kept_statement : (s : Statement) (context : Context) → IsTrue (list_all present (statement_installs s)) → Equal (run_statement s level context) (run_statement s level' context)
      kept_statement (create class key assignments) context ok =
          let found = keyed_row context.environment key assignments (made_row (class_at library class).fields) in
          λ S h. kept_value found _ _ (λ r. kept_created class r.key r.row (find_object S.objects class r.key)) S h
      kept_statement (update class key assignments) context ok =
          let found = keyed_row context.environment key assignments (checked_kinds (class_at library class).fields) in
          λ S h. kept_value found _ _ (λ r. kept_updated class r.key r.row (find_object S.objects class r.key)) S h
      kept_statement (delete class key) context ok = λ S h. kept_value (integer_value context.environment key) _ _ (λ k. kept_deleted class k (find_object S.objects class k)) S h
      kept_statement (signal name arguments) context ok = kept_value (values_of context.environment arguments) _ _ (λ vs. kept_signal (signalled name vs))
      kept_statement (emit e) context ok = kept_value (value_of context.environment e) _ _ (λ v S h. record { is = refl; good = record { state = h; queued = tt; detached = tt } })
      kept_statement (when e then_body else_body) context ok =
          let parts = both_installed present (body_installs then_body) (body_installs else_body) ok in
          kept_value (boolean_value context.environment e) _ _ (λ b. kept_choice b _ _ _ _ (kept_body then_body context parts.0) (kept_body else_body context parts.1))
      kept_statement (each x class predicate body) context ok =
          λ S h. kept_value (answer context.environment x class predicate S.objects) _ _ (λ rows. kept_each rows _ _ (λ r. kept_body body (with_row x r context) ok)) S h
      kept_statement (for_answer x body) context ok = kept_each (answer_named context.answers x) _ _ (λ r. kept_body body (with_row x r context) ok)
      kept_statement (with_object x class key body) context ok = λ S h. kept_value (named_object S.objects context.environment class key) _ _ (λ r. kept_body body (with_row x r context) ok) S h
      kept_statement (subtransaction body otherwise) context ok =
          let parts = both_installed present (body_installs body) (body_installs otherwise) ok in
          kept_sub (run_body body level context) (run_body body level' context) (run_body otherwise level context) (run_body otherwise level' context)
          (kept_body body context parts.0) (kept_body otherwise context parts.1)
      kept_statement (let_value x a body) context ok = λ S h. kept_value (let_of S.objects context.environment a) _ _ (λ v. kept_body body (with_let x v context) ok) S h
      kept_statement abort context ok = kept_end (abort_by requested)
      kept_statement veto context ok = kept_veto context.rule None
      kept_statement (veto_with e) context ok = kept_value (value_of context.environment e) _ _ (λ v. kept_veto context.rule (Some v))
      kept_statement (on_rule op n) context ok = λ S h. kept_rule op n S (present n) refl ok h
      kept_statement (fire n) context ok = λ S h. kept_fired n S (rule_state S n).status refl h (present n) refl

      kept_body : (b : Body) (context : Context) → IsTrue (list_all present (body_installs b)) → Equal (run_body b level context) (run_body b level' context)
      kept_body empty context ok = kept_end done
      kept_body (s then rest) context ok =
          let parts = both_installed present (statement_installs s) (body_installs rest) ok in
          λ S h. kept_then (run_statement s level context S) (run_statement s level' context S) (run_body rest level context) (run_body rest level' context)
          (kept_statement s context parts.0 S h) (kept_body rest context parts.1)

    -- ---- conditions and actions

    ended_good : (what : Node) (v : Option Veto) (e : End) (S : State) (c : Course) → Absent S → Good c → GoodFiring (firing_with what (closed_by e S c) v)
    ended_good what v done S c h good = record { state = good.state; queued = good.queued; detached = good.detached }
    ended_good what v (abort_by x) S c h good = record { state = h; queued = tt; detached = survivors_present c.detached good.detached }
    ended_good what v (veto_by w) S c h good = record { state = h; queued = tt; detached = survivors_present c.detached good.detached }

    kept_action : (what : Node) (t : Task) → IsPresent t → (found : Findings) (S : State) → Absent S → KeptFiring (run_action what level t found S) (run_action what level' t found S)
    kept_action what t here found S h =
        let rule = rule_at library t.rule in
        let context = action_context t found in
        let ran : Level → Rule → Firing = λ l r. let c = run_body r.action l context S in firing_with what (closed S c) (action_veto r.closed t.rule c.end) in
        let same = kept_body rule.action context (whole t.rule here) S h in
        record {
          is = ap (λ (c : Course). firing_with what (closed S c) (action_veto rule.closed t.rule c.end)) same.is ∙ ap (ran level') (sym (left t.rule here));
          good = ended_good what (action_veto rule.closed t.rule (action_course level t found S).end) (action_course level t found S).end S (action_course level t found S) h same.good;
        }

    kept_follow : (place : Coupling) (t : Task) → IsPresent t → (found : Findings) (S : State) → Absent S → KeptFiring (follow place level t found S) (follow place level' t found S)
    kept_follow immediate t here found S h = kept_action (fire_node t.rule t.place with_action) t here found S h
    kept_follow deferred t here found S h = record { is = refl; good = record { state = h; queued = (here, tt); detached = tt } }
    kept_follow separate t here found S h = record { is = refl; good = record { state = h; queued = tt; detached = (here, tt) } }
    kept_follow dependent t here found S h = record { is = refl; good = record { state = h; queued = tt; detached = (here, tt) } }
    kept_follow exclusive t here found S h = record { is = refl; good = record { state = h; queued = tt; detached = (here, tt) } }

    kept_decision : (v : Verdict) (t : Task) → IsPresent t → (S : State) → Absent S → KeptFiring (decide v level t S) (decide v level' t S)
    kept_decision (satisfied found) t here S h =
        subst (λ (r : Rule). KeptFiring (follow (rule_at library t.rule).action_coupling level t found S) (follow r.action_coupling level' t found S)) (sym (left t.rule here))
        (kept_follow (rule_at library t.rule).action_coupling t here found S h)
    kept_decision unsatisfied t here S h = record { is = refl; good = record { state = h; queued = tt; detached = tt } }
    kept_decision (faulty c) t here S h = record {
      is = ap (λ (r : Rule). inert (fire_node t.rule t.place (with_fault c)) (fault_veto r.closed t.rule) S) (sym (left t.rule here));
      good = record { state = h; queued = tt; detached = tt };
    }

    kept_step : (step : Step) (t : Task) → IsPresent t → (S : State) → Absent S → KeptFiring (take_step step level t S) (take_step step level' t S)
    kept_step condition_step t here S h =
        let asked = λ (r : Rule). verdict S.objects (task_environment t) r.condition in
        subst (λ (r : Rule). KeptFiring (decide (asked (rule_at library t.rule)) level t S) (decide (asked r) level' t S)) (sym (left t.rule here))
        (kept_decision (asked (rule_at library t.rule)) t here S h)
    kept_step (action_step found) t here S h = kept_action (act_node t.rule t.place) t here found S h

  kept_below : (n : ℕ) → EqualBelow (below_limit library n) (below_limit other n)
  kept_below zero = tt
  kept_below (suc n) = λ t here S h. kept_step t.depth t.now (below_limit library n) (below_limit other n) (kept_below n) t.step t here S h

  kept_fire : EqualFire (fire_task library) (fire_task other)
  kept_fire t here S h = kept_step t.depth t.now (below_limit library (library.depth_limit - t.depth)) (below_limit other (library.depth_limit - t.depth))
      (kept_below (library.depth_limit - t.depth)) t.step t here S h

  -- ---- top-level transactions

  abbrev limit : ℕ → ℕ
  limit depth = library.depth_limit - depth

  kept_unit : (u : Unit) → IsTrue (list_all present (unit_installs u)) → Equal (unit_work library u) (unit_work other u)
  kept_unit (transaction now body) ok = kept_body 0 now (below_limit library (limit 0)) (below_limit other (limit 0)) (kept_below (limit 0)) body (no_context now) ok
  kept_unit (moment t) ok = kept_signal 0 t (below_limit library (limit 0)) (below_limit other (limit 0)) (kept_below (limit 0)) (moment_reached t)

  kept_task : (t : Task) → IsPresent t → Equal (task_work library t) (task_work other t)
  kept_task t here S h =
      let same = kept_fire t here S h in
      record {
        is = ap (λ (f : Firing). record { state = f.state; queued = f.queued; detached = f.detached; items = f.items; end = veto_end f.vetoed_by }) same.is;
        good = record { state = same.good.state; queued = same.good.queued; detached = same.good.detached };
      }

  kept_round : (e : End) (ts : List Task) (c : Course) → ArePresent ts → Good c → Kept (next_round (fire_task library) e ts c) (next_round (fire_task other) e ts c)
  kept_round done [] c here good = record { is = refl; good = good }
  kept_round done (t ∷ ts) c here good =
      let next = kept_siblings (fire_task library) (fire_task other) kept_fire true (t ∷ ts) here c.state good.state in
      record {
        is = ap (joined (drained c)) next.is;
        good = joined_good (drained c) (course_of (siblings (fire_task library) true (t ∷ ts) c.state))
            (record { state = good.state; queued = tt; detached = good.detached }) next.good;
      }
  kept_round (abort_by x) ts c here good = record { is = refl; good = good }
  kept_round (veto_by v) ts c here good = record { is = refl; good = good }

  kept_rounds : (n : ℕ) (c d : Course) → Kept c d → Kept (rounds n (fire_task library) c) (rounds n (fire_task other) d)
  kept_rounds zero c d same = same
  kept_rounds (suc n) c d same =
      kept_rounds n (next_round (fire_task library) c.end c.queued c) (next_round (fire_task other) d.end d.queued d)
      (subst (λ (x : Course). Kept (next_round (fire_task library) c.end c.queued c) (next_round (fire_task other) x.end x.queued x)) same.is (kept_round c.end c.queued c same.good.queued same.good))

  kept_top_course : (now depth : ℕ) (work work' : Work) → Equal work work' → Equal (top_course library now depth work) (top_course other now depth work')
  kept_top_course now depth work work' equal S h =
      kept_rounds (most_rounds library) (then_do (work S) (signal_in (level_at library now depth) commit_reached)) (then_do (work' S) (signal_in (level_at other now depth) commit_reached))
      (kept_then (work S) (work' S) (signal_in (level_at library now depth) commit_reached) (signal_in (level_at other now depth) commit_reached) (equal S h)
      (kept_signal depth now (below_limit library (limit depth)) (below_limit other (limit depth)) (kept_below (limit depth)) commit_reached))

  record GoodGeneration (g : Generation) : Type 0 where
    state : Absent g.state
    detached : AreDetached g.detached

  record KeptGeneration (g h : Generation) : Type 0 where
    is : g ≡ h
    good : GoodGeneration g

  alone_good : (t : Option Task) (e : End) (S : State) (c : Course) → Absent S → Good c → GoodGeneration (alone t (closed_by e S c))
  alone_good t done S c h good = record { state = good.state; detached = good.detached }
  alone_good t (abort_by x) S c h good = record { state = h; detached = survivors_present c.detached good.detached }
  alone_good t (veto_by v) S c h good = record { state = h; detached = survivors_present c.detached good.detached }

  kept_alone : (t : Option Task) (now depth : ℕ) (work work' : Work) → Equal work work' → (S : State) → Absent S
      → KeptGeneration (alone t (top library now depth work S)) (alone t (top other now depth work' S))
  kept_alone t now depth work work' equal S h =
      let c = top_course library now depth work S in
      let same = kept_top_course now depth work work' equal S h in
      record { is = ap (λ (d : Course). alone t (closed S d)) same.is; good = alone_good t c.end S c h same.good }

  kept_generation : (ts : List Task) → ArePresent ts → (S : State) → Absent S → KeptGeneration (generation library ts S) (generation other ts S)
  kept_generation [] here S h = record { is = refl; good = record { state = h; detached = tt } }
  kept_generation (t ∷ ts) here S h =
      let g = alone (Some t) (top library t.now t.depth (task_work library t) S) in
      let same = kept_alone (Some t) t.now t.depth (task_work library t) (task_work other t) (kept_task t here.0) S h in
      let rest = kept_generation ts here.1 g.state same.good.state in
      record {
        is = ap (followed_by g) rest.is ∙ ap (λ (x : Generation). followed_by x (generation other ts x.state)) same.is;
        good = record { state = rest.good.state; detached = all_append (λ (e : Detached). IsPresent e.task) g.detached (generation library ts g.state).detached same.good.detached rest.good.detached };
      }

  -- ---- cascades and units

  due_choice : (b : Bool) (t : Task) (ts : List Task) → IsPresent t → ArePresent ts → ArePresent (cons_option (then_some b t) ts)
  due_choice true t ts h k = (h, k)
  due_choice false t ts h k = k

  due_present : (ds : List Detached) → AreDetached ds → ArePresent (due ds)
  due_present [] h = tt
  due_present (d ∷ ds) h = due_choice (due_by d.task.place d.released) d.task (due ds) h.0 (due_present ds h.1)

  record KeptCascade (c d : Cascade) : Type 0 where
    is : c ≡ d
    state : Absent c.state

  kept_cascade : (n : ℕ) (ts : List Task) → ArePresent ts → (S : State) → Absent S → KeptCascade (cascade n library ts S) (cascade n other ts S)
  kept_cascade zero ts here S h = record { is = refl; state = h }
  kept_cascade (suc n) [] here S h = record { is = refl; state = h }
  kept_cascade (suc n) (t ∷ ts) here S h =
      let g = generation library (t ∷ ts) S in
      let same = kept_generation (t ∷ ts) here S h in
      let rest = kept_cascade n (due g.detached) (due_present g.detached same.good.detached) g.state same.good.state in
      record { is = ap (before_cascade g) rest.is ∙ ap (λ (x : Generation). before_cascade x (cascade n other (due x.detached) x.state)) same.is; state = rest.state }

  kept_run : (u : Unit) → IsTrue (list_all present (unit_installs u)) → (S : State) → Absent S → KeptCascade (run_unit library u S) (run_unit other u S)
  kept_run u ok S h =
      let g = alone None (top library (now_in u) 0 (unit_work library u) S) in
      let same = kept_alone None (now_in u) 0 (unit_work library u) (unit_work other u) (kept_unit u ok) S h in
      let n = most_rounds library in
      let rest = kept_cascade n (due g.detached) (due_present g.detached same.good.detached) g.state same.good.state in
      record { is = ap (before_cascade g) rest.is ∙ ap (λ (x : Generation). before_cascade x (cascade n other (due x.detached) x.state)) same.is; state = rest.state }

  kept_units : (us : List Unit) → AllByRecursion (λ (u : Unit). IsTrue (list_all present (unit_installs u))) us → (S : State) → Absent S → run_units library us S ≡ run_units other us S
  kept_units [] ok S h = refl
  kept_units (u ∷ us) ok S h =
      let same = kept_run u ok.0 S h in
      let ended : Cascade → Evaluation → Evaluation = λ c e. record { units = unit_report u c ∷ e.units; state = e.state } in
      ap (ended (run_unit library u S)) (kept_units us ok.1 (run_unit library u S).state same.state) ∙ ap (λ (c : Cascade). ended c (run_units other us c.state)) same.is

  gone_status : (n k : ℕ) → (slice_index_or (replicate n (with_status absent)) k (with_status absent)).status ≡ absent
  gone_status zero k = refl
  gone_status (suc n) zero = refl
  gone_status (suc n) (suc k) = gone_status n k

  nothing_installed : Absent (initial_state library)
  nothing_installed n out = gone_status (length library.rules) n

pub others_are_idle : OthersAreIdle
others_are_idle script present only =
    kept_units script.library present only.0 script.units only.1 (initial_state script.library) (nothing_installed script.library present only.0)
    ∙ ap (λ n. run_units (with_idle present script.library) script.units (record { objects = []; rules = replicate n (with_status absent) }))
    (sym (idle_length present (length script.library.classes) 0 script.library.rules))

pub never_too_deep_by_idle : NeverTooDeepByIdle
never_too_deep_by_idle script present only safe =
    subst (λ (e : Evaluation). AllByRecursion (ReportHasOnly (everywhere NotTooDeep)) e.units) (sym (others_are_idle script present only))
    (never_too_deep (record { library = with_idle present script.library; units = script.units }) safe)
