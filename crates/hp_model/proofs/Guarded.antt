-- Induction over all that runs in a transaction, where bodies trigger only rules that are allowed: a fact that the
-- pieces of a course keep is kept by each such body, signal and firing. What is allowed may depend on the depth.
use Rattle.std.proofs.Common.{arith, ◌+◌, ◌*◌, ◌<◌, ◌≤◌, ℕ, zero, suc, ℤ, pos, List, [], ◌∷◌, ◌++◌, length, map, Option, None, Some, ◌≡◌, refl, sym, ap, ◌∙◌, subst, ◌-◌, Bool, true, false, IsTrue}
use Rattle.std.proofs.lemmas.Bool.{and_parts}
use Rattle.std.proofs.lemmas.List.Folds.{list_all-append}
use Rattle.std.specs.Prelude.{⊤, Ok, Err, filter, option_map, filter_map, ◌||◌, if◌then◌else◌}
use Rattle.std.specs.List.{cons_option, list_all, AllByRecursion, slice_index_or}
use Rattle.std.specs.Option.{option_or}
use Rattle.hp_model.specs.Values.{Veto, Outcome, Row, vetoed, Value, depth_exceeded, exists, missing, requested}
use Rattle.hp_model.specs.Occurrences.{Primitive, created, updated, deleted, signalled, commit_reached, History, Occurrence, primitive_occurrence, no_occurrence}
use Rattle.hp_model.specs.Events.{Event, pattern_event, or_event, seq_event, closure_event, Pattern, on_create, on_update, on_delete, on_signal, on_commit, at_moment, every_moment}
use Rattle.hp_model.specs.Events.{matches, occurrence_of, joined, closed}
use Rattle.hp_model.specs.Expressions.{value_of}
use Rattle.hp_model.specs.Conditions.{Findings, Verdict, satisfied, unsatisfied, faulty, answer, let_of, verdict}
use Rattle.hp_model.specs.Rules.{Coupling, immediate, deferred, separate, dependent, exclusive, is_immediate, is_detached, Statement, create, update, delete, signal, emit, when}
use Rattle.hp_model.specs.Rules.{each, for_answer, with_object, subtransaction, let_value, abort, veto, veto_with, on_rule, fire, Body, empty, ◌then◌, Library, RuleOperation, Rule}
use Rattle.hp_model.specs.Rules.{no_rule, class_at, rule_at}
use Rattle.hp_model.specs.State.{State, RuleState, with_objects, with_rule, extended, extended_rule, find_object, rule_state, Status, absent, enabled, disabled}
use Rattle.hp_model.specs.Tree.{Task, Step, condition_step, action_step, Node, Operation, rule_op, create_op, update_op, delete_op, no_items, operation, emission, apply, sub_node}
use Rattle.hp_model.specs.Tree.{fire_node, act_node, with_action, with_later_action, without_action, with_fault}
use Rattle.hp_model.specs.Transactions.{End, done, abort_by, veto_by, Course, Work, ends, joined as joined_course, after_end, then_do, with_value, for_each, with_items}
use Rattle.hp_model.specs.Transactions.{closed as closed_course, placed, drained}
use Rattle.hp_model.specs.Firing.{Firing, Fire, after_firing, siblings, Siblings, course_of, Level, start, triggered, signal_in, Context, with_row, with_let, operated}
use Rattle.hp_model.specs.Firing.{created_if_absent, updated_if_present, deleted_if_present, vetoes, nested, sub_by, choose, run_statement, run_body, run_action, follow, decide}
use Rattle.hp_model.specs.Firing.{take_step, below_limit, fire_task, changed_row, made_row, checked_kinds, keyed_row, integer_value, boolean_value, values_of, answer_named}
use Rattle.hp_model.specs.Firing.{named_object, operated_rule, fired_task, start_fired, triggered_by, task_if, triggered_from, deferring, inert, fault_veto, action_course}
use Rattle.hp_model.specs.Firing.{action_context, action_task, task_environment}
use Rattle.hp_model.specs.Chains.{completes, triggers_from, signal_triggers, statement_triggers, body_triggers, may_detach, rule_triggers, NotTooDeep}
use Rattle.hp_model.specs.Endings.{FaultsOnlyBy}
use Rattle.hp_model.proofs.Causes.{Plain, value_plain, values_plain, made_plain, checked_plain, keyed_plain, integer_value_plain, boolean_value_plain, object_plain, operated_plain}
use Rattle.hp_model.proofs.Causes.{answer_plain, let_plain, IsPlainVerdict, verdict_plain}

-- the rank of a task rises with what it starts, so that rounds and generations end
abbrev pub step_rank : Step → ℕ
step_rank condition_step = 0
step_rank (action_step found) = 1

abbrev pub rank : Task → ℕ
rank t = 2 * t.depth + step_rank t.step

-- the rank of a body at a depth
abbrev pub body_rank : ℕ → ℕ
body_rank depth = 2 * depth + 1

abbrev pub ending_with : End → Course → Course
ending_with e c = record { state = c.state; queued = c.queued; detached = c.detached; items = c.items; end = e }

-- a firing as a course
abbrev pub firing_course : Firing → Course
firing_course f = record { state = f.state; queued = f.queued; detached = f.detached; items = f.items; end = done }

-- ---- lists

pub every_append : {A : Type 0} (P : A → Type 0) (xs ys : List A) → AllByRecursion P xs → AllByRecursion P ys → AllByRecursion P (xs ++ ys)
every_append P [] ys h k = k
every_append P (x ∷ xs) ys h k = (h.0, every_append P xs ys h.1 k)

every_choice : {A : Type 0} (P : A → Type 0) (b : Bool) (x : A) (xs : List A) → P x → AllByRecursion P xs → AllByRecursion P (if b then x ∷ xs else xs)
every_choice P true x xs h k = (h, k)
every_choice P false x xs h k = k

pub every_filter : {A : Type 0} (P : A → Type 0) (test : A → Bool) (xs : List A) → AllByRecursion P xs → AllByRecursion P (filter test xs)
every_filter P test [] h = tt
every_filter P test (x ∷ xs) h = every_choice P (test x) x (filter test xs) h.0 (every_filter P test xs h.1)

pub every_to : {A : Type 0} (P Q : A → Type 0) (xs : List A) → ((x : A) → P x → Q x) → AllByRecursion P xs → AllByRecursion Q xs
every_to P Q [] next h = tt
every_to P Q (x ∷ xs) next h = (next x h.0, every_to P Q xs next h.1)

-- a test of two lists in turn
pub both_pass : (p : ℕ → Bool) (xs ys : List ℕ) → IsTrue (list_all p (xs ++ ys)) → IsTrue (list_all p xs) × IsTrue (list_all p ys)
both_pass p xs ys h = and_parts (list_all p xs) (list_all p ys) (subst IsTrue (list_all-append p xs ys) h)

-- ---- what completes an event

or_false : (a b : Bool) → (a || b) ≡ false → (a ≡ false) × (b ≡ false)
or_false true b e = cc
or_false false b e = (refl, e)

none_joined : (o : Option Occurrence) → joined o None ≡ None
none_joined None = refl
none_joined (Some x) = refl

none_closed : (o : Option Occurrence) → closed o None ≡ None
none_closed None = refl
none_closed (Some x) = refl

-- an event that the newest occurrence can't complete doesn't occur
incomplete : (e : Event) (p : Primitive) (h : History) → completes e p ≡ false → occurrence_of e (p ∷ h) ≡ None
incomplete (pattern_event pattern) p h apart = ap (λ b. if b then Some (primitive_occurrence p) else None) apart
incomplete (or_event a b) p h apart =
    let parts = or_false (completes a p) (completes b p) apart in
    ap (λ o. option_or o (occurrence_of b (p ∷ h))) (incomplete a p h parts.0) ∙ incomplete b p h parts.1
incomplete (seq_event a b) p h apart = ap (joined _) (incomplete b p h apart) ∙ none_joined _
incomplete (closure_event a t) p h apart = ap (closed _) (incomplete t p h apart) ∙ none_closed _

-- primitives that match the same patterns trigger the same rules
abbrev Alike : Primitive → Primitive → Type 0
Alike p q = (pattern : Pattern) → matches pattern p ≡ matches pattern q

completes_alike : (p q : Primitive) → Alike p q → (e : Event) → completes e p ≡ completes e q
completes_alike p q same (pattern_event pattern) = same pattern
completes_alike p q same (or_event a b) = (λ i. completes_alike p q same a i || completes_alike p q same b i)
completes_alike p q same (seq_event a b) = completes_alike p q same b
completes_alike p q same (closure_event a t) = completes_alike p q same t

triggers_alike : (p q : Primitive) → Alike p q → (n : ℕ) (rules : List Rule) → triggers_from n rules p ≡ triggers_from n rules q
triggers_alike p q same n [] = refl
triggers_alike p q same n (rule ∷ rules) =
    (λ i. if completes_alike p q same rule.event i then n ∷ triggers_alike p q same (suc n) rules i else triggers_alike p q same (suc n) rules i)

pub created_alike : (class : ℕ) (key : ℤ) (new : Row) → Alike (created class (pos 0) []) (created class key new)
created_alike class key new (on_create c) = refl
created_alike class key new (on_update c) = refl
created_alike class key new (on_delete c) = refl
created_alike class key new (on_signal s) = refl
created_alike class key new on_commit = refl
created_alike class key new (at_moment t) = refl
created_alike class key new (every_moment first period) = refl

pub updated_alike : (class : ℕ) (key : ℤ) (old new : Row) → Alike (updated class (pos 0) [] []) (updated class key old new)
updated_alike class key old new (on_create c) = refl
updated_alike class key old new (on_update c) = refl
updated_alike class key old new (on_delete c) = refl
updated_alike class key old new (on_signal s) = refl
updated_alike class key old new on_commit = refl
updated_alike class key old new (at_moment t) = refl
updated_alike class key old new (every_moment first period) = refl

pub deleted_alike : (class : ℕ) (key : ℤ) (old : Row) → Alike (deleted class (pos 0) []) (deleted class key old)
deleted_alike class key old (on_create c) = refl
deleted_alike class key old (on_update c) = refl
deleted_alike class key old (on_delete c) = refl
deleted_alike class key old (on_signal s) = refl
deleted_alike class key old on_commit = refl
deleted_alike class key old (at_moment t) = refl
deleted_alike class key old (every_moment first period) = refl

pub signalled_alike : (name : List ℕ) (vs : List Value) → Alike (signalled name []) (signalled name vs)
signalled_alike name vs (on_create c) = refl
signalled_alike name vs (on_update c) = refl
signalled_alike name vs (on_delete c) = refl
signalled_alike name vs (on_signal s) = refl
signalled_alike name vs on_commit = refl
signalled_alike name vs (at_moment t) = refl
signalled_alike name vs (every_moment first period) = refl

-- ---- allowed tasks

-- all rules of these numbers may fire at a depth
abbrev pub Passes : (ℕ → ℕ → Bool) → ℕ → List ℕ → Type 0
Passes allowed d ns = IsTrue (list_all (allowed d) ns)

-- which rules may fire at a depth: what a firing triggers may fire one deeper
pub record Guard (library : Library) (allowed : (depth rule : ℕ) → Bool) : Type 0 where
  pub follows : (d n : ℕ) → IsTrue (allowed d n) → Passes allowed (suc d) (rule_triggers library (rule_at library n))

-- the task's rule may fire at its depth, and if it is detached, what its own commit event triggers may fire
abbrev pub IsAllowed : Library → (ℕ → ℕ → Bool) → Task → Type 0
IsAllowed library allowed t = IsTrue (allowed t.depth t.rule) × (is_detached t.place ≡ true → Passes allowed (suc t.depth) (signal_triggers library commit_reached))

-- the end isn't that firings would nest too deep
abbrev pub IsPlainEnd : End → Type 0
IsPlainEnd done = ⊤
IsPlainEnd (abort_by c) = NotTooDeep c
IsPlainEnd (veto_by r) = ⊤

-- a new task that may fire, of a rank above n
abbrev pub IsNew : (limit : ℕ) → (Task → Type 0) → ℕ → Task → Type 0
IsNew limit May n t = ((n < rank t) × (t.depth ≤ limit)) × May t

-- a rule that may fire at some depth
abbrev pub IsFireable : (ℕ → ℕ → Bool) → ℕ → Type 0
IsFireable allowed n = (d : ℕ) × IsTrue (allowed d n)

-- a node of a rule that may fire, whose condition didn't fail because firings would nest too deep
abbrev pub IsNodeAllowed : (ℕ → ℕ → Bool) → Node → Type 0
IsNodeAllowed allowed sub_node = ⊤
IsNodeAllowed allowed (fire_node rule place condition) = FaultsOnlyBy NotTooDeep condition × IsFireable allowed rule
IsNodeAllowed allowed (act_node rule place) = IsFireable allowed rule

-- a fact about a rank, a state and a course from it that the pieces of every course keep, if its tasks may fire
pub record KeptBy (library : Library) (allowed : ℕ → ℕ → Bool) (limit : ℕ) (P : ℕ → State → Course → Type 0) : Type 0 where
  pub at_end : (n : ℕ) (S : State) (e : End) → IsPlainEnd e → P n S (ends e S)
  pub at_limit : (n : ℕ) (S : State) (t : Task) → limit < t.depth → IsAllowed library allowed t → P n S (ends (abort_by depth_exceeded) S)
  pub at_join : (n : ℕ) (S : State) (c d : Course) → P n S c → P n c.state d → P n S (joined_course c d)
  pub at_emission : (n : ℕ) (S : State) (v : Value) → P n S (with_items (emission v no_items) S)
  pub at_operation : (n : ℕ) (S : State) (op : Operation) → P n S (with_items (operation op no_items) (with_objects S (apply op S.objects)))
  pub at_rule : (n : ℕ) (S : State) (op : RuleOperation) (m : ℕ) (r : RuleState) → P n S (with_items (operation (rule_op op m) no_items) (with_rule S m r))
  pub at_signal : (n : ℕ) (S : State) (p : Primitive) (c : Course) → P n (extended p S) c → P n S c
  pub at_tasks : (n : ℕ) (S : State) (ts : List Task) → AllByRecursion (IsNew limit (IsAllowed library allowed) n) ts → P n S (placed ts S)
  pub at_node : (n : ℕ) (S : State) (c : Course) (what : Node) (e : End) → IsNodeAllowed allowed what → IsPlainEnd e → P n S c → P n S (nested what (closed_course S c) e)
  pub at_drain : (n : ℕ) (S : State) (c : Course) → P n S c → P n S (drained c)
  pub at_ending : (n : ℕ) (S : State) (c : Course) (e : End) → IsPlainEnd e → P n S c → P n S (ending_with e c)
  pub at_lower : (m n : ℕ) (S : State) (c : Course) → m ≤ n → P n S c → P m S c

-- a level of the library
abbrev pub level_of : Library → (now depth : ℕ) → Option Fire → Level
level_of library now d below = record { library = library; depth = d; now = now; below = below }

-- what a firing of a rule triggers may fire one deeper: by its action, and by the commit event of its own transaction
pub rule_passes : (library : Library) (allowed : ℕ → ℕ → Bool) → Guard library allowed → (d n : ℕ) → IsTrue (allowed d n)
    → Passes allowed (suc d) (body_triggers library (rule_at library n).action) × (may_detach (rule_at library n) ≡ true → Passes allowed (suc d) (signal_triggers library commit_reached))
rule_passes library allowed guard d n ok =
    let both = both_pass (allowed (suc d)) (body_triggers library (rule_at library n).action) (if may_detach (rule_at library n) then signal_triggers library commit_reached else [])
    (guard.follows d n ok) in
    (both.0, λ is. subst (λ b. Passes allowed (suc d) (if b then signal_triggers library commit_reached else [])) is both.1)

module _ (library : Library) (allowed : ℕ → ℕ → Bool) where
  -- a new task at exactly this depth
  abbrev pub IsNewAt : (d n : ℕ) → Task → Type 0
  IsNewAt d n t = ((n < rank t) × (t.depth ≡ d)) × IsAllowed library allowed t

  pub passes_alike : (d : ℕ) (p q : Primitive) → Alike p q → Passes allowed d (signal_triggers library p) → Passes allowed d (signal_triggers library q)
  passes_alike d p q same h = subst (Passes allowed d) (triggers_alike p q same 0 library.rules) h

  module _ (guard : Guard library allowed) (now d : ℕ) (below : Option Fire) where
    abbrev Fresh : List Task → Type 0
    Fresh ts = AllByRecursion (IsNewAt (suc d) (body_rank d)) ts

    may : (rule actual : Rule) → actual ≡ rule → is_detached rule.event_coupling ≡ true → may_detach actual ≡ true
    may rule actual same e = ap (λ (r : Rule). is_detached r.event_coupling || is_detached r.action_coupling) same ∙ ap (λ b. b || is_detached rule.action_coupling) e

    pub one_new : (n : ℕ) (rule : Rule) (o : Occurrence) → rule_at library n ≡ rule → IsTrue (allowed (suc d) n) → IsNewAt (suc d) (body_rank d) (triggered_by (level_of library now d below) n rule o)
    one_new n rule o same h = ((omega arith, refl), (h, λ e. (rule_passes library allowed guard (suc d) n h).1 (may rule (rule_at library n) same e)))

    found : (n : ℕ) (rule : Rule) (o : Option Occurrence) (ts : List Task) → rule_at library n ≡ rule → IsTrue (allowed (suc d) n) → Fresh ts
        → Fresh (cons_option (option_map (triggered_by (level_of library now d below) n rule) o) ts)
    found n rule None ts same h k = k
    found n rule (Some o) ts same h k = (one_new n rule o same h, k)

    -- with the rest of the list, whether the rule's event is completed or not
    completed : (n : ℕ) (rule : Rule) (p : Primitive) (past : History) (ts : List Task) (rest : List ℕ) (b : Bool) → completes rule.event p ≡ b → rule_at library n ≡ rule
        → Passes allowed (suc d) (if b then n ∷ rest else rest) → Fresh ts
        → Fresh (cons_option (option_map (triggered_by (level_of library now d below) n rule) (occurrence_of rule.event (p ∷ past))) ts)
    completed n rule p past ts rest true is same h k =
        found n rule (occurrence_of rule.event (p ∷ past)) ts same (and_parts (allowed (suc d) n) (list_all (allowed (suc d)) rest) h).0 k
    completed n rule p past ts rest false is same h k =
        subst (λ o. Fresh (cons_option (option_map (triggered_by (level_of library now d below) n rule) o) ts)) (sym (incomplete rule.event p past is)) k

    by_status : (n : ℕ) (rule : Rule) (p : Primitive) (status : Status) (past : History) (ts : List Task) (rest : List ℕ) → rule_at library n ≡ rule
        → Passes allowed (suc d) (if completes rule.event p then n ∷ rest else rest) → Fresh ts
        → Fresh (cons_option (task_if (extended_rule p (record { status = status; past = past })).status (level_of library now d below) n rule
        (extended_rule p (record { status = status; past = past })).past) ts)
    by_status n rule p absent past ts rest same h k = k
    by_status n rule p enabled past ts rest same h k = completed n rule p past ts rest (completes rule.event p) refl same h k
    by_status n rule p disabled past ts rest same h k = k

    rest_passes : (b : Bool) (n : ℕ) (rest : List ℕ) → Passes allowed (suc d) (if b then n ∷ rest else rest) → Passes allowed (suc d) rest
    rest_passes true n rest h = (and_parts (allowed (suc d) n) (list_all (allowed (suc d)) rest) h).1
    rest_passes false n rest h = h

    triggered_new : (n : ℕ) (p : Primitive) (rules : List Rule) (rs : List RuleState) → ((k m : ℕ) → k < length rules → m ≡ n + k → rule_at library m ≡ slice_index_or rules k no_rule)
        → Passes allowed (suc d) (triggers_from n rules p) → Fresh (filter_map (λ t. t) (triggered_from (level_of library now d below) n rules (map (extended_rule p) rs)))
    triggered_new n p [] rs at h = tt
    triggered_new n p (rule ∷ rules) [] at h = tt
    triggered_new n p (rule ∷ rules) (r ∷ rs) at h =
        by_status n rule p r.status r.past (filter_map (λ t. t) (triggered_from (level_of library now d below) (suc n) rules (map (extended_rule p) rs))) (triggers_from (suc n) rules p)
        (at 0 n (omega arith) (omega arith)) h
        (triggered_new (suc n) p rules rs (λ k m low is. at (suc k) m (omega arith) (omega arith)) (rest_passes (completes rule.event p) n (triggers_from (suc n) rules p) h))

    pub signal_new : (p : Primitive) (S : State) → Passes allowed (suc d) (signal_triggers library p) → Fresh (triggered (level_of library now d below) (extended p S))
    signal_new p S h = triggered_new 0 p library.rules S.rules (λ k m low is. let e : m ≡ k = omega arith in ap (rule_at library) e) h

-- ---- what is kept

module _ (library : Library) (allowed : ℕ → ℕ → Bool) (guard : Guard library allowed) (limit : ℕ) (P : ℕ → State → Course → Type 0) (kept : KeptBy library allowed limit P) where
  -- firings of allowed tasks of such depths keep the fact
  abbrev pub FiresKept : (ℕ → Type 0) → Fire → Type 0
  FiresKept At f = (S : State) (t : Task) → At t.depth → IsAllowed library allowed t → P (rank t) S (firing_course (f S t))

  -- how tasks of this depth fire; there is no way only beyond the limit
  abbrev pub BelowKept : ℕ → Option Fire → Type 0
  BelowKept d None = limit < d
  BelowKept d (Some f) = (d ≤ limit) × FiresKept (λ e. e ≡ d) f

  abbrev pub IsNewOf : (ℕ → Type 0) → ℕ → Task → Type 0
  IsNewOf At n t = ((n < rank t) × At t.depth) × IsAllowed library allowed t

  after_end_kept : (n : ℕ) (e : End) (S : State) (c : Course) (next : Work) → P n S c → ((S' : State) → P n S' (next S')) → P n S (after_end e c next)
  after_end_kept n done S c next h k = kept.at_join n S c (next c.state) h (k c.state)
  after_end_kept n (abort_by x) S c next h k = h
  after_end_kept n (veto_by r) S c next h k = h

  pub then_do_kept : (n : ℕ) (S : State) (c : Course) (next : Work) → P n S c → ((S' : State) → P n S' (next S')) → P n S (then_do c next)
  then_do_kept n S c next h k = after_end_kept n c.end S c next h k

  with_value_kept : {A : Type 0} (n : ℕ) (r : Outcome A) (next : A → Work) (S : State) → Plain r → ((v : A) → P n S (next v S)) → P n S (with_value r next S)
  with_value_kept n (Err c) next S plain k = kept.at_end n S (abort_by c) (plain.fact c refl)
  with_value_kept n (Ok v) next S plain k = k v

  for_each_kept : {A : Type 0} (n : ℕ) (xs : List A) (work : A → Work) (S : State) → ((x : A) (S' : State) → P n S' (work x S')) → P n S (for_each xs work S)
  for_each_kept n [] work S k = kept.at_end n S done tt
  for_each_kept n (x ∷ xs) work S k = then_do_kept n S (work x S) (for_each xs work) (k x S) (λ S'. for_each_kept n xs work S' k)

  after_firing_kept : (n : ℕ) (stops : Bool) (v : Option Veto) (f : Firing) (rest : State → Siblings) (S : State) → P n S (firing_course f)
      → ((S' : State) → P n S' (course_of (rest S'))) → P n S (course_of (after_firing stops v f rest))
  after_firing_kept n true (Some r) f rest S h k = kept.at_join n S (firing_course f) (ends (abort_by (vetoed r)) f.state) h (kept.at_end n f.state (abort_by (vetoed r)) tt)
  after_firing_kept n true None f rest S h k = kept.at_join n S (firing_course f) (course_of (rest f.state)) h (k f.state)
  after_firing_kept n false v f rest S h k = kept.at_join n S (firing_course f) (course_of (rest f.state)) h (k f.state)

  pub siblings_kept : (n : ℕ) (f : Fire) (stops : Bool) (ts : List Task) (S : State) (At : ℕ → Type 0) → FiresKept At f → AllByRecursion (IsNewOf At n) ts
      → P (suc n) S (course_of (siblings f stops ts S))
  siblings_kept n f stops [] S At h new = kept.at_end (suc n) S done tt
  siblings_kept n f stops (t ∷ ts) S At h new =
      after_firing_kept (suc n) stops (f S t).vetoed_by (f S t) (siblings f stops ts) S (kept.at_lower (suc n) (rank t) S (firing_course (f S t)) new.0.0.0 (h S t new.0.0.1 new.0.1))
      (λ S'. siblings_kept n f stops ts S' At h new.1)

  start_kept : (n : ℕ) (below : Option Fire) (ts : List Task) (S : State) (d : ℕ) → BelowKept d below → AllByRecursion (IsNewAt library allowed d n) ts → P n S (start below ts S)
  start_kept n below [] S d h new = kept.at_end n S done tt
  start_kept n None (t ∷ ts) S d h new = let deep : t.depth ≡ d = new.0.0.1 in kept.at_limit n S t (omega (arith, h, deep)) new.0.1
  start_kept n (Some f) (t ∷ ts) S d h new =
      let low : d ≤ limit = h.0 in
      then_do_kept n S (placed (t ∷ ts) S) (λ S'. course_of (siblings f true (filter (λ (u : Task). is_immediate u.place) (t ∷ ts)) S'))
      (kept.at_tasks n S (t ∷ ts) (every_to (IsNewAt library allowed d n) (IsNew limit (IsAllowed library allowed) n) (t ∷ ts) (λ u k. let at : u.depth ≡ d =
      k.0.1 in ((k.0.0, omega (arith, low, at)), k.1)) new))
      (λ S'. kept.at_lower n (suc n) S' (course_of (siblings f true (filter (λ (u : Task). is_immediate u.place) (t ∷ ts)) S')) (omega arith)
      (siblings_kept n f true (filter (λ (u : Task). is_immediate u.place) (t ∷ ts)) S' (λ e. e ≡ d) h.1
      (every_filter (IsNewAt library allowed d n) (λ (u : Task). is_immediate u.place) (t ∷ ts) new)))

  module _ (now d : ℕ) (below : Option Fire) (fires : BelowKept (suc d) below) where
    abbrev level : Level
    level = level_of library now d below

    abbrev n : ℕ
    n = body_rank d

    pub signal_kept : (p : Primitive) (S : State) → Passes allowed (suc d) (signal_triggers library p) → P n S (signal_in level p S)
    signal_kept p S ok =
        kept.at_signal n S p (signal_in level p S)
        (start_kept n below (triggered level (extended p S)) (extended p S) (suc d) fires (signal_new library allowed guard now d below p S ok))

    -- ---- statements

    operated_kept : (op : Operation) (p : Primitive) (S : State) → Passes allowed (suc d) (signal_triggers library p) → P n S (operated level op p (apply op S.objects) S)
    operated_kept op p S ok =
        then_do_kept n S (with_items (operation op no_items) (with_objects S (apply op S.objects))) (signal_in level p) (kept.at_operation n S op) (λ S'. signal_kept p S' ok)

    created_kept : (class : ℕ) (key : ℤ) (new : Row) (old : Option Row) (S : State) → Passes allowed (suc d) (signal_triggers library (created class (pos 0) []))
        → P n S (created_if_absent level class key new old S)
    created_kept class key new (Some old) S ok = kept.at_end n S (abort_by exists) tt
    created_kept class key new None S ok =
        operated_kept (create_op class key new) (created class key new) S (passes_alike library allowed (suc d) (created class (pos 0) []) (created class key new) (created_alike class key new) ok)

    updated_kept : (class : ℕ) (key : ℤ) (given : Row) (old : Option Row) (S : State) → Passes allowed (suc d) (signal_triggers library (updated class (pos 0) [] []))
        → P n S (updated_if_present level class key given old S)
    updated_kept class key given None S ok = kept.at_end n S (abort_by missing) tt
    updated_kept class key given (Some old) S ok =
        operated_kept (update_op class key (changed_row given old)) (updated class key old (changed_row given old)) S
        (passes_alike library allowed (suc d) (updated class (pos 0) [] []) (updated class key old (changed_row given old)) (updated_alike class key old (changed_row given old)) ok)

    deleted_kept : (class : ℕ) (key : ℤ) (old : Option Row) (S : State) → Passes allowed (suc d) (signal_triggers library (deleted class (pos 0) [])) → P n S (deleted_if_present level class key old S)
    deleted_kept class key None S ok = kept.at_end n S (abort_by missing) tt
    deleted_kept class key (Some old) S ok =
        operated_kept (delete_op class key) (deleted class key old) S (passes_alike library allowed (suc d) (deleted class (pos 0) []) (deleted class key old) (deleted_alike class key old) ok)

    vetoes_kept : (r : Option ℕ) (message : Option Value) (S : State) → P n S (vetoes r message S)
    vetoes_kept None message S = kept.at_end n S done tt
    vetoes_kept (Some r) message S = kept.at_end n S (veto_by (record { rule = r; message = message })) tt

    choose_kept : (b : Bool) (f g : Work) (S : State) → P n S (f S) → P n S (g S) → P n S (choose b f g S)
    choose_kept true f g S h k = h
    choose_kept false f g S h k = k

    sub_kept : (e : End) (S : State) (c : Course) (otherwise : Work) → P n S c → ((S' : State) → P n S' (otherwise S')) → P n S (sub_by e (closed_course S c) otherwise)
    sub_kept done S c otherwise h k = kept.at_node n S c sub_node done tt tt h
    sub_kept (abort_by x) S c otherwise h k = then_do_kept n S (nested sub_node (closed_course S c) done) otherwise (kept.at_node n S c sub_node done tt tt h) k
    sub_kept (veto_by r) S c otherwise h k = kept.at_node n S c sub_node (veto_by r) tt tt h

    start_fired_kept : (status : Status) (m : ℕ) (S : State) → IsTrue (allowed (suc d) m) → P n S (start_fired status level m S)
    start_fired_kept absent m S ok = kept.at_end n S (abort_by missing) tt
    start_fired_kept enabled m S ok = start_kept n below (fired_task level m ∷ []) S (suc d) fires (one_new library allowed guard now d below m (rule_at library m) no_occurrence refl ok, tt)
    start_fired_kept disabled m S ok = start_kept n below (fired_task level m ∷ []) S (suc d) fires (one_new library allowed guard now d below m (rule_at library m) no_occurrence refl ok, tt)

    mutual
      pub statement_kept : (s : Statement) (context : Context) (S : State) → Passes allowed (suc d) (statement_triggers library s) → P n S (run_statement s level context S)
      statement_kept (create class key assignments) context S ok =
          with_value_kept n (keyed_row context.environment key assignments (made_row (class_at library class).fields))
          (λ r. created_if_absent level class r.key r.row (find_object S.objects class r.key)) S
          (keyed_plain context.environment key assignments (made_row (class_at library class).fields) (λ given. made_plain (class_at library class).fields given))
          (λ r. created_kept class r.key r.row (find_object S.objects class r.key) S ok)
      statement_kept (update class key assignments) context S ok =
          with_value_kept n (keyed_row context.environment key assignments (checked_kinds (class_at library class).fields))
          (λ r. updated_if_present level class r.key r.row (find_object S.objects class r.key)) S
          (keyed_plain context.environment key assignments (checked_kinds (class_at library class).fields) (λ given. checked_plain (class_at library class).fields given))
          (λ r. updated_kept class r.key r.row (find_object S.objects class r.key) S ok)
      statement_kept (delete class key) context S ok =
          with_value_kept n (integer_value context.environment key) (λ k. deleted_if_present level class k (find_object S.objects class k)) S (integer_value_plain context.environment key)
          (λ k. deleted_kept class k (find_object S.objects class k) S ok)
      statement_kept (signal name arguments) context S ok =
          with_value_kept n (values_of context.environment arguments) (λ vs. signal_in level (signalled name vs)) S (values_plain context.environment arguments)
          (λ vs. signal_kept (signalled name vs) S (passes_alike library allowed (suc d) (signalled name []) (signalled name vs) (signalled_alike name vs) ok))
      statement_kept (emit e) context S ok =
          with_value_kept n (value_of context.environment e) (λ v. with_items (emission v no_items)) S (value_plain context.environment e) (λ v. kept.at_emission n S v)
      statement_kept (when e then_body else_body) context S ok =
          let parts = both_pass (allowed (suc d)) (body_triggers library then_body) (body_triggers library else_body) ok in
          with_value_kept n (boolean_value context.environment e) (λ b. choose b (run_body then_body level context) (run_body else_body level context)) S (boolean_value_plain context.environment e)
          (λ b. choose_kept b (run_body then_body level context) (run_body else_body level context) S (body_kept then_body context S parts.0) (body_kept else_body context S parts.1))
      statement_kept (each x class predicate body) context S ok =
          with_value_kept n (answer context.environment x class predicate S.objects) (λ rows. for_each rows (λ r. run_body body level (with_row x r context)))
          S (answer_plain context.environment x class predicate S.objects)
          (λ rows. for_each_kept n rows (λ r. run_body body level (with_row x r context)) S (λ r S'. body_kept body (with_row x r context) S' ok))
      statement_kept (for_answer x body) context S ok =
          for_each_kept n (answer_named context.answers x) (λ r. run_body body level (with_row x r context)) S (λ r S'. body_kept body (with_row x r context) S' ok)
      statement_kept (with_object x class key body) context S ok =
          with_value_kept n (named_object S.objects context.environment class key) (λ r. run_body body level (with_row x r context)) S (object_plain S.objects context.environment class key)
          (λ r. body_kept body (with_row x r context) S ok)
      statement_kept (subtransaction body otherwise) context S ok =
          let parts = both_pass (allowed (suc d)) (body_triggers library body) (body_triggers library otherwise) ok in
          sub_kept (run_body body level context S).end S (run_body body level context S) (run_body otherwise level context)
          (body_kept body context S parts.0) (λ S'. body_kept otherwise context S' parts.1)
      statement_kept abort context S ok = kept.at_end n S (abort_by requested) tt
      statement_kept (let_value x a body) context S ok =
          with_value_kept n (let_of S.objects context.environment a) (λ v. run_body body level (with_let x v context)) S (let_plain S.objects context.environment a)
          (λ v. body_kept body (with_let x v context) S ok)
      statement_kept veto context S ok = vetoes_kept context.rule None S
      statement_kept (veto_with e) context S ok =
          with_value_kept n (value_of context.environment e) (λ v. vetoes context.rule (Some v)) S (value_plain context.environment e) (λ v. vetoes_kept context.rule (Some v) S)
      statement_kept (on_rule op m) context S ok =
          with_value_kept n (operated_rule op (rule_state S m)) (λ r S'. with_items (operation (rule_op op m) no_items) (with_rule S' m r)) S
          (operated_plain op (rule_state S m)) (λ r. kept.at_rule n S op m r)
      statement_kept (fire m) context S ok = start_fired_kept (rule_state S m).status m S (and_parts (allowed (suc d) m) true ok).0

      pub body_kept : (b : Body) (context : Context) (S : State) → Passes allowed (suc d) (body_triggers library b) → P n S (run_body b level context S)
      body_kept empty context S ok = kept.at_end n S done tt
      body_kept (s then rest) context S ok =
          let parts = both_pass (allowed (suc d)) (statement_triggers library s) (body_triggers library rest) ok in
          then_do_kept n S (run_statement s level context S) (run_body rest level context) (statement_kept s context S parts.0) (λ S'. body_kept rest context S' parts.1)

  -- ---- firings

  module _ (t : Task) (ok : IsAllowed library allowed t) (within : t.depth ≤ limit) (below : Option Fire) (fires : BelowKept (suc t.depth) below) where
    abbrev here : Level
    here = level_of library t.now t.depth below

    action_kept : (what : Node) → IsNodeAllowed allowed what → (found : Findings) (S : State) → P (body_rank t.depth) S (firing_course (run_action what here t found S))
    action_kept what shallow found S =
        kept.at_node (body_rank t.depth) S (action_course here t found S) what done shallow tt
        (body_kept t.now t.depth below fires (rule_at library t.rule).action (action_context t found) S (rule_passes library allowed guard t.depth t.rule ok.0).0)

    either_detaches : (b : Bool) (place : Coupling) → is_detached place ≡ true → (b || is_detached place) ≡ true
    either_detaches true place e = refl
    either_detaches false place e = e

    deferring_kept : (place : Coupling) → place ≡ (rule_at library t.rule).action_coupling → (found : Findings) (S : State)
        → P (2 * t.depth) S (firing_course (deferring (fire_node t.rule t.place with_later_action) (placed (action_task place t found ∷ []) S)))
    deferring_kept place same found S =
        kept.at_node (2 * t.depth) S (placed (action_task place t found ∷ []) S) (fire_node t.rule t.place with_later_action) done (tt, (t.depth, ok.0)) tt
        (kept.at_tasks (2 * t.depth) S (action_task place t found ∷ []) (
          (
            (omega arith, within),
            (
              ok.0,
              λ e. (rule_passes library allowed guard t.depth t.rule ok.0).1
                  (subst (λ c. (is_detached (rule_at library t.rule).event_coupling || is_detached c) ≡ true) same (either_detaches (is_detached (rule_at library t.rule).event_coupling) place e)),
            ),
          ),
          tt,
        ))

    follow_kept : (place : Coupling) → place ≡ (rule_at library t.rule).action_coupling → (found : Findings) (S : State) → P (2 * t.depth) S (firing_course (follow place here t found S))
    follow_kept immediate same found S =
        kept.at_lower (2 * t.depth) (body_rank t.depth) S (firing_course (run_action (fire_node t.rule t.place with_action) here t found S)) (omega arith)
        (action_kept (fire_node t.rule t.place with_action) (tt, (t.depth, ok.0)) found S)
    follow_kept deferred same found S = deferring_kept deferred same found S
    follow_kept separate same found S = deferring_kept separate same found S
    follow_kept dependent same found S = deferring_kept dependent same found S
    follow_kept exclusive same found S = deferring_kept exclusive same found S

    inert_kept : (what : Node) → IsNodeAllowed allowed what → (v : Option Veto) (S : State) → P (2 * t.depth) S (firing_course (inert what v S))
    inert_kept what shallow v S = kept.at_node (2 * t.depth) S (ends done S) what done shallow tt (kept.at_end (2 * t.depth) S done tt)

    decide_kept : (v : Verdict) → IsPlainVerdict v → (S : State) → P (2 * t.depth) S (firing_course (decide v here t S))
    decide_kept (satisfied found) plain S = follow_kept (rule_at library t.rule).action_coupling refl found S
    decide_kept unsatisfied plain S = inert_kept (fire_node t.rule t.place without_action) (tt, (t.depth, ok.0)) None S
    decide_kept (faulty c) plain S = inert_kept (fire_node t.rule t.place (with_fault c)) (plain, (t.depth, ok.0)) (fault_veto (rule_at library t.rule).closed t.rule) S

    pub step_kept : (s : Step) (S : State) → P (2 * t.depth + step_rank s) S (firing_course (take_step s here t S))
    step_kept condition_step S =
        kept.at_lower (2 * t.depth + 0) (2 * t.depth) S _ (omega arith)
        (decide_kept (verdict S.objects (task_environment t) (rule_at library t.rule).condition) (verdict_plain S.objects (task_environment t) (rule_at library t.rule).condition) S)
    step_kept (action_step found) S = action_kept (act_node t.rule t.place) (t.depth, ok.0) found S

  -- at a depth with exactly this number of further depths below it
  pub below_kept : (m depth : ℕ) → depth + m ≡ limit → BelowKept (suc depth) (below_limit library m)
  below_kept zero depth e = omega (arith, e)
  below_kept (suc m) depth e =
      (omega (arith, e), λ S t deep ok. step_kept t ok (omega (arith, e, deep)) (below_limit library m) (below_kept m t.depth (omega (arith, e, deep))) t.step S)

  pub level_kept : (depth : ℕ) → library.depth_limit ≡ limit → depth ≤ limit → BelowKept (suc depth) (below_limit library (library.depth_limit - depth))
  level_kept depth e low = below_kept (library.depth_limit - depth) depth (omega (arith, e, low))

  pub fire_kept : library.depth_limit ≡ limit → FiresKept (λ d. d ≤ limit) (fire_task library)
  fire_kept e S t low ok = step_kept t ok low (below_limit library (library.depth_limit - t.depth)) (level_kept t.depth e low) t.step S
