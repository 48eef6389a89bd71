-- Where each chain of firings is short enough for two depth limits, all runs are the same under both.
use Rattle.std.proofs.Common.{arith, ◌≡◌, refl, sym, ap, ◌∙◌, ℕ, zero, suc, ◌+◌, ◌*◌, ◌-◌, ◌<◌, ◌≤◌, ℤ, pos, List, [], ◌∷◌, Option, None, Some, Bool, true, IsTrue}
use Rattle.std.proofs.lemmas.Bool.{and_parts}
use Rattle.std.specs.Prelude.{filter, filter_map}
use Rattle.std.specs.List.{AllByRecursion, list_all}
use Rattle.hp_model.specs.Values.{Outcome, Row}
use Rattle.hp_model.specs.Occurrences.{Primitive, created, updated, deleted, signalled, commit_reached, moment_reached, no_occurrence}
use Rattle.hp_model.specs.Conditions.{Findings, Verdict, satisfied, unsatisfied, faulty, answer, let_of, verdict}
use Rattle.hp_model.specs.Rules.{Coupling, immediate, deferred, separate, dependent, exclusive, is_immediate, is_detached, Statement, create, update, delete, signal, emit, when}
use Rattle.hp_model.specs.Rules.{each, for_answer, with_object, subtransaction, let_value, abort, veto, veto_with, on_rule, fire, Body, empty, ◌then◌, Library, Rule, class_at}
use Rattle.hp_model.specs.Rules.{rule_at}
use Rattle.hp_model.specs.State.{State, Objects, write_object, remove_object, with_objects, RuleState, extended, find_object, rule_state, Status, absent, enabled, disabled, initial_state}
use Rattle.hp_model.specs.Tree.{Task, Step, condition_step, action_step, Node, Operation, create_op, update_op, delete_op, no_items, operation, fire_node, act_node, with_action}
use Rattle.hp_model.specs.Transactions.{End, done, abort_by, veto_by, Course, Work, then_do, with_value, for_each, with_items, placed, closed, joined, drained}
use Rattle.hp_model.specs.Firing.{Firing, Fire, after_firing, siblings, course_of, Level, start, triggered, signal_in, Context, with_row, with_let, created_if_absent}
use Rattle.hp_model.specs.Firing.{updated_if_present, deleted_if_present, operated, sub_in, choose, run_statement, run_body, run_action, follow, decide, take_step, below_limit}
use Rattle.hp_model.specs.Firing.{fire_task, level_at, changed_row, made_row, checked_kinds, keyed_row, integer_value, boolean_value, values_of, answer_named, named_object}
use Rattle.hp_model.specs.Firing.{start_fired, fired_task, task_if, triggered_from, firing_with, action_veto, action_context, task_environment}
use Rattle.hp_model.specs.Cascade.{Unit, now_in, transaction, moment, no_context, unit_work, task_work, most_rounds, next_round, rounds, top_course, top, veto_end, Generation}
use Rattle.hp_model.specs.Cascade.{alone, followed_by, generation, due, Cascade, before_cascade, cascade, run_unit, run_units, unit_report, Evaluation}
use Rattle.hp_model.specs.Chains.{signal_triggers, statement_triggers, body_triggers, unit_triggers, unit_within, with_limit, LimitIsIdle}
use Rattle.hp_model.proofs.Guarded.{rank, body_rank}
use Rattle.hp_model.proofs.Guarded.{every_filter, both_pass, Guard, IsAllowed, IsNewAt, Passes, passes_alike, created_alike, updated_alike, deleted_alike, signalled_alike}
use Rattle.hp_model.proofs.Guarded.{rule_passes, signal_new, one_new, siblings_kept, fire_kept, level_of}
use Rattle.hp_model.proofs.GuardedTops.{generation_leaves, unit_leaves, rank_small, AreNew, Leaves, leaving, AreDue, due_new, unit_kept, task_kept, work_kept, unit_commit}
use Rattle.hp_model.proofs.Shallow.{may_fire, guarding, depth_bound, rank_bound, unit_passes}

-- works that do the same
abbrev Same : Work → Work → Type 0
Same f g = (S : State) → f S ≡ g S

with_value_same : {A : Type 0} (r : Outcome A) (f g : A → Work) → ((v : A) → Same (f v) (g v)) → Same (with_value r f) (with_value r g)
with_value_same r f g h S = λ i. with_value r (λ v S'. h v S' i) S

for_each_same : {A : Type 0} (xs : List A) (f g : A → Work) → ((x : A) → Same (f x) (g x)) → Same (for_each xs f) (for_each xs g)
for_each_same xs f g h S = λ i. for_each xs (λ x S'. h x S' i) S

then_do_same : (c d : Course) (f g : Work) → c ≡ d → Same f g → then_do c f ≡ then_do d g
then_do_same c d f g e h = λ i. then_do (e i) (λ S. h S i)

-- two limits, each at least the longest chain
module _ (library : Library) (other_limit most : ℕ) (few : most ≤ library.depth_limit) (few_other : most ≤ other_limit) where
  abbrev other : Library
  other = with_limit library other_limit

  abbrev allowed : ℕ → ℕ → Bool
  allowed = may_fire library most

  abbrev May : Task → Type 0
  May = IsAllowed library allowed

  abbrev guard : Guard library allowed
  guard = guarding library most

  abbrev limit : ℕ
  limit = library.depth_limit

  -- allowed tasks fire the same, one after another
  abbrev FiresSame : (ℕ → Type 0) → Fire → Fire → Type 0
  FiresSame At f g = (S : State) (t : Task) → At t.depth → May t → f S t ≡ g S t

  abbrev AreAt : (ℕ → Type 0) → List Task → Type 0
  AreAt At ts = AllByRecursion (λ (t : Task). At t.depth × May t) ts

  siblings_same : (At : ℕ → Type 0) (f g : Fire) → FiresSame At f g → (stops : Bool) (ts : List Task) (S : State) → AreAt At ts → siblings f stops ts S ≡ siblings g stops ts S
  siblings_same At f g h stops [] S may = refl
  siblings_same At f g h stops (t ∷ ts) S may = λ i.
      after_firing stops (h S t may.0.0 may.0.1 i).vetoed_by (h S t may.0.0 may.0.1 i) (λ S'. siblings_same At f g h stops ts S' may.1 i)

  -- tasks of this depth start the same
  abbrev StartsSame : ℕ → Option Fire → Option Fire → Type 0
  StartsSame d below below' = (ts : List Task) (S : State) → AreAt (λ e. e ≡ d) ts → start below ts S ≡ start below' ts S

  start_same : (d : ℕ) (f g : Fire) → FiresSame (λ e. e ≡ d) f g → StartsSame d (Some f) (Some g)
  start_same d f g h [] S may = refl
  start_same d f g h (t ∷ ts) S may = λ i.
      then_do (placed (t ∷ ts) S) (λ S'. course_of (siblings_same (λ e. e ≡ d) f g h true (filter (λ (u : Task). is_immediate u.place) (t ∷ ts)) S'
      (every_filter (λ (u : Task). (u.depth ≡ d) × May u) (λ (u : Task). is_immediate u.place) (t ∷ ts) may) i))

  -- beyond the longest chain nothing starts
  none_start : (d : ℕ) (below below' : Option Fire) → most < d → StartsSame d below below'
  none_start d below below' high [] S may = refl
  none_start d below below' high (t ∷ ts) S may =
      let low = depth_bound library most t may.0.1 in let at : t.depth ≡ d = may.0.0 in absurd (omega (arith, low, at, high))

  module _ (now d : ℕ) (below below' : Option Fire) (starts : StartsSame (suc d) below below') where
    abbrev level : Level
    level = level_of library now d below

    abbrev level' : Level
    level' = level_of other now d below'

    task_same : (status : Status) (n : ℕ) (rule : Rule) (r : RuleState) → task_if status level n rule r.past ≡ task_if status level' n rule r.past
    task_same absent n rule r = refl
    task_same enabled n rule r = refl
    task_same disabled n rule r = refl

    triggered_same : (n : ℕ) (rules : List Rule) (rs : List RuleState) → triggered_from level n rules rs ≡ triggered_from level' n rules rs
    triggered_same n [] rs = refl
    triggered_same n (rule ∷ rules) [] = refl
    triggered_same n (rule ∷ rules) (r ∷ rs) = λ i. task_same r.status n rule r i ∷ triggered_same (suc n) rules rs i

    at_depth : (ts : List Task) → AllByRecursion (IsNewAt library allowed (suc d) (body_rank d)) ts → AreAt (λ e. e ≡ suc d) ts
    at_depth [] h = tt
    at_depth (t ∷ ts) h = ((h.0.0.1, h.0.1), at_depth ts h.1)

    signal_same : (p : Primitive) → Passes allowed (suc d) (signal_triggers library p) → Same (signal_in level p) (signal_in level' p)
    signal_same p ok S =
        starts (triggered level (extended p S)) (extended p S) (at_depth (triggered level (extended p S)) (signal_new library allowed guard now d below p S ok))
        ∙ (λ i. start below' (filter_map (λ t. t) (triggered_same 0 library.rules (extended p S).rules i)) (extended p S))

    operated_same : (op : Operation) (p : Primitive) (objects : Objects) → Passes allowed (suc d) (signal_triggers library p) → Same (operated level op p objects) (operated level' op p objects)
    operated_same op p objects ok S = λ i. then_do (with_items (operation op no_items) (with_objects S objects)) (λ S'. signal_same p ok S' i)

    created_same : (class : ℕ) (key : ℤ) (new : Row) (old : Option Row) → Passes allowed (suc d) (signal_triggers library (created class (pos 0) []))
        → Same (created_if_absent level class key new old) (created_if_absent level' class key new old)
    created_same class key new (Some old) ok S = refl
    created_same class key new None ok S =
        operated_same (create_op class key new) (created class key new) (write_object S.objects class key new)
        (passes_alike library allowed (suc d) (created class (pos 0) []) (created class key new) (created_alike class key new) ok) S

    updated_same : (class : ℕ) (key : ℤ) (given : Row) (old : Option Row) → Passes allowed (suc d) (signal_triggers library (updated class (pos 0) [] []))
        → Same (updated_if_present level class key given old) (updated_if_present level' class key given old)
    updated_same class key given None ok S = refl
    updated_same class key given (Some old) ok S =
        operated_same (update_op class key (changed_row given old)) (updated class key old (changed_row given old)) (write_object S.objects class key (changed_row given old))
        (passes_alike library allowed (suc d) (updated class (pos 0) [] []) (updated class key old (changed_row given old)) (updated_alike class key old (changed_row given old)) ok) S

    deleted_same : (class : ℕ) (key : ℤ) (old : Option Row) → Passes allowed (suc d) (signal_triggers library (deleted class (pos 0) []))
        → Same (deleted_if_present level class key old) (deleted_if_present level' class key old)
    deleted_same class key None ok S = refl
    deleted_same class key (Some old) ok S =
        operated_same (delete_op class key) (deleted class key old) (remove_object S.objects class key)
        (passes_alike library allowed (suc d) (deleted class (pos 0) []) (deleted class key old) (deleted_alike class key old) ok) S

    fired_same : (status : Status) (m : ℕ) → IsTrue (allowed (suc d) m) → Same (start_fired status level m) (start_fired status level' m)
    fired_same absent m ok S = refl
    fired_same enabled m ok S = starts (fired_task level m ∷ []) S (at_depth (fired_task level m ∷ []) (one_new library allowed guard now d below m (rule_at library m) no_occurrence refl ok, tt))
    fired_same disabled m ok S = starts (fired_task level m ∷ []) S (at_depth (fired_task level m ∷ []) (one_new library allowed guard now d below m (rule_at library m) no_occurrence refl ok, tt))

    mutual
      statement_same : (s : Statement) (context : Context) → Passes allowed (suc d) (statement_triggers library s) → Same (run_statement s level context) (run_statement s level' context)
      statement_same (create class key assignments) context ok S =
          with_value_same (keyed_row context.environment key assignments (made_row (class_at library class).fields))
          (λ r. created_if_absent level class r.key r.row (find_object S.objects class r.key))
          (λ r. created_if_absent level' class r.key r.row (find_object S.objects class r.key)) (λ r. created_same class r.key r.row (find_object S.objects class r.key) ok) S
      statement_same (update class key assignments) context ok S =
          with_value_same (keyed_row context.environment key assignments (checked_kinds (class_at library class).fields))
          (λ r. updated_if_present level class r.key r.row (find_object S.objects class r.key))
          (λ r. updated_if_present level' class r.key r.row (find_object S.objects class r.key)) (λ r. updated_same class r.key r.row (find_object S.objects class r.key) ok) S
      statement_same (delete class key) context ok S =
          with_value_same (integer_value context.environment key) (λ k. deleted_if_present level class k (find_object S.objects class k))
          (λ k. deleted_if_present level' class k (find_object S.objects class k))
          (λ k. deleted_same class k (find_object S.objects class k) ok) S
      statement_same (signal name arguments) context ok S =
          with_value_same (values_of context.environment arguments) (λ vs. signal_in level (signalled name vs)) (λ vs. signal_in level' (signalled name vs))
          (λ vs. signal_same (signalled name vs) (passes_alike library allowed (suc d) (signalled name []) (signalled name vs) (signalled_alike name vs) ok)) S
      statement_same (emit e) context ok S = refl
      statement_same (when e then_body else_body) context ok S =
          let parts = both_pass (allowed (suc d)) (body_triggers library then_body) (body_triggers library else_body) ok in λ i.
          with_value (boolean_value context.environment e) (λ b. choose b (λ S'. body_same then_body context parts.0 S' i) (λ S'. body_same else_body context parts.1 S' i)) S
      statement_same (each x class predicate body) context ok S = λ i.
          with_value (answer context.environment x class predicate S.objects) (λ rows. for_each rows (λ r S'. body_same body (with_row x r context) ok S' i)) S
      statement_same (for_answer x body) context ok S =
          for_each_same (answer_named context.answers x) (λ r. run_body body level (with_row x r context)) (λ r. run_body body level' (with_row x r context))
          (λ r. body_same body (with_row x r context) ok) S
      statement_same (with_object x class key body) context ok S =
          with_value_same (named_object S.objects context.environment class key) (λ r. run_body body level (with_row x r context)) (λ r. run_body body level' (with_row x r context))
          (λ r. body_same body (with_row x r context) ok) S
      statement_same (subtransaction body otherwise) context ok S =
          let parts = both_pass (allowed (suc d)) (body_triggers library body) (body_triggers library otherwise) ok in λ i.
          sub_in (λ S'. body_same body context parts.0 S' i) (λ S'. body_same otherwise context parts.1 S' i) S
      statement_same abort context ok S = refl
      statement_same (let_value x a body) context ok S =
          with_value_same (let_of S.objects context.environment a) (λ v. run_body body level (with_let x v context)) (λ v. run_body body level' (with_let x v context))
          (λ v. body_same body (with_let x v context) ok) S
      statement_same veto context ok S = refl
      statement_same (veto_with e) context ok S = refl
      statement_same (on_rule op m) context ok S = refl
      statement_same (fire m) context ok S = fired_same (rule_state S m).status m (and_parts (allowed (suc d) m) true ok).0 S

      body_same : (b : Body) (context : Context) → Passes allowed (suc d) (body_triggers library b) → Same (run_body b level context) (run_body b level' context)
      body_same empty context ok S = refl
      body_same (s then rest) context ok S =
          let parts = both_pass (allowed (suc d)) (statement_triggers library s) (body_triggers library rest) ok in
          then_do_same (run_statement s level context S) (run_statement s level' context S) (run_body rest level context) (run_body rest level' context)
          (statement_same s context parts.0 S) (body_same rest context parts.1)

  -- ---- firings

  module _ (t : Task) (ok : May t) (below below' : Option Fire) (starts : StartsSame (suc t.depth) below below') where
    abbrev here : Level
    here = level_of library t.now t.depth below

    abbrev here' : Level
    here' = level_of other t.now t.depth below'

    action_same : (what : Node) (found : Findings) (S : State) → run_action what here t found S ≡ run_action what here' t found S
    action_same what found S =
        ap (λ (c : Course). firing_with what (closed S c) (action_veto (rule_at library t.rule).closed t.rule c.end))
        (body_same t.now t.depth below below' starts (rule_at library t.rule).action (action_context t found) (rule_passes library allowed guard t.depth t.rule ok.0).0 S)

    follow_same : (place : Coupling) (found : Findings) (S : State) → follow place here t found S ≡ follow place here' t found S
    follow_same immediate found S = action_same (fire_node t.rule t.place with_action) found S
    follow_same deferred found S = refl
    follow_same separate found S = refl
    follow_same dependent found S = refl
    follow_same exclusive found S = refl

    decide_same : (v : Verdict) (S : State) → decide v here t S ≡ decide v here' t S
    decide_same (satisfied found) S = follow_same (rule_at library t.rule).action_coupling found S
    decide_same unsatisfied S = refl
    decide_same (faulty c) S = refl

    step_same : (s : Step) (S : State) → take_step s here t S ≡ take_step s here' t S
    step_same condition_step S = decide_same (verdict S.objects (task_environment t) (rule_at library t.rule).condition) S
    step_same (action_step found) S = action_same (act_node t.rule t.place) found S

  below_same : (m m' depth : ℕ) → depth + m ≡ limit → depth + m' ≡ other_limit → StartsSame (suc depth) (below_limit library m) (below_limit other m')
  below_same zero m' depth e e' = none_start (suc depth) (below_limit library zero) (below_limit other m') (omega (arith, e, few))
  below_same (suc m) zero depth e e' = none_start (suc depth) (below_limit library (suc m)) (below_limit other zero) (omega (arith, e', few_other))
  below_same (suc m) (suc m') depth e e' =
      start_same (suc depth) (λ S t. take_step t.step (level_of library t.now t.depth (below_limit library m)) t S) (λ S t. take_step t.step (level_of other t.now t.depth (below_limit other m')) t S)
      (λ S t deep ok. step_same t ok (below_limit library m) (below_limit other m') (below_same m m' t.depth (omega (arith, e, deep)) (omega (arith, e', deep))) t.step S)

  level_same : (depth : ℕ) → depth ≤ most → StartsSame (suc depth) (below_limit library (limit - depth)) (below_limit other (other_limit - depth))
  level_same depth low = below_same (limit - depth) (other_limit - depth) depth (omega (arith, low, few)) (omega (arith, low, few_other))

  fire_same : FiresSame (λ d. d ≤ limit) (fire_task library) (fire_task other)
  fire_same S t low ok = step_same t ok (below_limit library (limit - t.depth)) (below_limit other (other_limit - t.depth)) (level_same t.depth (depth_bound library most t ok)) t.step S

  -- ---- rounds

  at_most : (m : ℕ) (ts : List Task) → AreNew limit May m ts → AreAt (λ d. d ≤ limit) ts
  at_most m [] h = tt
  at_most m (t ∷ ts) h = ((h.0.0.1, h.0.1), at_most m ts h.1)

  too_far : (m : ℕ) (t : Task) → 2 * most + 1 ≤ m → m < rank t → May t → ⊥
  too_far m t high above ok = let low = rank_bound library most few t ok in omega (arith, high, above, low)

  -- where no task can be left, a round does nothing
  round_idle : (f : Fire) (m : ℕ) (e : End) (ts : List Task) (c : Course) → 2 * most + 1 ≤ m → (e ≡ done → AreNew limit May m ts) → next_round f e ts c ≡ c
  round_idle f m done [] c high new = refl
  round_idle f m done (t ∷ ts) c high new = absurd (too_far m t high (new refl).0.0.0 (new refl).0.1)
  round_idle f m (abort_by x) ts c high new = refl
  round_idle f m (veto_by r) ts c high new = refl

  round_same : (m : ℕ) (e : End) (ts : List Task) (c : Course) → (e ≡ done → AreNew limit May m ts) → next_round (fire_task library) e ts c ≡ next_round (fire_task other) e ts c
  round_same m done [] c new = refl
  round_same m done (t ∷ ts) c new = λ i.
      joined (drained c) (course_of (siblings_same (λ d. d ≤ limit) (fire_task library) (fire_task other) fire_same true (t ∷ ts) c.state (at_most m (t ∷ ts) (new refl)) i))
  round_same m (abort_by x) ts c new = refl
  round_same m (veto_by r) ts c new = refl

  new_if_empty : (m : ℕ) (q : List Task) → q ≡ [] → AreNew limit May m q
  new_if_empty m [] e = tt
  new_if_empty m (t ∷ ts) e = cc

  round_rises : (m : ℕ) (e : End) (ts : List Task) (c : Course) → c.end ≡ e → c.queued ≡ ts → (e ≡ done → AreNew limit May m ts)
      → (next_round (fire_task library) e ts c).end ≡ done → AreNew limit May (suc m) (next_round (fire_task library) e ts c).queued
  round_rises m done [] c is_e is_ts new is_done = new_if_empty (suc m) c.queued is_ts
  round_rises m done (t ∷ ts) c is_e is_ts new is_done =
      (siblings_kept library allowed guard limit (Leaves limit May) (leaving library allowed limit) m (fire_task library) true (t ∷ ts) c.state (λ d. d ≤ limit)
      (fire_kept library allowed guard limit (Leaves limit May) (leaving library allowed limit) refl) (new refl)).0
  round_rises m (abort_by x) ts c is_e is_ts new is_done = cc
  round_rises m (veto_by r) ts c is_e is_ts new is_done = cc

  rounds_same : (n n' m : ℕ) (c : Course) → (c.end ≡ done → AreNew limit May m c.queued) → 2 * most + 1 ≤ m + n → 2 * most + 1 ≤ m + n'
      → rounds n (fire_task library) c ≡ rounds n' (fire_task other) c
  rounds_same zero zero m c new h h' = refl
  rounds_same zero (suc n') m c new h h' =
      rounds_same zero n' m c new h (omega (arith, h))
      ∙ ap (rounds n' (fire_task other)) (sym (round_idle (fire_task other) m c.end c.queued c (omega (arith, h)) new))
  rounds_same (suc n) zero m c new h h' =
      ap (rounds n (fire_task library)) (round_idle (fire_task library) m c.end c.queued c (omega (arith, h')) new)
      ∙ rounds_same n zero m c new (omega (arith, h')) h'
  rounds_same (suc n) (suc n') m c new h h' =
      rounds_same n n' (suc m) (next_round (fire_task library) c.end c.queued c) (round_rises m c.end c.queued c refl refl new) (omega (arith, h)) (omega (arith, h'))
      ∙ ap (rounds n' (fire_task other)) (round_same m c.end c.queued c new)

  -- ---- top-level transactions

  top_same : (n now depth : ℕ) (work work' : Work) (S : State) → depth ≤ most → n ≤ body_rank depth → Passes allowed (suc depth) (signal_triggers library commit_reached) → work S ≡ work' S
      → Leaves limit May n S (work S) → top library now depth work S ≡ top other now depth work' S
  top_same n now depth work work' S low small ok same r =
      let c = then_do (work S) (signal_in (level_at library now depth) commit_reached) in
      let left = work_kept library allowed guard (Leaves limit May) (leaving library allowed limit) n now depth work S (omega (arith, low, few)) small ok r in
      ap (λ d. closed S d)
      (rounds_same (most_rounds library) (most_rounds other) n c (λ _. left.0) (omega (arith, few)) (omega (arith, few_other))
      ∙ ap (rounds (most_rounds other) (fire_task other))
      (then_do_same (work S) (work' S) (signal_in (level_at library now depth) commit_reached) (signal_in (level_at other now depth) commit_reached) same
      (signal_same now depth (below_limit library (limit - depth)) (below_limit other (other_limit - depth)) (level_same depth low) commit_reached ok)))

  unit_work_same : (u : Unit) → Passes allowed 1 (unit_triggers library u) → Same (unit_work library u) (unit_work other u)
  unit_work_same (transaction now body) ok S =
      body_same now 0 (below_limit library (limit - 0)) (below_limit other (other_limit - 0)) (level_same 0 (omega arith)) body (no_context now)
      (both_pass (allowed 1) (body_triggers library body) (signal_triggers library commit_reached) ok).0 S
  unit_work_same (moment t) ok S =
      signal_same t 0 (below_limit library (limit - 0)) (below_limit other (other_limit - 0)) (level_same 0 (omega arith)) (moment_reached t)
      (both_pass (allowed 1) (signal_triggers library (moment_reached t)) (signal_triggers library commit_reached) ok).0 S

  abbrev task_course_of : Firing → Course
  task_course_of f = record { state = f.state; queued = f.queued; detached = f.detached; items = f.items; end = veto_end f.vetoed_by }

  task_top_same : (t : Task) (S : State) → t.depth ≤ limit → May t → is_detached t.place ≡ true → top library t.now t.depth (task_work library t) S ≡ top other t.now t.depth (task_work other t) S
  task_top_same t S low ok is =
      top_same (rank t) t.now t.depth (task_work library t) (task_work other t) S (depth_bound library most t ok) (rank_small t) (ok.1 is) (ap task_course_of (fire_same S t low ok))
      (task_kept library allowed guard (Leaves limit May) (leaving library allowed limit) t S low ok)

  unit_top_same : (u : Unit) → IsTrue (unit_within library most u) → (S : State) → top library (now_in u) 0 (unit_work library u) S ≡ top other (now_in u) 0 (unit_work other u) S
  unit_top_same u within S =
      let ok = unit_passes library most few u within in
      top_same 1 (now_in u) 0 (unit_work library u) (unit_work other u) S (omega arith) (omega arith) (unit_commit library allowed u ok) (unit_work_same u ok S)
      (unit_kept library allowed guard (Leaves limit May) (leaving library allowed limit) u S ok)

  -- ---- cascades and units

  generation_same : (m : ℕ) (ts : List Task) (S : State) → AreDue limit May m ts → generation library ts S ≡ generation other ts S
  generation_same m [] S h = refl
  generation_same m (t ∷ ts) S h =
      ap (followed_by (alone (Some t) (top library t.now t.depth (task_work library t) S))) (generation_same m ts (top library t.now t.depth (task_work library t) S).state h.1)
      ∙ ap (λ c. followed_by (alone (Some t) c) (generation other ts c.state)) (task_top_same t S h.0.0.0.1 h.0.0.1 h.0.1)

  cascade_same : (n n' m : ℕ) (ts : List Task) (S : State) → AreDue limit May m ts → 2 * most + 1 ≤ m + n → 2 * most + 1 ≤ m + n' → cascade n library ts S ≡ cascade n' other ts S
  cascade_same zero zero m ts S h low low' = refl
  cascade_same zero (suc n') m [] S h low low' = refl
  cascade_same zero (suc n') m (t ∷ ts) S h low low' = absurd (too_far m t (omega (arith, low)) h.0.0.0.0 h.0.0.1)
  cascade_same (suc n) zero m [] S h low low' = refl
  cascade_same (suc n) zero m (t ∷ ts) S h low low' = absurd (too_far m t (omega (arith, low')) h.0.0.0.0 h.0.0.1)
  cascade_same (suc n) (suc n') m [] S h low low' = refl
  cascade_same (suc n) (suc n') m (t ∷ ts) S h low low' =
      let g = generation library (t ∷ ts) S in
      ap (before_cascade g)
      (cascade_same n n' (suc m) (due g.detached) g.state (due_new limit May (suc m) g.detached (generation_leaves library allowed guard m (t ∷ ts) S h)) (omega (arith, low)) (omega (arith, low')))
      ∙ ap (λ (k : Generation). before_cascade k (cascade n' other (due k.detached) k.state)) (generation_same m (t ∷ ts) S h)

  unit_same : (u : Unit) → IsTrue (unit_within library most u) → (S : State) → run_unit library u S ≡ run_unit other u S
  unit_same u within S =
      let c = top_course library (now_in u) 0 (unit_work library u) S in
      let first = top library (now_in u) 0 (unit_work library u) S in
      let left = unit_leaves library allowed guard u S (unit_passes library most few u within) in
      ap (before_cascade (alone None first))
      (cascade_same (most_rounds library) (most_rounds other) 1 (due first.detached) first.state (due_new limit May 1 first.detached left) (omega (arith, few)) (omega (arith, few_other)))
      ∙ ap (λ k. before_cascade (alone None k) (cascade (most_rounds other) other (due k.detached) k.state)) (unit_top_same u within S)

  abbrev with_unit : Unit → Cascade → Evaluation → Evaluation
  with_unit u c rest = record { units = unit_report u c ∷ rest.units; state = rest.state }

  units_same : (us : List Unit) (S : State) → IsTrue (list_all (unit_within library most) us) → run_units library us S ≡ run_units other us S
  units_same [] S h = refl
  units_same (u ∷ us) S h =
      let parts = and_parts (unit_within library most u) (list_all (unit_within library most) us) h in
      ap (with_unit u (run_unit library u S)) (units_same us (run_unit library u S).state parts.1)
      ∙ ap (λ (c : Cascade). with_unit u c (run_units other us c.state)) (unit_same u parts.0 S)

pub limit_is_idle : LimitIsIdle
limit_is_idle library most few units within limit few_other = units_same library limit most few few_other units (initial_state library) within
