-- Units go on alike from states that are alike.
use native.Mathlib.Omega.{arith}
use Rattle.std.proofs.Common.{ℤ, ◌-◌, option_map, ◌≡◌, refl, sym, ap, ◌∙◌, subst, ℕ, zero, suc, ◌≤◌, ◌<◌, Bool, true, false, List, [], ◌∷◌, ◌++◌, append_assoc, length, map, Option, None, Some}
use Rattle.std.specs.Prelude.{⊤, Ok, Err, ◌==◌, nat_lt, filter}
use Rattle.std.specs.List.{filter_map, slice_index_or}
use Rattle.std.proofs.lemmas.Bool.{eqb-false, ltb-false}
use Rattle.std.proofs.lemmas.Bool.Decides.{Decides-eqb, Decides-ltb}
use Rattle.std.proofs.lemmas.List.{length-map, length-set, set_past}
use Rattle.hp_model.specs.Values.{Value, Row, Veto, exists, missing, requested, Outcome}
use Rattle.hp_model.specs.Occurrences.{Primitive, created, updated, deleted, signalled, commit_reached, moment_reached, History}
use Rattle.hp_model.specs.Events.{Event, occurrence_of}
use Rattle.hp_model.specs.Rules.{Coupling, immediate, deferred, separate, dependent, exclusive, is_immediate, Rule, no_rule, Library, rule_at, class_at, Statement, create, update}
use Rattle.hp_model.specs.Rules.{delete, signal, emit, when, each, for_answer, with_object, subtransaction, let_value, abort, veto, veto_with, on_rule, fire, Body, empty, ◌then◌}
use Rattle.hp_model.specs.Rules.{RuleOperation, install, enable, disable, remove}
use Rattle.hp_model.specs.State.{Objects, State, RuleState, Status, absent, enabled, disabled, with_status, rule_state, with_objects, with_rule, extended, extended_rule}
use Rattle.hp_model.specs.State.{find_object, write_object, remove_object}
use Rattle.hp_model.specs.Expressions.{value_of}
use Rattle.hp_model.specs.Conditions.{Findings, Verdict, satisfied, unsatisfied, faulty, answer, verdict, let_of}
use Rattle.hp_model.specs.Tree.{Task, Step, condition_step, action_step, Node, sub_node, fire_node, act_node, with_action, Operation, create_op, update_op, delete_op, rule_op}
use Rattle.hp_model.specs.Tree.{no_items, operation, append}
use Rattle.hp_model.specs.Transactions.{End, done, abort_by, veto_by, Course, Work, ends, joined, after_end, then_do, with_value, for_each, with_items, closed, closed_by, undone, drained, placed}
use Rattle.hp_model.specs.Firing.{Firing, Fire, after_firing, siblings, Siblings, course_of, Level, start, task_if, triggered_by, triggered_from, triggered, signal_in, Context}
use Rattle.hp_model.specs.Firing.{with_row, with_let, operated, created_if_absent, updated_if_present, deleted_if_present, changed_row, made_row, checked_kinds, keyed_row}
use Rattle.hp_model.specs.Firing.{integer_value, boolean_value, values_of, answer_named, named_object, operated_rule, fired_task, start_fired, vetoes, nested, sub_by, sub_in}
use Rattle.hp_model.specs.Firing.{choose, run_statement, run_body, firing_with, run_action, action_course, action_context, action_veto, follow, decide, take_step, task_environment}
use Rattle.hp_model.specs.Firing.{below_limit, level_at, fire_task}
use Rattle.hp_model.specs.Cascade.{Unit, transaction, moment, now_in, no_context, unit_work, veto_end, task_work, most_rounds, next_round, rounds, top_course, top, Generation}
use Rattle.hp_model.specs.Cascade.{alone, followed_by, generation, due, Cascade, before_cascade, cascade, run_unit, transactions_of, transaction_report, time_of, unit_report}
use Rattle.hp_model.specs.Snapshots.{RulesAlike, StatesAlike, AlikeGoOn}
use Rattle.hp_model.proofs.BridgesSignals.{rule_state-extended}
use Rattle.hp_model.proofs.BridgesWrites.{rule_state-here, rule_state-apart}

-- ---- rules and states

-- a rule hears an occurrence
heard : (event : Event) (p : Primitive) (a b : Status) (h k : History) → RulesAlike event (record { status = a; past = h }) (record { status = b; past = k })
    → RulesAlike event (extended_rule p (record { status = a; past = h })) (extended_rule p (record { status = b; past = k }))
heard event p enabled enabled h k same = record {
  status = refl;
  future = λ is q later.
      ap (occurrence_of event) (sym (append_assoc later (q ∷ []) (p ∷ h))) ∙ same.future refl p (later ++ q ∷ []) ∙ ap (occurrence_of event) (append_assoc later (q ∷ []) (p ∷ k));
}
heard event p absent absent h k same = same
heard event p disabled disabled h k same = same
heard event p absent enabled h k same = let e = same.status in cc
heard event p absent disabled h k same = let e = same.status in cc
heard event p enabled absent h k same = let e = same.status in cc
heard event p enabled disabled h k same = let e = same.status in cc
heard event p disabled absent h k same = let e = same.status in cc
heard event p disabled enabled h k same = let e = same.status in cc

-- the task of a rule that has heard an occurrence
task_same : (level : Level) (n : ℕ) (rule : Rule) (p : Primitive) (a b : Status) (h k : History) → RulesAlike rule.event (record { status = a; past = h }) (record { status = b; past = k })
    → (let r = extended_rule p (record { status = a; past = h }) in task_if r.status level n rule r.past)
    ≡ (let s = extended_rule p (record { status = b; past = k }) in task_if s.status level n rule s.past)
task_same level n rule p enabled enabled h k same = ap (λ o. option_map (triggered_by level n rule) o) (same.future refl p [])
task_same level n rule p absent absent h k same = refl
task_same level n rule p disabled disabled h k same = refl
task_same level n rule p absent enabled h k same = let e = same.status in cc
task_same level n rule p absent disabled h k same = let e = same.status in cc
task_same level n rule p enabled absent h k same = let e = same.status in cc
task_same level n rule p enabled disabled h k same = let e = same.status in cc
task_same level n rule p disabled absent h k same = let e = same.status in cc
task_same level n rule p disabled enabled h k same = let e = same.status in cc

tasks_same : (level : Level) (p : Primitive) (n : ℕ) (rules : List Rule) (rs ss : List RuleState) → length rs ≡ length ss
    → ((k : ℕ) → RulesAlike (slice_index_or rules k no_rule).event (slice_index_or rs k (with_status absent)) (slice_index_or ss k (with_status absent)))
    → triggered_from level n rules (map (extended_rule p) rs) ≡ triggered_from level n rules (map (extended_rule p) ss)
tasks_same level p n [] rs ss long same = refl
tasks_same level p n (rule ∷ rules) [] [] long same = refl
tasks_same level p n (rule ∷ rules) [] (s ∷ ss) long same = absurd (omega (arith, long))
tasks_same level p n (rule ∷ rules) (r ∷ rs) [] long same = absurd (omega (arith, long))
tasks_same level p n (rule ∷ rules) (r ∷ rs) (s ∷ ss) long same = (λ i.
    task_same level n rule p r.status s.status r.past s.past (same 0) i
    ∷ tasks_same level p (suc n) rules rs ss (omega (arith, long)) (λ k. same (suc k)) i)

module _ (library : Library) where
  abbrev Like : State → State → Type 0
  Like S T = StatesAlike library S T

  like_extended : (p : Primitive) (S T : State) → Like S T → Like (extended p S) (extended p T)
  like_extended p S T like = record {
    objects = like.objects;
    rules = length-map S.rules (extended_rule p) ∙ like.rules ∙ sym (length-map T.rules (extended_rule p));
    each = λ n.
        subst (λ r. RulesAlike (rule_at library n).event r (rule_state (extended p T) n)) (sym (rule_state-extended p S n))
        (subst (λ s. RulesAlike (rule_at library n).event (extended_rule p (rule_state S n)) s) (sym (rule_state-extended p T n))
        (heard (rule_at library n).event p (rule_state S n).status (rule_state T n).status (rule_state S n).past (rule_state T n).past (like.each n)));
  }

  like_objects : (objects : Objects) (S T : State) → Like S T → Like (with_objects S objects) (with_objects T objects)
  like_objects objects S T like = record { objects = refl; rules = like.rules; each = like.each }

  -- one rule's state is changed alike
  like_rule : (n : ℕ) (r s : RuleState) (S T : State) → RulesAlike (rule_at library n).event r s → Like S T → Like (with_rule S n r) (with_rule T n s)
  like_rule n r s S T same like = record {
    objects = like.objects;
    rules = length-set S.rules n r ∙ like.rules ∙ sym (length-set T.rules n s);
    each = λ m. by m (m == n) refl (nat_lt n (length S.rules)) refl;
  }
    where
      by : (m : ℕ) (b : Bool) → (m == n) ≡ b → (c : Bool) → nat_lt n (length S.rules) ≡ c → RulesAlike (rule_at library m).event (rule_state (with_rule S n r) m) (rule_state (with_rule T n s) m)
      by m true is true below =
          let m_is = (Decides-eqb m n).0 is in
          let low : n < length S.rules = (Decides-ltb n (length S.rules)).0 below in
          subst (λ k. RulesAlike (rule_at library k).event (rule_state (with_rule S n r) k) (rule_state (with_rule T n s) k)) (sym m_is)
          (subst (λ x. RulesAlike (rule_at library n).event x (rule_state (with_rule T n s) n)) (sym (rule_state-here S n r low))
          (subst (λ y. RulesAlike (rule_at library n).event r y) (sym (rule_state-here T n s (subst (λ k. n < k) like.rules low))) same))
      by m true is false beyond =
          let high = ltb-false n (length S.rules) beyond in
          subst (λ rs. RulesAlike (rule_at library m).event (slice_index_or rs m (with_status absent)) (rule_state (with_rule T n s) m)) (sym (set_past S.rules n r high))
          (subst (λ ss. RulesAlike (rule_at library m).event (rule_state S m) (slice_index_or ss m (with_status absent))) (sym (set_past T.rules n s (subst (λ k. k ≤ n) like.rules high)))
          (like.each m))
      by m false is c below =
          let apart = eqb-false m n is in
          subst (λ x. RulesAlike (rule_at library m).event x (rule_state (with_rule T n s) m)) (sym (rule_state-apart S n m r apart))
          (subst (λ y. RulesAlike (rule_at library m).event (rule_state S m) y) (sym (rule_state-apart T n m s apart)) (like.each m))

  -- ---- courses

  -- a course that leads to another state
  abbrev moved : State → Course → Course
  moved T c = record { state = T; queued = c.queued; detached = c.detached; items = c.items; end = c.end }

  -- the same course, to a state that is alike
  record Same (c d : Course) : Type 0 where
    to : State
    like : Like c.state to
    is : d ≡ moved to c

  -- work that takes the same course from states that are alike
  abbrev Blind : Work → Type 0
  Blind work = (S T : State) → Like S T → Same (work S) (work T)

  same_after : (e : End) (c : Course) (next : Work) (T : State) → Like c.state T → Blind next → Same (after_end e c next) (after_end e (moved T c) next)
  same_after done c next T like blind = let n = blind c.state T like in record { to = n.to; like = n.like; is = ap (joined (moved T c)) n.is }
  same_after (abort_by x) c next T like blind = record { to = T; like = like; is = refl }
  same_after (veto_by v) c next T like blind = record { to = T; like = like; is = refl }

  same_then : (c d : Course) (next : Work) → Same c d → Blind next → Same (then_do c next) (then_do d next)
  same_then c d next same blind = subst (λ (x : Course). Same (then_do c next) (then_do x next)) (sym same.is) (same_after c.end c next same.to same.like blind)

  blind_end : (e : End) → Blind (ends e)
  blind_end e S T like = record { to = T; like = like; is = refl }

  blind_value : {A : Type 0} (o : Outcome A) (next : A → Work) → ((x : A) → Blind (next x)) → Blind (with_value o next)
  blind_value (Err c) next blind S T like = record { to = T; like = like; is = refl }
  blind_value (Ok x) next blind S T like = blind x S T like

  blind_each : {A : Type 0} (xs : List A) (work : A → Work) → ((x : A) → Blind (work x)) → Blind (for_each xs work)
  blind_each [] work blind S T like = record { to = T; like = like; is = refl }
  blind_each (x ∷ xs) work blind S T like = same_then (work x S) (work x T) (for_each xs work) (blind x S T like) (blind_each xs work blind)

  -- what depends on the objects alone
  by_objects : (work : Objects → Work) → ((objects : Objects) → Blind (work objects)) → Blind (λ S. work S.objects S)
  by_objects work blind S T like = subst (λ objects. Same (work S.objects S) (work objects T)) like.objects (blind S.objects S T like)

  -- ---- firings

  abbrev moved_firing : State → Firing → Firing
  moved_firing T f = record { state = T; queued = f.queued; detached = f.detached; items = f.items; vetoed_by = f.vetoed_by }

  record SameFiring (f g : Firing) : Type 0 where
    to : State
    like : Like f.state to
    is : g ≡ moved_firing to f

  abbrev BlindFire : Fire → Type 0
  BlindFire f = (t : Task) (S T : State) → Like S T → SameFiring (f S t) (f T t)

  abbrev BlindBelow : Option Fire → Type 0
  BlindBelow None = ⊤
  BlindBelow (Some f) = BlindFire f

  -- one more firing, before siblings that are the same
  one_more : (f : Firing) (T : State) (g h : Siblings) → Like f.state T → Same (course_of g) (course_of h)
      → Same (course_of (record { firings = f ∷ g.firings; state = g.state; vetoed_by = g.vetoed_by }))
      (course_of (record { firings = moved_firing T f ∷ h.firings; state = h.state; vetoed_by = h.vetoed_by }))
  one_more f T g h like same = record {
    to = same.to;
    like = same.like;
    is = λ i. record {
      state = (same.is i).state;
      queued = f.queued ++ (same.is i).queued;
      detached = f.detached ++ (same.is i).detached;
      items =
          append f.items (same.is i).items;
      end = (same.is i).end;
    };
  }

  same_siblings : (stops : Bool) (v : Option Veto) (f : Firing) (T : State) (rest : State → Siblings) → Like f.state T → Blind (λ S. course_of (rest S))
      → Same (course_of (after_firing stops v f rest)) (course_of (after_firing stops v (moved_firing T f) rest))
  same_siblings true (Some v) f T rest like blind = record { to = T; like = like; is = refl }
  same_siblings true None f T rest like blind = one_more f T (rest f.state) (rest T) like (blind f.state T like)
  same_siblings false v f T rest like blind = one_more f T (rest f.state) (rest T) like (blind f.state T like)

  blind_siblings : (fire_task : Fire) → BlindFire fire_task → (stops : Bool) (ts : List Task) → Blind (λ S. course_of (siblings fire_task stops ts S))
  blind_siblings fire_task fires stops [] S T like = record { to = T; like = like; is = refl }
  blind_siblings fire_task fires stops (t ∷ ts) S T like =
      let f = fire_task S t in
      let rest = siblings fire_task stops ts in
      let same = fires t S T like in
      subst (λ (g : Firing). Same (course_of (after_firing stops f.vetoed_by f rest)) (course_of (after_firing stops g.vetoed_by g rest))) (sym same.is)
      (same_siblings stops f.vetoed_by f same.to rest same.like (blind_siblings fire_task fires stops ts))

  -- ---- signals

  blind_placed : (ts : List Task) → Blind (placed ts)
  blind_placed ts S T like = record { to = T; like = like; is = refl }

  blind_start : (below : Option Fire) → BlindBelow below → (ts : List Task) → Blind (start below ts)
  blind_start below fires [] S T like = record { to = T; like = like; is = refl }
  blind_start None fires (t ∷ ts) S T like = record { to = T; like = like; is = refl }
  blind_start (Some fire_task) fires (t ∷ ts) S T like =
      same_then (placed (t ∷ ts) S) (placed (t ∷ ts) T) (λ S'. course_of (siblings fire_task true (filter (λ (u : Task). is_immediate u.place) (t ∷ ts)) S'))
      (blind_placed (t ∷ ts) S T like) (blind_siblings fire_task fires true (filter (λ (u : Task). is_immediate u.place) (t ∷ ts)))

  -- ---- the level of a transaction

  module _ (depth now : ℕ) (below : Option Fire) (fires : BlindBelow below) where
    abbrev level : Level
    level = record { library = library; depth = depth; now = now; below = below }

    blind_signal : (p : Primitive) → Blind (signal_in level p)
    blind_signal p S T like =
        let same : triggered level (extended p S) ≡ triggered level (extended p T) = ap (filter_map (λ t. t)) (tasks_same level p 0 library.rules S.rules T.rules like.rules like.each) in
        subst (λ ts. Same (start below (triggered level (extended p S)) (extended p S)) (start below ts (extended p T))) same
        (blind_start below fires (triggered level (extended p S)) (extended p S) (extended p T) (like_extended p S T like))

    blind_operated : (op : Operation) (p : Primitive) (objects : Objects) → Blind (operated level op p objects)
    blind_operated op p objects S T like =
        same_then (with_items (operation op no_items) (with_objects S objects)) (with_items (operation op no_items) (with_objects T objects)) (signal_in level p)
        (record { to = with_objects T objects; like = like_objects objects S T like; is = refl }) (blind_signal p)

    blind_created : (class : ℕ) (key : ℤ) (new : Row) (found : Option Row) → Blind (created_if_absent level class key new found)
    blind_created class key new (Some old) = blind_end (abort_by exists)
    blind_created class key new None =
        by_objects (λ objects. operated level (create_op class key new) (created class key new) (write_object objects class key new))
        (λ objects. blind_operated (create_op class key new) (created class key new) (write_object objects class key new))

    blind_updated : (class : ℕ) (key : ℤ) (given : Row) (found : Option Row) → Blind (updated_if_present level class key given found)
    blind_updated class key given None = blind_end (abort_by missing)
    blind_updated class key given (Some old) =
        let new = changed_row given old in
        by_objects (λ objects. operated level (update_op class key new) (updated class key old new) (write_object objects class key new))
        (λ objects. blind_operated (update_op class key new) (updated class key old new) (write_object objects class key new))

    blind_deleted : (class : ℕ) (key : ℤ) (found : Option Row) → Blind (deleted_if_present level class key found)
    blind_deleted class key None = blind_end (abort_by missing)
    blind_deleted class key (Some old) =
        by_objects (λ objects. operated level (delete_op class key) (deleted class key old) (remove_object objects class key))
        (λ objects. blind_operated (delete_op class key) (deleted class key old) (remove_object objects class key))

    -- ---- statements

    same_sub : (e : End) (S T T' : State) (c : Course) (otherwise : Work) → Like S T → Like c.state T' → Blind otherwise
        → Same (sub_by e (closed_by e S c) otherwise) (sub_by e (closed_by e T (moved T' c)) otherwise)
    same_sub done S T T' c otherwise like like' blind = record { to = T'; like = like'; is = refl }
    same_sub (abort_by x) S T T' c otherwise like like' blind =
        same_then (nested sub_node (undone S c x) done) (nested sub_node (undone T (moved T' c) x) done) otherwise (record { to = T; like = like; is = refl }) blind
    same_sub (veto_by v) S T T' c otherwise like like' blind = record { to = T; like = like; is = refl }

    blind_sub : (body otherwise : Work) → Blind body → Blind otherwise → Blind (sub_in body otherwise)
    blind_sub body otherwise inner other S T like =
        let same = inner S T like in
        let c = body S in
        subst (λ (d : Course). Same (sub_by c.end (closed S c) otherwise) (sub_by d.end (closed T d) otherwise)) (sym same.is) (same_sub c.end S T same.to c otherwise like same.like other)

    -- an operation on a rule whose state is this
    abbrev rule_work : RuleOperation → ℕ → RuleState → Work
    rule_work op n r = with_value (operated_rule op r) (λ r' S'. with_items (operation (rule_op op n) no_items) (with_rule S' n r'))

    set_same : (op : RuleOperation) (n : ℕ) (r s : RuleState) (S T : State) → RulesAlike (rule_at library n).event r s → Like S T
        → Same (with_items (operation (rule_op op n) no_items) (with_rule S n r)) (with_items (operation (rule_op op n) no_items) (with_rule T n s))
    set_same op n r s S T same like = record { to = with_rule T n s; like = like_rule n r s S T same like; is = refl }

    fresh : (event : Event) (s : Status) → RulesAlike event (with_status s) (with_status s)
    fresh event s = record { status = refl; future = λ is p later. refl }

    same_rule : (op : RuleOperation) (n : ℕ) (a b : Status) (h k : History) (S T : State)
        → RulesAlike (rule_at library n).event (record { status = a; past = h }) (record { status = b; past = k }) → Like S T
        → Same (rule_work op n (record { status = a; past = h }) S) (rule_work op n (record { status = b; past = k }) T)
    same_rule install n absent absent h k S T same like = set_same install n _ _ S T (fresh (rule_at library n).event enabled) like
    same_rule install n enabled enabled h k S T same like = set_same install n _ _ S T same like
    same_rule install n disabled disabled h k S T same like = set_same install n _ _ S T same like
    same_rule enable n absent absent h k S T same like = record { to = T; like = like; is = refl }
    same_rule enable n enabled enabled h k S T same like = set_same enable n _ _ S T same like
    same_rule enable n disabled disabled h k S T same like = set_same enable n _ _ S T (fresh (rule_at library n).event enabled) like
    same_rule disable n absent absent h k S T same like = record { to = T; like = like; is = refl }
    same_rule disable n enabled enabled h k S T same like = set_same disable n _ _ S T (fresh (rule_at library n).event disabled) like
    same_rule disable n disabled disabled h k S T same like = set_same disable n _ _ S T same like
    same_rule remove n absent absent h k S T same like = set_same remove n _ _ S T same like
    same_rule remove n enabled enabled h k S T same like = set_same remove n _ _ S T (fresh (rule_at library n).event absent) like
    same_rule remove n disabled disabled h k S T same like = set_same remove n _ _ S T (fresh (rule_at library n).event absent) like
    same_rule op n absent enabled h k S T same like = let e = same.status in cc
    same_rule op n absent disabled h k S T same like = let e = same.status in cc
    same_rule op n enabled absent h k S T same like = let e = same.status in cc
    same_rule op n enabled disabled h k S T same like = let e = same.status in cc
    same_rule op n disabled absent h k S T same like = let e = same.status in cc
    same_rule op n disabled enabled h k S T same like = let e = same.status in cc

    blind_fired : (s : Status) (n : ℕ) → Blind (start_fired s level n)
    blind_fired absent n S T like = record { to = T; like = like; is = refl }
    blind_fired enabled n S T like = blind_start below fires (fired_task level n ∷ []) S T like
    blind_fired disabled n S T like = blind_start below fires (fired_task level n ∷ []) S T like

    blind_veto : (rule : Option ℕ) (message : Option Value) → Blind (vetoes rule message)
    blind_veto None message S T like = record { to = T; like = like; is = refl }
    blind_veto (Some r) message S T like = record { to = T; like = like; is = refl }

    blind_choice : (b : Bool) (then_work else_work : Work) → Blind then_work → Blind else_work → Blind (choose b then_work else_work)
    blind_choice true then_work else_work h k = h
    blind_choice false then_work else_work h k = k

    mutual
      blind_statement : (s : Statement) (context : Context) → Blind (run_statement s level context)
      blind_statement (create class key assignments) context =
          let found = keyed_row context.environment key assignments (made_row (class_at library class).fields) in
          by_objects (λ objects. with_value found (λ r. created_if_absent level class r.key r.row (find_object objects class r.key)))
          (λ objects. blind_value found _ (λ r. blind_created class r.key r.row (find_object objects class r.key)))
      blind_statement (update class key assignments) context =
          let found = keyed_row context.environment key assignments (checked_kinds (class_at library class).fields) in
          by_objects (λ objects. with_value found (λ r. updated_if_present level class r.key r.row (find_object objects class r.key)))
          (λ objects. blind_value found _ (λ r. blind_updated class r.key r.row (find_object objects class r.key)))
      blind_statement (delete class key) context =
          let found = integer_value context.environment key in
          by_objects (λ objects. with_value found (λ k. deleted_if_present level class k (find_object objects class k)))
          (λ objects. blind_value found _ (λ k. blind_deleted class k (find_object objects class k)))
      blind_statement (signal name arguments) context = blind_value (values_of context.environment arguments) _ (λ vs. blind_signal (signalled name vs))
      blind_statement (emit e) context = blind_value (value_of context.environment e) _ (λ v S T like. record { to = T; like = like; is = refl })
      blind_statement (when e then_body else_body) context =
          blind_value (boolean_value context.environment e) _ (λ b. blind_choice b (run_body then_body level context) (run_body else_body level context)
          (blind_body then_body context) (blind_body else_body context))
      blind_statement (each x class predicate body) context =
          by_objects (λ objects. with_value (answer context.environment x class predicate objects) (λ rows. for_each rows (λ r. run_body body level (with_row x r context))))
          (λ objects. blind_value (answer context.environment x class predicate objects) _ (λ rows. blind_each rows _ (λ r. blind_body body (with_row x r context))))
      blind_statement (for_answer x body) context = blind_each (answer_named context.answers x) _ (λ r. blind_body body (with_row x r context))
      blind_statement (with_object x class key body) context =
          by_objects (λ objects. with_value (named_object objects context.environment class key) (λ r. run_body body level (with_row x r context)))
          (λ objects. blind_value (named_object objects context.environment class key) _ (λ r. blind_body body (with_row x r context)))
      blind_statement (subtransaction body otherwise) context =
          blind_sub (run_body body level context) (run_body otherwise level context) (blind_body body context) (blind_body otherwise context)
      blind_statement (let_value x a body) context =
          by_objects (λ objects. with_value (let_of objects context.environment a) (λ v. run_body body level (with_let x v context)))
          (λ objects. blind_value (let_of objects context.environment a) _ (λ v. blind_body body (with_let x v context)))
      blind_statement abort context = blind_end (abort_by requested)
      blind_statement veto context = blind_veto context.rule None
      blind_statement (veto_with e) context = blind_value (value_of context.environment e) _ (λ v. blind_veto context.rule (Some v))
      blind_statement (on_rule op n) context = λ S T like.
          same_rule op n (rule_state S n).status (rule_state T n).status (rule_state S n).past (rule_state T n).past S T (like.each n) like
      blind_statement (fire n) context = λ S T like.
          subst (λ s. Same (start_fired (rule_state S n).status level n S) (start_fired s level n T)) (like.each n).status (blind_fired (rule_state S n).status n S T like)

      blind_body : (b : Body) (context : Context) → Blind (run_body b level context)
      blind_body empty context = blind_end done
      blind_body (s then rest) context = λ S T like.
          same_then (run_statement s level context S) (run_statement s level context T) (run_body rest level context) (blind_statement s context S T like) (blind_body rest context)

    -- ---- conditions and actions

    same_action : (what : Node) (is_closed : Bool) (rule : ℕ) (e : End) (S T T' : State) (c : Course) → Like S T → Like c.state T'
        → SameFiring (firing_with what (closed_by e S c) (action_veto is_closed rule e)) (firing_with what (closed_by e T (moved T' c)) (action_veto is_closed rule e))
    same_action what is_closed rule done S T T' c like like' = record { to = T'; like = like'; is = refl }
    same_action what is_closed rule (abort_by x) S T T' c like like' = record { to = T; like = like; is = refl }
    same_action what is_closed rule (veto_by v) S T T' c like like' = record { to = T; like = like; is = refl }

    blind_action : (what : Node) (t : Task) (found : Findings) (S T : State) → Like S T → SameFiring (run_action what level t found S) (run_action what level t found T)
    blind_action what t found S T like =
        let c = action_course level t found S in
        let same = blind_body (rule_at library t.rule).action (action_context t found) S T like in
        let is_closed = (rule_at library t.rule).closed in
        subst (λ (d : Course). SameFiring (firing_with what (closed S c) (action_veto is_closed t.rule c.end)) (firing_with what (closed T d) (action_veto is_closed t.rule d.end))) (sym same.is)
        (same_action what is_closed t.rule c.end S T same.to c like same.like)

    blind_follow : (place : Coupling) (t : Task) (found : Findings) (S T : State) → Like S T → SameFiring (follow place level t found S) (follow place level t found T)
    blind_follow immediate t found S T like = blind_action (fire_node t.rule t.place with_action) t found S T like
    blind_follow deferred t found S T like = record { to = T; like = like; is = refl }
    blind_follow separate t found S T like = record { to = T; like = like; is = refl }
    blind_follow dependent t found S T like = record { to = T; like = like; is = refl }
    blind_follow exclusive t found S T like = record { to = T; like = like; is = refl }

    blind_decision : (v : Verdict) (t : Task) (S T : State) → Like S T → SameFiring (decide v level t S) (decide v level t T)
    blind_decision (satisfied found) t S T like = blind_follow (rule_at library t.rule).action_coupling t found S T like
    blind_decision unsatisfied t S T like = record { to = T; like = like; is = refl }
    blind_decision (faulty c) t S T like = record { to = T; like = like; is = refl }

    blind_step : (step : Step) (t : Task) (S T : State) → Like S T → SameFiring (take_step step level t S) (take_step step level t T)
    blind_step condition_step t S T like =
        let asked = λ (objects : Objects). verdict objects (task_environment t) (rule_at library t.rule).condition in
        subst (λ objects. SameFiring (decide (asked S.objects) level t S) (decide (asked objects) level t T)) like.objects (blind_decision (asked S.objects) t S T like)
    blind_step (action_step found) t S T like = blind_action (act_node t.rule t.place) t found S T like

  blind_below : (n : ℕ) → BlindBelow (below_limit library n)
  blind_below zero = tt
  blind_below (suc n) = λ t S T like. blind_step t.depth t.now (below_limit library n) (blind_below n) t.step t S T like

  blind_fire : BlindFire (fire_task library)
  blind_fire t S T like = blind_step t.depth t.now (below_limit library (library.depth_limit - t.depth)) (blind_below (library.depth_limit - t.depth)) t.step t S T like

  -- ---- top-level transactions

  blind_unit : (u : Unit) → Blind (unit_work library u)
  blind_unit (transaction now body) = blind_body 0 now (below_limit library (library.depth_limit - 0)) (blind_below (library.depth_limit - 0)) body (no_context now)
  blind_unit (moment t) = blind_signal 0 t (below_limit library (library.depth_limit - 0)) (blind_below (library.depth_limit - 0)) (moment_reached t)

  blind_task : (t : Task) → Blind (task_work library t)
  blind_task t S T like =
      let f = fire_task library S t in
      let same = blind_fire t S T like in
      record {
        to = same.to;
        like = same.like;
        is = λ i. record { state = (same.is i).state; queued = (same.is i).queued; detached = (same.is i).detached; items = (same.is i).items; end = veto_end (same.is i).vetoed_by };
      }

  same_round : (e : End) (ts : List Task) (c : Course) (T : State) → Like c.state T → Same (next_round (fire_task library) e ts c) (next_round (fire_task library) e ts (moved T c))
  same_round done [] c T like = record { to = T; like = like; is = refl }
  same_round done (t ∷ ts) c T like =
      let n = blind_siblings (fire_task library) blind_fire true (t ∷ ts) c.state T like in
      record { to = n.to; like = n.like; is = ap (joined (drained (moved T c))) n.is }
  same_round (abort_by x) ts c T like = record { to = T; like = like; is = refl }
  same_round (veto_by v) ts c T like = record { to = T; like = like; is = refl }

  same_rounds : (n : ℕ) (c d : Course) → Same c d → Same (rounds n (fire_task library) c) (rounds n (fire_task library) d)
  same_rounds zero c d same = same
  same_rounds (suc n) c d same =
      same_rounds n (next_round (fire_task library) c.end c.queued c) (next_round (fire_task library) d.end d.queued d)
      (subst (λ (x : Course). Same (next_round (fire_task library) c.end c.queued c) (next_round (fire_task library) x.end x.queued x)) (sym same.is) (same_round c.end c.queued c same.to same.like))

  blind_top_course : (now depth : ℕ) (work : Work) → Blind work → Blind (top_course library now depth work)
  blind_top_course now depth work blind S T like =
      same_rounds (most_rounds library) (then_do (work S) (signal_in (level_at library now depth) commit_reached)) (then_do (work T) (signal_in (level_at library now depth) commit_reached))
      (same_then (work S) (work T) (signal_in (level_at library now depth) commit_reached) (blind S T like)
      (blind_signal depth now (below_limit library (library.depth_limit - depth)) (blind_below (library.depth_limit - depth)) commit_reached))

  abbrev moved_generation : State → Generation → Generation
  moved_generation T g = record { transactions = g.transactions; state = T; detached = g.detached }

  record SameGeneration (g h : Generation) : Type 0 where
    to : State
    like : Like g.state to
    is : h ≡ moved_generation to g

  same_alone : (t : Option Task) (e : End) (S T T' : State) (c : Course) → Like S T → Like c.state T' → SameGeneration (alone t (closed_by e S c)) (alone t (closed_by e T (moved T' c)))
  same_alone t done S T T' c like like' = record { to = T'; like = like'; is = refl }
  same_alone t (abort_by x) S T T' c like like' = record { to = T; like = like; is = refl }
  same_alone t (veto_by v) S T T' c like like' = record { to = T; like = like; is = refl }

  blind_alone : (t : Option Task) (now depth : ℕ) (work : Work) → Blind work → (S T : State) → Like S T
      → SameGeneration (alone t (top library now depth work S)) (alone t (top library now depth work T))
  blind_alone t now depth work blind S T like =
      let c = top_course library now depth work S in
      let same = blind_top_course now depth work blind S T like in
      subst (λ (d : Course). SameGeneration (alone t (closed S c)) (alone t (closed T d))) (sym same.is) (same_alone t c.end S T same.to c like same.like)

  blind_generation : (ts : List Task) (S T : State) → Like S T → SameGeneration (generation library ts S) (generation library ts T)
  blind_generation [] S T like = record { to = T; like = like; is = refl }
  blind_generation (t ∷ ts) S T like =
      let g = alone (Some t) (top library t.now t.depth (task_work library t) S) in
      let same = blind_alone (Some t) t.now t.depth (task_work library t) (blind_task t) S T like in
      let rest = blind_generation ts g.state same.to same.like in
      subst (λ (h : Generation). SameGeneration (followed_by g (generation library ts g.state)) (followed_by h (generation library ts h.state))) (sym same.is)
      (record { to = rest.to; like = rest.like; is = ap (followed_by (moved_generation same.to g)) rest.is })

  -- ---- cascades and units

  -- the same transactions, to a state that is alike
  pub record SameCascade (c d : Cascade) : Type 0 where
    pub transactions : transactions_of c ≡ transactions_of d
    pub like : Like c.state d.state

  same_cascade : (g : Generation) (T : State) (c d : Cascade) → SameCascade c d → SameCascade (before_cascade g c) (before_cascade (moved_generation T g) d)
  same_cascade g T c d same = record { transactions = ap (λ ts. g.transactions ++ ts) same.transactions; like = same.like }

  blind_cascade : (n : ℕ) (ts : List Task) (S T : State) → Like S T → SameCascade (cascade n library ts S) (cascade n library ts T)
  blind_cascade zero ts S T like = record { transactions = refl; like = like }
  blind_cascade (suc n) [] S T like = record { transactions = refl; like = like }
  blind_cascade (suc n) (t ∷ ts) S T like =
      let g = generation library (t ∷ ts) S in
      let same = blind_generation (t ∷ ts) S T like in
      subst (λ (h : Generation). SameCascade (before_cascade g (cascade n library (due g.detached) g.state)) (before_cascade h (cascade n library (due h.detached) h.state))) (sym same.is)
      (same_cascade g same.to (cascade n library (due g.detached) g.state) (cascade n library (due g.detached) same.to) (blind_cascade n (due g.detached) g.state same.to same.like))

  pub unit_alike : (u : Unit) (S T : State) → Like S T → SameCascade (run_unit library u S) (run_unit library u T)
  unit_alike u S T like =
      let g = alone None (top library (now_in u) 0 (unit_work library u) S) in
      let same = blind_alone None (now_in u) 0 (unit_work library u) (blind_unit u) S T like in
      let n = most_rounds library in
      subst (λ (h : Generation). SameCascade (before_cascade g (cascade n library (due g.detached) g.state)) (before_cascade h (cascade n library (due h.detached) h.state))) (sym same.is)
      (same_cascade g same.to (cascade n library (due g.detached) g.state) (cascade n library (due g.detached) same.to) (blind_cascade n (due g.detached) g.state same.to same.like))

  report_alike : (u : Unit) (c d : Cascade) → transactions_of c ≡ transactions_of d → unit_report u c ≡ unit_report u d
  report_alike u c d same = ap (λ ts. record { time = time_of u; transactions = map transaction_report ts }) same

pub alike_go_on : AlikeGoOn
alike_go_on library [] S T like = (refl, like)
alike_go_on library (u ∷ us) S T like =
    let same = unit_alike library u S T like in
    let rest = alike_go_on library us (run_unit library u S).state (run_unit library u T).state same.like in
    ((λ i. report_alike library u (run_unit library u S) (run_unit library u T) same.transactions i ∷ rest.0 i), rest.1)
