-- Faithful operations, and the statements that make them.
use Rattle.std.proofs.Common.{◌≡◌, refl, ap, sym, ◌∙◌, subst, ℕ, ℤ, ◌<◌, ◌≤◌, true, List, Option, Some, None, arith}
use Rattle.std.proofs.lemmas.List.{get_or_past, set_past}
use Rattle.std.specs.Prelude.{Ok, Err, length}
use Rattle.hp_model.specs.Values.{Row, Cause, exists, missing, Outcome}
use Rattle.hp_model.specs.Occurrences.{Primitive, created, updated, deleted}
use Rattle.hp_model.specs.Events.{is_pure}
use Rattle.hp_model.specs.Rules.{RuleOperation, install, enable, disable, remove, Library, rule_at}
use Rattle.hp_model.specs.State.{State, Status, absent, enabled, disabled, RuleState, rule_state, with_status, find_object, write_object, remove_object, with_objects, with_rule, IsOrdered}
use Rattle.hp_model.specs.Tree.{rule_op, no_items, operation, without_detachments}
use Rattle.hp_model.specs.Transactions.{abort_by, Course, Work, aborts, then_do, with_value, with_items}
use Rattle.hp_model.specs.Firing.{Level, changed_row, operated_rule, created_if_absent, updated_if_present, deleted_if_present, signal_in, start_fired}
use Rattle.hp_model.specs.Cells.{object_cell, rule_cell, detector_cell, CellValue, row_value, Cells, cells, status_in, knowledge_in, Changes, over, with_change, Read, Holds}
use Rattle.hp_model.specs.Soundness.{Answer, answer_of, LeadsTo}
use Rattle.hp_model.specs.Answers.{FaithfulWork, Finds, ended, tells, followed}
use Rattle.hp_model.specs.Operations.{Operated, FaithfulOperation, create_where, create_object, update_where, update_object, delete_where, delete_object, operation_items}
use Rattle.hp_model.specs.Operations.{new_status, set_where, set_rule}
use Rattle.hp_model.proofs.BridgesOrdered.{write_ordered, remove_ordered, rule_ordered}
use Rattle.hp_model.proofs.BridgesReads.{row_at, status_at, find_object-cells, status-cells}
use Rattle.hp_model.proofs.BridgesWrites.{cells_changed, write_changes, remove_changes, with_rule-same, rule_changed, pure_rule_changes}
use Rattle.hp_model.proofs.Faithful.{Grows, Grows-same, held_before, faithful_ends, finds_part, finds_as, finds_cell, faithful_found, work_found, faithful_then}

-- ---- what an operation reads

-- an object
pub finds_object : (library : Library) (class : ℕ) (key : ℤ) {reads : List Read} {writes : Changes} {found : Option CellValue}
    → ((base : Cells) → Holds base reads → over base writes (object_cell class key) ≡ found) → Finds library (λ S. find_object S.objects class key) reads writes (row_at found)
finds_object library class key shows =
    finds_as (λ S. row_at (cells library S (object_cell class key))) (λ S. find_object S.objects class key) (λ S ordered. find_object-cells library S class key)
    (finds_part row_at (finds_cell library (object_cell class key) shows))

-- a rule's status
pub finds_status : (library : Library) (n : ℕ) {reads : List Read} {writes : Changes} {found : Option CellValue}
    → ((base : Cells) → Holds base reads → over base writes (rule_cell n) ≡ found) → Finds library (λ S. (rule_state S n).status) reads writes (status_at found)
finds_status library n shows =
    finds_as (λ S. status_at (cells library S (rule_cell n))) (λ S. (rule_state S n).status) (λ S ordered. status-cells library S n)
    (finds_part status_at (finds_cell library (rule_cell n) shows))

-- ---- objects

-- an operation that fails, with its cause
abbrev refusing : {A : Type 0} → Cause → State → Operated A
refusing c S = record { outcome = Err c; state = S }

pub faithful_refused : {A : Type 0} (c : Cause) {library : Library} {reads : List Read} {writes : Changes} → FaithfulOperation library (refusing {A = A} c) reads writes writes (Err c)
faithful_refused {A} c = record { from = λ base held S ordered is. record { answers = refl; reaches = is; ordered = ordered } }

operation_found : {A X : Type 0} (f : X → State → Operated A) {library : Library} {of : State → X} {reads : List Read} {before after : Changes} {found : X} {outcome : Outcome A}
    → Finds library of reads before found → FaithfulOperation library (f found) reads before after outcome → FaithfulOperation library (λ S. f (of S) S) reads before after outcome
operation_found f finds p = faithful_found (λ o S. (f o S).outcome) (λ o S. (f o S).state) finds p

pub faithful_create_exists : (class : ℕ) (key : ℤ) (new old : Row) {library : Library} {reads : List Read} {writes : Changes}
    → Finds library (λ S. find_object S.objects class key) reads writes (Some old) → FaithfulOperation library (create_object class key new) reads writes writes (Err exists)
faithful_create_exists class key new old finds = operation_found (λ found. create_where found class key new) finds (faithful_refused exists)

pub faithful_create : (class : ℕ) (key : ℤ) (new : Row) {library : Library} {reads : List Read} {before after : Changes}
    → Finds library (λ S. find_object S.objects class key) reads before None → after ≡ with_change before (object_cell class key) (Some (Some (row_value new)))
    → FaithfulOperation library (create_object class key new) reads before after (Ok (created class key new))
faithful_create class key new {library} {reads} {before} {after} finds writes = operation_found (λ found. create_where found class key new) finds (record {
  from = λ base held S ordered is. record {
    answers = refl;
    reaches = cells_changed library S (with_objects S (write_object S.objects class key new)) (object_cell class key) (Some (row_value new)) base before
        after (write_changes library S class key new) writes is;
    ordered = write_ordered library S class key new ordered;
  };
})

pub faithful_update_missing : (class : ℕ) (key : ℤ) (given : Row) {library : Library} {reads : List Read} {writes : Changes}
    → Finds library (λ S. find_object S.objects class key) reads writes None → FaithfulOperation library (update_object class key given) reads writes writes (Err missing)
faithful_update_missing class key given finds = operation_found (λ found. update_where found class key given) finds (faithful_refused missing)

pub faithful_update : (class : ℕ) (key : ℤ) (given old : Row) {library : Library} {reads : List Read} {before after : Changes}
    → Finds library (λ S. find_object S.objects class key) reads before (Some old) → after ≡ with_change before (object_cell class key) (Some (Some (row_value (changed_row given old))))
    → FaithfulOperation library (update_object class key given) reads before after (Ok (updated class key old (changed_row given old)))
faithful_update class key given old {library} {reads} {before} {after} finds writes = operation_found (λ found. update_where found class key given) finds (record {
  from = λ base held S ordered is. record {
    answers = refl;
    reaches = cells_changed library S (with_objects S (write_object S.objects class key (changed_row given old))) (object_cell class key)
        (Some (row_value (changed_row given old))) base before after (write_changes library S class key (changed_row given old)) writes is;
    ordered = write_ordered library S class key (changed_row given old) ordered;
  };
})

pub faithful_delete_missing : (class : ℕ) (key : ℤ) {library : Library} {reads : List Read} {writes : Changes}
    → Finds library (λ S. find_object S.objects class key) reads writes None → FaithfulOperation library (delete_object class key) reads writes writes (Err missing)
faithful_delete_missing class key finds = operation_found (λ found. delete_where found class key) finds (faithful_refused missing)

pub faithful_delete : (class : ℕ) (key : ℤ) (old : Row) {library : Library} {reads : List Read} {before after : Changes}
    → Finds library (λ S. find_object S.objects class key) reads before (Some old) → after ≡ with_change before (object_cell class key) (Some None)
    → FaithfulOperation library (delete_object class key) reads before after (Ok (deleted class key old))
faithful_delete class key old {library} {reads} {before} {after} finds writes = operation_found (λ found. delete_where found class key) finds (record {
  from = λ base held S ordered is. record {
    answers = refl;
    reaches = cells_changed library S (with_objects S (remove_object S.objects class key)) (object_cell class key) None base before after (remove_changes library S class key ordered) writes is;
    ordered = remove_ordered library S class key ordered;
  };
})

-- ---- the statements on objects

-- an operation, followed by its event
abbrev perform : Outcome Primitive → Level → Work
perform (Err c) level S = aborts c S
perform (Ok p) level S = then_do (with_items (operation_items p) S) (signal_in level p)

abbrev performed : Level → Operated Primitive → Course
performed level o = perform o.outcome level o.state

created_as : (level : Level) (class : ℕ) (key : ℤ) (new : Row) (found : Option Row) (S : State) → created_if_absent level class key new found S ≡ performed level (create_where found class key new S)
created_as level class key new None S = refl
created_as level class key new (Some old) S = refl

updated_as : (level : Level) (class : ℕ) (key : ℤ) (given : Row) (found : Option Row) (S : State)
    → updated_if_present level class key given found S ≡ performed level (update_where found class key given S)
updated_as level class key given None S = refl
updated_as level class key given (Some old) S = refl

deleted_as : (level : Level) (class : ℕ) (key : ℤ) (found : Option Row) (S : State) → deleted_if_present level class key found S ≡ performed level (delete_where found class key S)
deleted_as level class key None S = refl
deleted_as level class key (Some old) S = refl

module _ (level : Level) (run : State → Operated Primitive) (work : Work) (same : (S : State) → work S ≡ performed level (run S)) {library : Library} where
  -- an operation that fails aborts
  refused : {reads : List Read} {before after : Changes} {c : Cause} → FaithfulOperation library run reads before after (Err c) → FaithfulWork library work reads before after (ended (abort_by c))
  refused {reads} {before} {after} {c} p = record {
    from = λ base held S ordered is.
        let made = p.from base held S ordered is in
        subst (λ (x : Course). LeadsTo library (answer_of x) x.state (ended (abort_by c)) (over base after)) (sym (same S ∙ ap (λ o. perform o level (run S).state) made.answers))
        (record { answers = refl; reaches = made.reaches; ordered = made.ordered });
  }

  -- an operation that succeeds is followed by the signal of its event
  made : {reads more : List Read} {w0 w1 w2 : Changes} {p : Primitive} {a : Answer} → Grows reads more → FaithfulOperation library run reads w0 w1 (Ok p)
      → FaithfulWork library (signal_in level p) more w1 w2 a
      → FaithfulWork library work more w0 w2 (followed (tells (without_detachments (operation_items p))) a)
  made {reads} {more} {w0} {w1} {w2} {p} {a} grows q h = record {
    from = λ base held S ordered is.
        let first = q.from base (held_before grows base held) S ordered is in
        let items : FaithfulWork library (with_items (operation_items p)) more w1 w1 (tells (without_detachments (operation_items p))) =
        record { from = λ base held S ordered is. record { answers = refl; reaches = is; ordered = ordered } } in
        let then_signal = faithful_then (with_items (operation_items p)) (signal_in level p) refl (Grows-same more) items h in
        subst (λ (x : Course). LeadsTo library (answer_of x) x.state (followed (tells (without_detachments (operation_items p))) a) (over base w2))
        (sym (same S ∙ ap (λ o. perform o level (run S).state) first.answers))
        (then_signal.from base held (run S).state first.ordered first.reaches);
  }

pub faithful_create_refused : (level : Level) (class : ℕ) (key : ℤ) (new : Row) {library : Library} {reads : List Read} {before after : Changes} {c : Cause}
    → FaithfulOperation library (create_object class key new) reads before after (Err c)
    → FaithfulWork library (λ S. created_if_absent level class key new (find_object S.objects class key) S) reads before after (ended (abort_by c))
faithful_create_refused level class key new p =
    refused level (create_object class key new) (λ S. created_if_absent level class key new (find_object S.objects class key) S)
    (λ S. created_as level class key new (find_object S.objects class key) S) p

pub faithful_create_made : (level : Level) (class : ℕ) (key : ℤ) (new : Row) {library : Library} {reads more : List Read} {w0 w1 w2 : Changes} {p : Primitive} {a : Answer} → Grows reads more
    → FaithfulOperation library (create_object class key new) reads w0 w1 (Ok p) → FaithfulWork library (signal_in level p) more w1 w2 a
    → FaithfulWork library (λ S. created_if_absent level class key new (find_object S.objects class key) S) more w0 w2 (followed (tells (without_detachments (operation_items p))) a)
faithful_create_made level class key new grows p h =
    made level (create_object class key new) (λ S. created_if_absent level class key new (find_object S.objects class key) S)
    (λ S. created_as level class key new (find_object S.objects class key) S) grows p h

pub faithful_update_refused : (level : Level) (class : ℕ) (key : ℤ) (given : Row) {library : Library} {reads : List Read} {before after : Changes} {c : Cause}
    → FaithfulOperation library (update_object class key given) reads before after (Err c)
    → FaithfulWork library (λ S. updated_if_present level class key given (find_object S.objects class key) S) reads before after (ended (abort_by c))
faithful_update_refused level class key given p =
    refused level (update_object class key given) (λ S. updated_if_present level class key given (find_object S.objects class key) S)
    (λ S. updated_as level class key given (find_object S.objects class key) S) p

pub faithful_update_made : (level : Level) (class : ℕ) (key : ℤ) (given : Row) {library : Library} {reads more : List Read} {w0 w1 w2 : Changes} {p : Primitive} {a : Answer} → Grows reads more
    → FaithfulOperation library (update_object class key given) reads w0 w1 (Ok p) → FaithfulWork library (signal_in level p) more w1 w2 a
    → FaithfulWork library (λ S. updated_if_present level class key given (find_object S.objects class key) S) more w0 w2 (followed (tells (without_detachments (operation_items p))) a)
faithful_update_made level class key given grows p h =
    made level (update_object class key given) (λ S. updated_if_present level class key given (find_object S.objects class key) S)
    (λ S. updated_as level class key given (find_object S.objects class key) S) grows p h

pub faithful_delete_refused : (level : Level) (class : ℕ) (key : ℤ) {library : Library} {reads : List Read} {before after : Changes} {c : Cause}
    → FaithfulOperation library (delete_object class key) reads before after (Err c)
    → FaithfulWork library (λ S. deleted_if_present level class key (find_object S.objects class key) S) reads before after (ended (abort_by c))
faithful_delete_refused level class key p =
    refused level (delete_object class key) (λ S. deleted_if_present level class key (find_object S.objects class key) S) (λ S. deleted_as level class key (find_object S.objects class key) S) p

pub faithful_delete_made : (level : Level) (class : ℕ) (key : ℤ) {library : Library} {reads more : List Read} {w0 w1 w2 : Changes} {p : Primitive} {a : Answer} → Grows reads more
    → FaithfulOperation library (delete_object class key) reads w0 w1 (Ok p) → FaithfulWork library (signal_in level p) more w1 w2 a
    → FaithfulWork library (λ S. deleted_if_present level class key (find_object S.objects class key) S) more w0 w2 (followed (tells (without_detachments (operation_items p))) a)
faithful_delete_made level class key grows p h =
    made level (delete_object class key) (λ S. deleted_if_present level class key (find_object S.objects class key) S) (λ S. deleted_as level class key (find_object S.objects class key) S) grows p h

-- ---- rules

-- the effect of an operation on a rule depends on its status alone
abbrev by_new_status : Outcome (Option Status) → RuleState → Outcome RuleState
by_new_status (Err c) r = Err c
by_new_status (Ok None) r = Ok r
by_new_status (Ok (Some s)) r = Ok (with_status s)

abbrev in_status : Status → RuleState → RuleState
in_status s r = record { status = s; past = r.past }

by_status : (op : RuleOperation) (s : Status) (r : RuleState) → operated_rule op (in_status s r) ≡ by_new_status (new_status op s) (in_status s r)
by_status install absent r = refl
by_status install enabled r = refl
by_status install disabled r = refl
by_status enable absent r = refl
by_status enable enabled r = refl
by_status enable disabled r = refl
by_status disable absent r = refl
by_status disable enabled r = refl
by_status disable disabled r = refl
by_status remove absent r = refl
by_status remove enabled r = refl
by_status remove disabled r = refl

rule_outcome : (op : RuleOperation) (r : RuleState) (o : Outcome (Option Status)) → new_status op r.status ≡ o → operated_rule op r ≡ by_new_status o r
rule_outcome op r o is = by_status op r.status r ∙ ap (λ x. by_new_status x r) is

module _ (op : RuleOperation) (n : ℕ) {library : Library} {reads : List Read} where
  pub faithful_rule_refused : {writes : Changes} {s : Status} {c : Cause} → Finds library (λ S. (rule_state S n).status) reads writes s → new_status op s ≡ Err c
      → FaithfulOperation library (set_rule op n) reads writes writes (Err c)
  faithful_rule_refused {writes} {s} {c} finds is = record {
    from = λ base held S ordered at.
        let here : new_status op (rule_state S n).status ≡ Err c = ap (new_status op) (finds.from base held S ordered at) ∙ is in
        subst (λ o. LeadsTo library (set_where o n S).outcome (set_where o n S).state (Err c) (over base writes)) (sym (rule_outcome op (rule_state S n) (Err c) here))
        (record { answers = refl; reaches = at; ordered = ordered });
  }

  -- where it changes nothing
  pub faithful_rule_kept : {writes : Changes} {s : Status} → Finds library (λ S. (rule_state S n).status) reads writes s → new_status op s ≡ Ok None
      → FaithfulOperation library (set_rule op n) reads writes writes (Ok tt)
  faithful_rule_kept {writes} {s} finds is = record {
    from = λ base held S ordered at.
        let here : new_status op (rule_state S n).status ≡ Ok None = ap (new_status op) (finds.from base held S ordered at) ∙ is in
        subst (λ o. LeadsTo library (set_where o n S).outcome (set_where o n S).state (Ok tt) (over base writes)) (sym (rule_outcome op (rule_state S n) (Ok None) here))
        (subst (λ T. LeadsTo library (set_where (Ok (rule_state S n)) n S).outcome T (Ok tt) (over base writes)) (sym (with_rule-same S n))
        (record { answers = refl; reaches = at; ordered = ordered }));
  }

  changed_to : {before after : Changes} {s : Status} (t : Status) → Finds library (λ S. (rule_state S n).status) reads before s → new_status op s ≡ Ok (Some t)
      → ((base : Cells) → (S : State) → IsOrdered library S → cells library S ≡ over base before → cells library (with_rule S n (with_status t)) ≡ over base after)
      → FaithfulOperation library (set_rule op n) reads before after (Ok tt)
  changed_to {before} {after} {s} t finds is changes = record {
    from = λ base held S ordered at.
        let here : new_status op (rule_state S n).status ≡ Ok (Some t) = ap (new_status op) (finds.from base held S ordered at) ∙ is in
        subst (λ o. LeadsTo library (set_where o n S).outcome (set_where o n S).state (Ok tt) (over base after)) (sym (rule_outcome op (rule_state S n) (Ok (Some t)) here))
        (record { answers = refl; reaches = changes base S ordered at; ordered = rule_ordered library S n (with_status t) ordered });
  }

  -- a new status, and a detector with an empty past if the event looks back and the rule becomes enabled
  pub faithful_rule_changed : {before after : Changes} {s : Status} (t : Status) → n < length library.rules → Finds library (λ S. (rule_state S n).status) reads before s
      → new_status op s ≡ Ok (Some t)
      → after ≡ with_change (with_change before (rule_cell n) (Some (status_in t))) (detector_cell n) (Some (knowledge_in (rule_at library n) t (with_status t)))
      → FaithfulOperation library (set_rule op n) reads before after (Ok tt)
  faithful_rule_changed {before} {after} t below finds is writes =
      changed_to t finds is (λ base S ordered at. rule_changed library S n (with_status t) base before after (omega (arith, below, ordered.each_rule)) writes at)

  -- a rule whose event doesn't look back has no detector
  pub faithful_pure_rule_changed : {before after : Changes} {s : Status} (t : Status) → n < length library.rules → is_pure (rule_at library n).event ≡ true
      → Finds library (λ S. (rule_state S n).status) reads before s → new_status op s ≡ Ok (Some t) → after ≡ with_change before (rule_cell n) (Some (status_in t))
      → FaithfulOperation library (set_rule op n) reads before after (Ok tt)
  faithful_pure_rule_changed {before} {after} t below pure finds is writes =
      changed_to t finds is (λ base S ordered at. cells_changed library S (with_rule S n (with_status t)) (rule_cell n) (status_in t) base before after
      (pure_rule_changes library S n (with_status t) (omega (arith, below, ordered.each_rule)) pure) writes at)

  -- a rule that the library lacks has no state to change
  pub faithful_rule_unknown : {writes : Changes} {s : Status} (t : Status) → length library.rules ≤ n → Finds library (λ S. (rule_state S n).status) reads writes s → new_status op s ≡ Ok (Some t)
      → FaithfulOperation library (set_rule op n) reads writes writes (Ok tt)
  faithful_rule_unknown {writes} t past finds is =
      changed_to t finds is (λ base S ordered at.
      let outside : length S.rules ≤ n = omega (arith, past, ordered.each_rule) in
      ap (λ rs. cells library (record { objects = S.objects; rules = rs })) (set_past S.rules n (with_status t) outside) ∙ at)

-- no state has a rule that the library lacks
pub finds_unknown : (n : ℕ) {library : Library} {reads : List Read} {writes : Changes} → length library.rules ≤ n → Finds library (λ S. (rule_state S n).status) reads writes absent
finds_unknown n past = record {
  from = λ base held S ordered at. ap (λ (r : RuleState). r.status) (get_or_past S.rules n (with_status absent) (omega (arith, past, ordered.each_rule)));
}

-- ---- the statements on rules

set_as : (op : RuleOperation) (n : ℕ) (o : Outcome RuleState) (S : State)
    → with_value o (λ r S'. with_items (operation (rule_op op n) no_items) (with_rule S' n r)) S ≡ with_value (set_where o n S).outcome
    (λ _. with_items (operation (rule_op op n) no_items)) (set_where o n S).state
set_as op n (Err c) S = refl
set_as op n (Ok r) S = refl

-- a statement on a rule
abbrev pub rule_statement : RuleOperation → ℕ → Work
rule_statement op n S = with_value (operated_rule op (rule_state S n)) (λ r S'. with_items (operation (rule_op op n) no_items) (with_rule S' n r)) S

pub faithful_rule_statement_refused : (op : RuleOperation) (n : ℕ) {library : Library} {reads : List Read} {before after : Changes} {c : Cause}
    → FaithfulOperation library (set_rule op n) reads before after (Err c) → FaithfulWork library (rule_statement op n) reads before after (ended (abort_by c))
faithful_rule_statement_refused op n {library} {reads} {before} {after} {c} p = record {
  from = λ base held S ordered is.
      let set = p.from base held S ordered is in
      subst (λ (x : Course). LeadsTo library (answer_of x) x.state (ended (abort_by c)) (over base after))
      (sym (set_as op n (operated_rule op (rule_state S n)) S ∙ ap (λ o. with_value o (λ _. with_items (operation (rule_op op n) no_items)) (set_rule op n S).state) set.answers))
      (record { answers = refl; reaches = set.reaches; ordered = set.ordered });
}

pub faithful_rule_statement : (op : RuleOperation) (n : ℕ) {library : Library} {reads : List Read} {before after : Changes}
    → FaithfulOperation library (set_rule op n) reads before after (Ok tt) → FaithfulWork library (rule_statement op n) reads before after (tells (operation (rule_op op n) no_items))
faithful_rule_statement op n {library} {reads} {before} {after} p = record {
  from = λ base held S ordered is.
      let set = p.from base held S ordered is in
      subst (λ (x : Course). LeadsTo library (answer_of x) x.state (tells (operation (rule_op op n) no_items)) (over base after))
      (sym (set_as op n (operated_rule op (rule_state S n)) S ∙ ap (λ o. with_value o (λ _. with_items (operation (rule_op op n) no_items)) (set_rule op n S).state) set.answers))
      (record { answers = refl; reaches = set.reaches; ordered = set.ordered });
}

-- the statement `fire`
pub faithful_fire : (level : Level) (n : ℕ) {library : Library} {reads : List Read} {before after : Changes} {s : Status} {a : Answer} → Finds library (λ S. (rule_state S n).status) reads before s
    → FaithfulWork library (start_fired s level n) reads before after a → FaithfulWork library (λ S. start_fired (rule_state S n).status level n S) reads before after a
faithful_fire level n finds p = work_found (λ s. start_fired s level n) finds p

pub faithful_fire_missing : (level : Level) (n : ℕ) {library : Library} {reads : List Read} {writes : Changes} → Finds library (λ S. (rule_state S n).status) reads writes absent
    → FaithfulWork library (λ S. start_fired (rule_state S n).status level n S) reads writes writes (ended (abort_by missing))
faithful_fire_missing level n finds = work_found (λ s. start_fired s level n) finds (faithful_ends (abort_by missing))
