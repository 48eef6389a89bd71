-- A snapshot of a fit state leaves a state that is like it, if each enabled rule's event forgets.
use native.Mathlib.Omega.{arith}
use Rattle.std.proofs.Common.{◌≡◌, refl, sym, ap, ◌∙◌, subst, ℕ, zero, suc, ℤ, Bool, true, false, ◌||◌, cond, IsTrue, List, [], ◌∷◌, ◌++◌, append_assoc, append-nil, length, map}
use Rattle.std.proofs.Common.{Option, None, Some, option_map}
use Rattle.std.specs.Prelude.{Ok, Err, bytes_eq, flat_map, replicate, if◌then◌else◌}
use Rattle.std.specs.Ordering.{is_eq, match_ordering, ordering_reverse}
use Rattle.std.specs.Option.{option_or}
use Rattle.std.specs.List.{filter_map, slice_index_or, list_all, AllByRecursion, IsDistinct, cons_option}
use Rattle.std.specs.List.Sorted.{IsStrictlySortedBy}
use Rattle.std.specs.Map.{lookup}
use Rattle.std.specs.declared.cmp.Ordering.TheVariants.{Less, Greater}
use Rattle.std.proofs.lemmas.Bool.{and_parts}
use Rattle.std.proofs.lemmas.Slice.Eq.{bytes_eq-Decides}
use Rattle.std.proofs.lemmas.List.{length-map, length-append}
use Rattle.std.proofs.Math.ListN.{get_or-map}
use Rattle.std.proofs.Math.Seq.{set-append_seam, get_or-append_seam}
use Rattle.hp_model.specs.Values.{Name, Value, integer, Row, KeyedRow, Field, ClassDef, Outcome, ◌>>=◌, or_cause, wrong_kind, is_kind, kind_of, value_fits, row_fits, fits_64}
use Rattle.hp_model.specs.Occurrences.{Primitive, created, commit_reached, moment_reached, History, primitive_occurrence}
use Rattle.hp_model.specs.Expressions.{Environment, constant}
use Rattle.hp_model.specs.Events.{Event, pattern_event, or_event, seq_event, closure_event, occurrence_of, is_pure, mentions}
use Rattle.hp_model.specs.Rules.{Rule, no_rule, Library, rule_at, class_at, no_class, create, on_rule, install, disable, RuleOperation, Body, ◌then◌}
use Rattle.hp_model.specs.State.{ObjectName, compare_names, Objects, State, RuleState, Status, absent, enabled, disabled, with_status, rule_state, with_rule, extended}
use Rattle.hp_model.specs.State.{extended_rule, find_object, write_object, initial_state, object_fits}
use Rattle.hp_model.specs.Scopes.{field_names}
use Rattle.hp_model.specs.Tree.{Task, Items, no_items, operation, append, create_op, rule_op}
use Rattle.hp_model.specs.Transactions.{done, Course, Work, joined, then_do, with_value, with_items, closed}
use Rattle.hp_model.specs.Firing.{Level, start, task_if, triggered_by, triggered_from, triggered, signal_in, Context, operated, created_if_absent, assigned, of_kind, made_row}
use Rattle.hp_model.specs.Firing.{keyed_row, operated_rule, run_statement, run_body, level_at, fire_task}
use Rattle.hp_model.specs.Cascade.{Unit, transaction, moment, now_in, no_context, unit_work, most_rounds, rounds, top_course, alone, due, cascade, run_unit, run_units}
use Rattle.hp_model.specs.Snapshots.{SameFuture, RulesAlike, StatesAlike, assignments_of, creations, restored, restorations, snapshot, forgets, SnapshotsAreAlike}
use Rattle.hp_model.proofs.Ordered.{names_total}
use Rattle.hp_model.proofs.BridgesSignals.{rule_state-extended}

-- ---- events that forget

or_parts : (a b : Bool) → (a || b) ≡ false → (a ≡ false) × (b ≡ false)
or_parts true b e = cc
or_parts false b e = (refl, e)

-- only the newest occurrence matters
by_newest : (event : Event) (p : Primitive) (h k : History) → is_pure event ≡ true → occurrence_of event (p ∷ h) ≡ occurrence_of event (p ∷ k)
by_newest (pattern_event pattern) p h k pure = refl
by_newest (or_event a b) p h k pure =
    let both = and_parts (is_pure a) (is_pure b) pure in
    (λ i. option_or (by_newest a p h k both.0 i) (by_newest b p h k both.1 i))
by_newest (seq_event a b) p h k pure = cc
by_newest (closure_event a t) p h k pure = cc

same_future : (event : Event) (past other : History) → is_pure event ≡ true → SameFuture event past other
same_future event past other pure p [] = by_newest event p past other pure
same_future event past other pure p (q ∷ later) = by_newest event q (later ++ p ∷ past) (later ++ p ∷ other) pure

-- what the event doesn't mention doesn't make it occur
not_mentioned : (event : Event) (p : Primitive) (h : History) → is_pure event ≡ true → mentions event p ≡ false → occurrence_of event (p ∷ h) ≡ None
not_mentioned (pattern_event pattern) p h pure apart = ap (λ b. if b then Some (primitive_occurrence p) else None) apart
not_mentioned (or_event a b) p h pure apart =
    let both = and_parts (is_pure a) (is_pure b) pure in
    let parts = or_parts (mentions a p) (mentions b p) apart in
    ap (λ o. option_or o (occurrence_of b (p ∷ h))) (not_mentioned a p h both.0 parts.0) ∙ not_mentioned b p h both.1 parts.1
not_mentioned (seq_event a b) p h pure apart = cc
not_mentioned (closure_event a t) p h pure apart = cc

-- ---- objects in order

abbrev names : Objects → List ObjectName
names objects = map (λ (o : ObjectName × Row). o.0) objects

abbrev Below : ObjectName → List ObjectName → Type 0
Below name ns = AllByRecursion (λ n. compare_names n name ≡ Less) ns

above_middle : (name : ObjectName) (os : Objects) (o : ObjectName × Row) (rest : Objects) → AllByRecursion (λ n. compare_names name n ≡ Less) (names (os ++ o ∷ rest)) → compare_names name o.0 ≡ Less
above_middle name [] o rest above = above.0
above_middle name (e ∷ es) o rest above = above_middle name es o rest above.1

below_middle : (os : Objects) (o : ObjectName × Row) (rest : Objects) → IsStrictlySortedBy compare_names (names (os ++ o ∷ rest)) → Below o.0 (names os)
unfolding IsStrictlySortedBy
below_middle [] o rest rise = tt
below_middle (e ∷ es) o rest rise = (above_middle e.0 es o rest rise.0, below_middle es o rest rise.1)

is_greater : (a b : ObjectName) → compare_names a b ≡ Less → compare_names b a ≡ Greater
is_greater a b less = names_total.antisymm b a ∙ ap ordering_reverse less

not_found : (os : Objects) (o : ObjectName × Row) → Below o.0 (names os) → find_object os o.0.class o.0.key ≡ None
not_found [] o below = refl
not_found (e ∷ es) o below = ap (λ r. cond (is_eq r) (Some e.1) (find_object es o.0.class o.0.key)) (is_greater e.0 o.0 below.0) ∙ not_found es o below.1

written_last : (os : Objects) (o : ObjectName × Row) → Below o.0 (names os) → write_object os o.0.class o.0.key o.1 ≡ os ++ o ∷ []
written_last [] o below = refl
written_last (e ∷ es) o below =
    ap (λ r. match_ordering r (o ∷ e ∷ es) ((e.0, o.1) ∷ es) (e ∷ write_object es o.0.class o.0.key o.1)) (is_greater e.0 o.0 below.0)
    ∙ ap (λ l. e ∷ l) (written_last es o below.1)

-- ---- a fit row is made from its own values

abbrev row_names : Row → List Name
row_names row = map (λ (v : Name × Value). v.0) row

apart_back : (x y : Name) → bytes_eq x y ≡ false → bytes_eq y x ≡ false
apart_back x y apart = by (bytes_eq y x) refl
  where
    by : (b : Bool) → bytes_eq y x ≡ b → bytes_eq y x ≡ false
    by false is = is
    by true is = let same = (bytes_eq-Decides y x).0 is in let again : bytes_eq x y ≡ true = (bytes_eq-Decides x y).1 (sym same) in cc

-- each value is found by its name
abbrev Looked : Row → Row → Type 0
Looked given row = AllByRecursion (λ (v : Name × Value). lookup (bytes_eq v.0) given ≡ Some v.1) row

looked_later : (v : Name × Value) (vs row : Row) → AllByRecursion (λ y. bytes_eq v.0 y ≡ false) (row_names row) → Looked vs row → Looked (v ∷ vs) row
looked_later v vs [] apart looked = tt
looked_later v vs (w ∷ ws) apart looked =
    (ap (λ b. cond b (Some v.1) (lookup (bytes_eq w.0) vs)) (apart_back v.0 w.0 apart.0) ∙ looked.0, looked_later v vs ws apart.1 looked.1)

each_looked : (row : Row) → IsDistinct bytes_eq (row_names row) → Looked row row
unfolding IsDistinct
each_looked [] distinct = tt
each_looked (v ∷ vs) distinct =
    (ap (λ b. cond b (Some v.1) (lookup (bytes_eq v.0) vs)) ((bytes_eq-Decides v.0 v.0).1 refl), looked_later v vs vs distinct.0 (each_looked vs distinct.1))

row_named : (fields : List Field) (row : Row) → row_fits fields row ≡ true → field_names fields ≡ row_names row
row_named [] [] fit = refl
row_named [] (v ∷ vs) fit = cc
row_named (f ∷ fs) [] fit = cc
row_named (f ∷ fs) (v ∷ vs) fit =
    let parts = and_parts (bytes_eq f.name v.0) _ fit in
    let kinds = and_parts (is_kind f.kind (kind_of v.1)) _ parts.1 in
    let values = and_parts (value_fits v.1) _ kinds.1 in
    (λ i. (bytes_eq-Decides f.name v.0).0 parts.0 i ∷ row_named fs vs values.1 i)

made_whole : (fields : List Field) (given row : Row) → row_fits fields row ≡ true → Looked given row → made_row fields given ≡ Ok row
made_whole [] given [] fit looked = refl
made_whole [] given (v ∷ vs) fit looked = cc
made_whole (f ∷ fs) given [] fit looked = cc
made_whole (f ∷ fs) given (v ∷ vs) fit looked =
    let parts = and_parts (bytes_eq f.name v.0) _ fit in
    let kinds = and_parts (is_kind f.kind (kind_of v.1)) _ parts.1 in
    let values = and_parts (value_fits v.1) _ kinds.1 in
    let same = (bytes_eq-Decides f.name v.0).0 parts.0 in
    ap (λ o. or_cause o wrong_kind >>= λ x. of_kind f.kind x >>= λ w. made_row fs given >>= λ rest. Ok ((f.name, w) ∷ rest)) (ap (λ x. lookup (bytes_eq x) given) same ∙ looked.0)
    ∙ ap (λ b. (if b then Ok v.1 else Err wrong_kind) >>= λ w. made_row fs given >>= λ rest. Ok ((f.name, w) ∷ rest)) kinds.0
    ∙ ap (λ o. o >>= λ rest. Ok ((f.name, v.1) ∷ rest)) (made_whole fs given vs values.1 looked.1)
    ∙ ap (λ x. Ok ((x, v.1) ∷ vs)) same

assigned_same : (env : Environment) (row : Row) → assigned env (assignments_of row) ≡ Ok row
assigned_same env [] = refl
assigned_same env (v ∷ vs) = ap (λ o. o >>= λ rest. Ok (v ∷ rest)) (assigned_same env vs)

-- the row that a creation of the snapshot makes
keyed_same : (env : Environment) (key : ℤ) (fields : List Field) (row : Row) → IsDistinct bytes_eq (field_names fields) → row_fits fields row ≡ true
    → keyed_row env (constant (integer key)) (assignments_of row) (made_row fields) ≡ Ok (record { key = key; row = row })
keyed_same env key fields row distinct fit =
    ap (λ o. o >>= λ given. made_row fields given >>= λ r. Ok (record { key = key; row = r })) (assigned_same env row)
    ∙ ap (λ o. o >>= λ r. Ok (record { key = key; row = r }))
    (made_whole fields row row fit (each_looked row (subst (IsDistinct bytes_eq) (row_named fields row fit) distinct)))

-- ---- courses in which no rule fires

abbrev quiet : Items → State → Course
quiet items S = record { state = S; queued = []; detached = []; items = items; end = done }

record Quietly (c : Course) (S : State) : Type 0 where
  items : Items
  is : c ≡ quiet items S

then_quietly : (c : Course) (next : Work) (S T : State) → Quietly c S → Quietly (next S) T → Quietly (then_do c next) T
then_quietly c next S T first second = record {
  items = append first.items second.items;
  is = ap (λ (d : Course). then_do d next) first.is ∙ ap (joined (quiet first.items S)) second.is;
}

module _ (library : Library) where
  silent : (level : Level) (p : Primitive) (S : State) → triggered level (extended p S) ≡ [] → Quietly (signal_in level p S) (extended p S)
  silent level p S none = record { items = no_items; is = ap (λ ts. start level.below ts (extended p S)) none }

  -- ---- units

  rounds_quiet : (n : ℕ) (items : Items) (S : State) → rounds n (fire_task library) (quiet items S) ≡ quiet items S
  rounds_quiet zero items S = refl
  rounds_quiet (suc n) items S = rounds_quiet n items S

  nothing_due : (n : ℕ) (S : State) → (cascade n library [] S).state ≡ S
  nothing_due zero S = refl
  nothing_due (suc n) S = refl

  quiet_unit : (u : Unit) (S T : State) → Quietly (then_do (unit_work library u S) (signal_in (level_at library (now_in u) 0) commit_reached)) T → (run_unit library u S).state ≡ T
  quiet_unit u S T quietly =
      let course : top_course library (now_in u) 0 (unit_work library u) S ≡ quiet quietly.items T = ap (rounds (most_rounds library) (fire_task library)) quietly.is
      ∙ rounds_quiet (most_rounds library) quietly.items T in
      ap (λ (c : Course). (let g = alone None (closed S c) in (cascade (most_rounds library) library (due g.detached) g.state).state)) course
      ∙ nothing_due (most_rounds library) T

  -- ---- while no rule is enabled

  abbrev resting : Objects → State
  resting objects = record { objects = objects; rules = replicate (length library.rules) (with_status absent) }

  still : (p : Primitive) (n : ℕ) → map (extended_rule p) (replicate n (with_status absent)) ≡ replicate n (with_status absent)
  still p zero = refl
  still p (suc n) = ap (λ rs. with_status absent ∷ rs) (still p n)

  no_task : (level : Level) (k n : ℕ) (rules : List Rule) → filter_map (λ (t : Option Task). t) (triggered_from level k rules (replicate n (with_status absent))) ≡ []
  no_task level k n [] = refl
  no_task level k zero (rule ∷ rules) = refl
  no_task level k (suc n) (rule ∷ rules) = no_task level (suc k) n rules

  at_rest : (level : Level) → level.library ≡ library → (p : Primitive) (objects : Objects) → Quietly (signal_in level p (resting objects)) (resting objects)
  at_rest level is p objects =
      let same : extended p (resting objects) ≡ resting objects = ap (λ rs. record { objects = objects; rules = rs }) (still p (length library.rules)) in
      subst (Quietly (signal_in level p (resting objects))) same
      (silent level p (resting objects) (ap (triggered level) same ∙ no_task level 0 (length library.rules) level.library.rules))

  moment_passes : (t : ℕ) (objects : Objects) → (run_unit library (moment t) (resting objects)).state ≡ resting objects
  moment_passes t objects =
      quiet_unit (moment t) (resting objects) (resting objects)
      (then_quietly (signal_in (level_at library t 0) (moment_reached t) (resting objects)) (signal_in (level_at library t 0) commit_reached) (resting objects) (resting objects)
      (at_rest (level_at library t 0) refl (moment_reached t) objects) (at_rest (level_at library t 0) refl commit_reached objects))

  -- ---- objects are created

  abbrev Fits : ObjectName × Row → Type 0
  Fits o = (IsDistinct bytes_eq (field_names (class_at library o.0.class).fields)) × (row_fits (class_at library o.0.class).fields o.1 ≡ true)

  module _ (now : ℕ) where
    abbrev level : Level
    level = level_at library now 0

    abbrev context : Context
    context = no_context now

    one_created : (os : Objects) (o : ObjectName × Row) → Below o.0 (names os) → Fits o
        → Quietly (run_statement (create o.0.class (constant (integer o.0.key)) (assignments_of o.1)) level context (resting os)) (resting (os ++ o ∷ []))
    one_created os o below fits =
        subst (λ (out : Outcome KeyedRow). Quietly (with_value out (λ r. created_if_absent level o.0.class r.key r.row (find_object os o.0.class r.key)) (resting os)) (resting (os ++ o ∷ [])))
        (sym (keyed_same context.environment o.0.key (class_at library o.0.class).fields o.1 fits.0 fits.1))
        (subst (λ found. Quietly (created_if_absent level o.0.class o.0.key o.1 found (resting os)) (resting (os ++ o ∷ []))) (sym (not_found os o below))
        (subst (λ after. Quietly (operated level (create_op o.0.class o.0.key o.1) (created o.0.class o.0.key o.1) after (resting os)) (resting (os ++ o ∷ []))) (sym (written_last os o below))
        (then_quietly (with_items (operation (create_op o.0.class o.0.key o.1) no_items) (resting (os ++ o ∷ []))) (signal_in level (created o.0.class o.0.key o.1))
        (resting (os ++ o ∷ [])) (resting (os ++ o ∷ []))
        (record { items = operation (create_op o.0.class o.0.key o.1) no_items; is = refl }) (at_rest level refl (created o.0.class o.0.key o.1) (os ++ o ∷ [])))))

    all_created : (os part rest : Objects) → IsStrictlySortedBy compare_names (names (os ++ (part ++ rest))) → AllByRecursion Fits part
        → Quietly (run_body (creations part) level context (resting os)) (resting (os ++ part))
    all_created os [] rest rise fits = record { items = no_items; is = ap (λ objects. quiet no_items (resting objects)) (sym (append-nil os)) }
    all_created os (o ∷ part) rest rise fits =
        let shifted = append_assoc os (o ∷ []) (part ++ rest) in
        let more = all_created (os ++ o ∷ []) part rest (subst (λ all. IsStrictlySortedBy compare_names (names all)) (sym shifted) rise) fits.1 in
        then_quietly (run_statement (create o.0.class (constant (integer o.0.key)) (assignments_of o.1)) level context (resting os)) (run_body (creations part) level context)
        (resting (os ++ o ∷ [])) (resting (os ++ o ∷ part)) (one_created os o (below_middle os o (part ++ rest) rise) fits.0)
        (subst (λ all. Quietly (run_body (creations part) level context (resting (os ++ o ∷ []))) (resting all)) (append_assoc os (o ∷ []) part) more)

    part_created : (os part rest : Objects) → IsStrictlySortedBy compare_names (names (os ++ (part ++ rest))) → AllByRecursion Fits part
        → (run_unit library (transaction now (creations part)) (resting os)).state ≡ resting (os ++ part)
    part_created os part rest rise fits =
        quiet_unit (transaction now (creations part)) (resting os) (resting (os ++ part))
        (then_quietly (run_body (creations part) level context (resting os)) (signal_in level commit_reached) (resting (os ++ part)) (resting (os ++ part))
        (all_created os part rest rise fits) (at_rest level refl commit_reached (os ++ part)))

    -- ---- rules are restored

    abbrev fresh : RuleState → RuleState
    fresh r = with_status r.status

    abbrev partly : Objects → List RuleState → ℕ → State
    partly objects before n = record { objects = objects; rules = before ++ replicate n (with_status absent) }

    abbrev at_seam : Objects → List RuleState → RuleState → List RuleState → State
    at_seam objects before r after = record { objects = objects; rules = before ++ r ∷ after }

    seam_operated : (op : RuleOperation) (objects : Objects) (before after : List RuleState) (r s : RuleState) → operated_rule op r ≡ Ok s
        → Quietly (run_statement (on_rule op (length before)) level context (at_seam objects before r after)) (at_seam objects before s after)
    seam_operated op objects before after r s is = record {
      items = operation (rule_op op (length before)) no_items;
      is = ap (λ (o : Outcome RuleState). with_value o (λ r' S'. with_items (operation (rule_op op (length before)) no_items) (with_rule S' (length before) r')) (at_seam objects before r after))
          (ap (operated_rule op) (get_or-append_seam before r after (with_status absent)) ∙ is)
          ∙ ap (λ rs. quiet (operation (rule_op op (length before)) no_items) (record { objects = objects; rules = rs })) (set-append_seam before r after s);
    }

    one_restored : (s : Status) (objects : Objects) (before : List RuleState) (n : ℕ) (rest : Body) (T : State)
        → Quietly (run_body rest level context (at_seam objects before (with_status s) (replicate n (with_status absent)))) T
        → Quietly (run_body (restored (length before) s rest) level context (partly objects before (suc n))) T
    one_restored absent objects before n rest T quietly = quietly
    one_restored enabled objects before n rest T quietly =
        then_quietly (run_statement (on_rule install (length before)) level context (partly objects before (suc n))) (run_body rest level context)
        (at_seam objects before (with_status enabled) (replicate n (with_status absent))) T
        (seam_operated install objects before (replicate n (with_status absent)) (with_status absent) (with_status enabled) refl) quietly
    one_restored disabled objects before n rest T quietly =
        then_quietly (run_statement (on_rule install (length before)) level context (partly objects before (suc n))) (run_body (on_rule disable (length before) then rest) level context)
        (at_seam objects before (with_status enabled) (replicate n (with_status absent))) T
        (seam_operated install objects before (replicate n (with_status absent)) (with_status absent) (with_status enabled) refl)
        (then_quietly (run_statement (on_rule disable (length before)) level context (at_seam objects before (with_status enabled) (replicate n (with_status absent)))) (run_body rest level context)
        (at_seam objects before (with_status disabled) (replicate n (with_status absent))) T
        (seam_operated disable objects before (replicate n (with_status absent)) (with_status enabled) (with_status disabled) refl) quietly)

    all_restored : (objects : Objects) (before rs : List RuleState) (n : ℕ) → n ≡ length before
        → Quietly (run_body (restorations n rs) level context (partly objects before (length rs))) (record { objects = objects; rules = before ++ map fresh rs })
    all_restored objects before [] n is = record { items = no_items; is = refl }
    all_restored objects before (r ∷ rs) n is =
        let longer : suc n ≡ length (before ++ fresh r ∷ []) = ap suc is ∙ sym (length-append before (fresh r ∷ []) ∙ omega arith) in
        let more = all_restored objects (before ++ fresh r ∷ []) rs (suc n) longer in
        subst (λ k. Quietly (run_body (restored k r.status (restorations (suc n) rs)) level context (partly objects before (suc (length rs))))
        (record { objects = objects; rules = before ++ fresh r ∷ map fresh rs })) (sym is)
        (one_restored r.status objects before (length rs) (restorations (suc n) rs) (record { objects = objects; rules = before ++ fresh r ∷ map fresh rs })
        (subst (λ all. Quietly (run_body (restorations (suc n) rs) level context (at_seam objects before (fresh r) (replicate (length rs) (with_status absent))))
        (record { objects = objects; rules = all }))
        (append_assoc before (fresh r ∷ []) (map fresh rs))
        (subst (λ all. Quietly (run_body (restorations (suc n) rs) level context (record { objects = objects; rules = all }))
        (record { objects = objects; rules = (before ++ fresh r ∷ []) ++ map fresh rs }))
        (append_assoc before (fresh r ∷ []) (replicate (length rs) (with_status absent))) more)))

    -- ---- no rule fires at the commit

    task_passes : (n : ℕ) (rule : Rule) (s : Status) → (s ≡ enabled → forgets rule.event)
        → (let r = extended_rule commit_reached (with_status s) in task_if r.status level n rule r.past) ≡ None
    task_passes n rule absent h = refl
    task_passes n rule enabled h = ap (option_map (triggered_by level n rule)) (not_mentioned rule.event commit_reached [] (h refl).0 (h refl).1)
    task_passes n rule disabled h = refl

    tasks_pass : (n : ℕ) (rules : List Rule) (rs : List RuleState)
        → ((k : ℕ) → (slice_index_or rs k (with_status absent)).status ≡ enabled → forgets (slice_index_or rules k no_rule).event)
        → filter_map (λ (t : Option Task). t) (triggered_from level n rules (map (extended_rule commit_reached) (map fresh rs))) ≡ []
    tasks_pass n [] rs h = refl
    tasks_pass n (rule ∷ rules) [] h = refl
    tasks_pass n (rule ∷ rules) (r ∷ rs) h =
        ap (λ o. cons_option o (filter_map (λ (t : Option Task). t) (triggered_from level (suc n) rules (map (extended_rule commit_reached) (map fresh rs))))) (task_passes n rule r.status (h 0))
        ∙ tasks_pass (suc n) rules rs (λ k. h (suc k))

    abbrev left : Objects → List RuleState → State
    left objects rs = extended commit_reached (record { objects = objects; rules = map fresh rs })

    rules_restored : (objects : Objects) (rs : List RuleState) → length rs ≡ length library.rules
        → ((k : ℕ) → (slice_index_or rs k (with_status absent)).status ≡ enabled → forgets (rule_at library k).event)
        → (run_unit library (transaction now (restorations 0 rs)) (resting objects)).state ≡ left objects rs
    rules_restored objects rs long h =
        quiet_unit (transaction now (restorations 0 rs)) (resting objects) (left objects rs)
        (then_quietly (run_body (restorations 0 rs) level context (resting objects)) (signal_in level commit_reached) (record { objects = objects; rules = map fresh rs }) (left objects rs)
        (subst (λ n. Quietly (run_body (restorations 0 rs) level context (record { objects = objects; rules = replicate n (with_status absent) }))
        (record { objects = objects; rules = map fresh rs })) long
        (all_restored objects [] rs 0 refl))
        (silent level commit_reached (record { objects = objects; rules = map fresh rs }) (tasks_pass 0 library.rules rs h)))

    -- ---- the whole snapshot

    distinct_at : (classes : List ClassDef) (n : ℕ) → AllByRecursion (λ (c : ClassDef). IsDistinct bytes_eq (field_names c.fields)) classes
        → IsDistinct bytes_eq (field_names (slice_index_or classes n no_class).fields)
    unfolding IsDistinct
    distinct_at [] n h = tt
    distinct_at (c ∷ cs) zero h = h.0
    distinct_at (c ∷ cs) (suc n) h = distinct_at cs n h.1

    fit_rows : (objects : Objects) → AllByRecursion (λ (c : ClassDef). IsDistinct bytes_eq (field_names c.fields)) library.classes
        → IsTrue (list_all (λ (o : ObjectName × Row). object_fits library o.0.class o.0.key o.1) objects) → AllByRecursion Fits objects
    fit_rows [] distinct fits = tt
    fit_rows (o ∷ os) distinct fits =
        let parts = and_parts (object_fits library o.0.class o.0.key o.1) _ fits in
        let object = and_parts _ _ parts.0 in
        let row = and_parts (fits_64 o.0.key) _ object.1 in
        ((distinct_at library.classes o.0.class distinct, row.1), fit_rows os distinct parts.1)

    all_left : (xs ys : Objects) → AllByRecursion Fits (xs ++ ys) → AllByRecursion Fits xs
    all_left [] ys h = tt
    all_left (x ∷ xs) ys h = (h.0, all_left xs ys h.1)

    all_right : (xs ys : Objects) → AllByRecursion Fits (xs ++ ys) → AllByRecursion Fits ys
    all_right [] ys h = h
    all_right (x ∷ xs) ys h = all_right xs ys h.1

    abbrev whole : List Objects → Objects
    whole parts = flat_map (λ (part : Objects). part) parts

    parts_created : (os : Objects) (parts : List Objects) (more : List Unit) → IsStrictlySortedBy compare_names (names (os ++ whole parts)) → AllByRecursion Fits (whole parts)
        → (run_units library (map (λ (part : Objects). transaction now (creations part)) parts ++ more) (resting os)).state ≡ (run_units library more (resting (os ++ whole parts))).state
    parts_created os [] more rise fits = ap (λ objects. (run_units library more (resting objects)).state) (sym (append-nil os))
    parts_created os (part ∷ parts) more rise fits =
        let units = map (λ (p : Objects). transaction now (creations p)) parts ++ more in
        ap (λ S. (run_units library units S).state) (part_created os part (whole parts) rise (all_left part (whole parts) fits))
        ∙ parts_created (os ++ part) parts more (subst (λ all. IsStrictlySortedBy compare_names (names all)) (sym (append_assoc os part (whole parts))) rise) (all_right part (whole parts) fits)
        ∙ ap (λ objects. (run_units library more (resting objects)).state) (append_assoc os part (whole parts))

  moments_pass : (times : List ℕ) (more : List Unit) (objects : Objects) → (run_units library (map moment times ++ more) (resting objects)).state ≡ (run_units library more (resting objects)).state
  moments_pass [] more objects = refl
  moments_pass (t ∷ times) more objects = ap (λ S. (run_units library (map moment times ++ more) S).state) (moment_passes t objects) ∙ moments_pass times more objects

  rule_left : (event : Event) (s : Status) (past : History) → (s ≡ enabled → forgets event) → RulesAlike event (record { status = s; past = past }) (extended_rule commit_reached (with_status s))
  rule_left event absent past h = record { status = refl; future = λ is. cc }
  rule_left event enabled past h = record { status = refl; future = λ is. same_future event past (commit_reached ∷ []) (h refl).0 }
  rule_left event disabled past h = record { status = refl; future = λ is. cc }

pub snapshots_are_alike : SnapshotsAreAlike
snapshots_are_alike library S now times parts fit_library fit same_objects h =
    let rows = fit_rows library now S.objects fit_library.fields_differ fit.objects_fit in
    let end = transaction now (restorations 0 S.rules) ∷ [] in
    let units = map (λ (part : Objects). transaction now (creations part)) parts ++ end in
    let at_end : (run_units library (snapshot now times parts S.rules) (initial_state library)).state ≡ left library now S.objects S.rules =
    moments_pass library times units []
    ∙ parts_created library now [] parts end (subst (λ objects. IsStrictlySortedBy compare_names (names objects)) (sym same_objects) fit.ordered.objects_rise)
    (subst (AllByRecursion (Fits library)) (sym same_objects) rows)
    ∙ ap (λ objects. (run_units library end (resting library objects)).state) same_objects
    ∙ rules_restored library now S.objects S.rules fit.ordered.each_rule h in
    subst (StatesAlike library S) (sym at_end) (record {
      objects = refl;
      rules = sym (length-map (map (λ (r : RuleState). with_status r.status) S.rules) (extended_rule commit_reached) ∙ length-map S.rules (λ (r : RuleState). with_status r.status));
      each = λ n.
          subst (RulesAlike (rule_at library n).event (rule_state S n))
          (sym (rule_state-extended commit_reached (record { objects = S.objects; rules = map (λ (r : RuleState). with_status r.status) S.rules }) n
          ∙ ap (extended_rule commit_reached) (get_or-map (λ (r : RuleState). with_status r.status) S.rules n (with_status absent))))
          (rule_left library (rule_at library n).event (rule_state S n).status (rule_state S n).past (h n));
    })
