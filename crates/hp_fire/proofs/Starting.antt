-- Signals and the tasks that they start.
use Rattle.std.proofs.Common.{arith, ◌≡◌, refl, sym, ap, subst, ℕ, suc, ◌+◌, ◌*◌, ◌<◌, ◌≤◌, List, [], ◌∷◌, Bool, true, false, map, length}
use Rattle.std.proofs.lemmas.List.Elements.{All-cons, All-nil}
use Rattle.std.specs.Prelude.{All, ◌++◌, Option, Some, None, is_some, filter, if◌then◌else◌, Result, Ok, Err, IfOk}
use Rattle.std.specs.Global.{Vec}
use Rattle.std.proofs.Common.{mul-le-mul_right, suc-mul}
use Rattle.hp_model.specs.Values.{Veto}
use Rattle.hp_model.specs.Occurrences.{Primitive}
use Rattle.hp_model.specs.Rules.{Library, is_immediate}
use Rattle.hp_model.specs.Tree.{Task}
use Rattle.hp_model.specs.Firing.{level_at, siblings, fire_task, start, signal_in}
use Rattle.hp_model.specs.Soundness.{Answer, FiringAnswer}
use Rattle.hp_model.specs.Answers.{SiblingsAnswer, ended, followed, placing, group_answer, queued_in, detached_in, items_in}
use Rattle.hp_model.specs.Transactions.{Work, done, unreleased}
use Rattle.hp_model.proofs.FaithfulFirings.{AreAt, faithful_start_none, faithful_start, faithful_signal}
use Rattle.hp_rule.specs.declared.library.Library.{Library as RustLibrary}
use Rattle.hp_rule.specs.declared.task.Task.{Task as RustTask}
use Rattle.hp_rule.specs.Mapped.{library, task}
use Rattle.hp_value.specs.declared.halt.Halt.{Halt}
use Rattle.hp_value.specs.declared.halt.Halt.TheVariants.{Cause as ByCause, Memory}
use Rattle.hp_ops.specs.Triggers.{IsTriggered, Triggers}
use Rattle.hp_view.specs.Seeing.{Seeing, GoesOn}
use Rattle.hp_view.proofs.Views.{GoesOn-same, GoesOn-then}
use Rattle.hp_fire.specs.Runs.{Runs, RunsFiring, RunsGroup, AreReady, Starts}
use Rattle.hp_fire.specs.Statements.{below_at, TasksStart}
use Rattle.hp_fire.specs.Weights.{deepest, levels, left}
use Rattle.hp_fire.proofs.Immediate.{AllImmediate, all_fire, none_is_deferred, none_is_detached}
use Rattle.hp_fire.proofs.Steps.{GroupLoop, grows, runs_answer, goes_unvetoed, group_starts, group_goes, group_stops, group_ends}

signal_runs : {library : Library} {now depth : ℕ} {p : Primitive} {tasks : List Task} {v w z : Seeing} {a : Answer} → IsTriggered library now depth p v w tasks → GoesOn v w
    → Runs library (start (level_at library 0 depth).below tasks) w z a → Runs library (signal_in (level_at library now depth) p) v z a
signal_runs {library} {now} {depth} {p} triggered on r =
    record { goes_on = GoesOn-then on r.goes_on; faithful = faithful_signal (level_at library now depth) p (grows r.goes_on) triggered.heard r.faithful }

-- ---- what is left of a work is to start tasks

pub signal_starts : (lib : RustLibrary) (now depth : ℕ) (p : Primitive) (v w : Seeing) (result : Result (Vec RustTask) Halt) → Triggers (library lib) now depth p v w result → GoesOn v w
    → TasksStart lib depth (signal_in (level_at (library lib) now depth) p) v w result
signal_starts lib now depth p v w (Ok tasks) triggered on = record { then_runs = λ {last} {a} r. signal_runs triggered on r }
signal_starts lib now depth p v w (Err (ByCause c)) faithful on = record { goes_on = on; faithful = faithful }
signal_starts lib now depth p v w (Err Memory) steps on = tt

pub signal_ready : (lib : RustLibrary) (now depth : ℕ) (p : Primitive) (v w : Seeing) (result : Result (Vec RustTask) Halt) → Triggers (library lib) now depth p v w result
    → IfOk result (λ ts. AreReady (library lib) depth (map task ts.items))
signal_ready lib now depth p v w (Ok tasks) triggered = record { at = triggered.at; within = triggered.within }
signal_ready lib now depth p v w (Err h) none = tt

-- there are tasks
pub then_starts : (lib : RustLibrary) (depth : ℕ) (work : Work) (before old : Seeing) (result : Result (Vec RustTask) Halt) (tasks : Vec RustTask)
    → result ≡ Ok tasks → TasksStart lib depth work before old result
    → Starts (library lib) (start (below_at lib depth) (map task tasks.items)) work before old
then_starts lib depth work before old result tasks is given = subst (λ (r : Result (Vec RustTask) Halt). TasksStart lib depth work before old r) is given

pub are_ready : (lib : RustLibrary) (depth : ℕ) (result : Result (Vec RustTask) Halt) (tasks : Vec RustTask) → result ≡ Ok tasks → IfOk result (λ ts. AreReady (library lib) depth (map task ts.items))
    → AreReady (library lib) depth (map task tasks.items)
are_ready lib depth result tasks is ready = subst (λ (r : Result (Vec RustTask) Halt). IfOk r (λ ts. AreReady (library lib) depth (map task ts.items))) is ready

pub start_none : (library : Library) (depth : ℕ) {tasks : List Task} → tasks ≡ [] → (v : Seeing) → Runs library (start (level_at library 0 depth).below tasks) v v (ended done)
start_none library depth {tasks} none v =
    subst (λ ts. Runs library (start (level_at library 0 depth).below ts) v v (ended done)) (sym none)
    (record { goes_on = GoesOn-same v; faithful = faithful_start_none (level_at library 0 depth).below })

-- ---- tasks of a depth

at_filter : (d : ℕ) (f : Task → Bool) (ts : List Task) → AreAt d ts → AreAt d (filter f ts)
at_filter d f [] at = tt
at_filter d f (t ∷ ts) at = by (f t) at.0 (at_filter d f ts at.1)
  where
    by : (b : Bool) → t.depth ≡ d → AreAt d (filter f ts) → AreAt d (if b then t ∷ filter f ts else filter f ts)
    by true here rest = (here, rest)
    by false here rest = rest

pub start_runs : {library : Library} {depth : ℕ} {v w : Seeing} {g : SiblingsAnswer} (tasks : List Task) → AreReady library depth tasks → (tasks ≡ [] → ⊥)
    → RunsGroup library (siblings (fire_task library) true (filter (λ (u : Task). is_immediate u.place) tasks)) v w g
    → Runs library (start (level_at library 0 depth).below tasks) v w (followed (placing tasks) (group_answer g))
start_runs [] ready some r = absurd (some refl)
start_runs {library} {depth} (t ∷ ts) ready some r = record {
  goes_on = r.goes_on;
  faithful = faithful_start 0 depth t ts (ready.within t ts refl) (at_filter (suc depth) (λ (u : Task). is_immediate u.place) (t ∷ ts) ready.at) r.faithful;
}

-- a single task is a group of one
single_group : {library : Library} {v w : Seeing} {f : FiringAnswer} (t : Task) → RunsFiring library (λ S. fire_task library S t) v w f
    → RunsGroup library (siblings (fire_task library) true (t ∷ [])) v w (record { firings = f ∷ []; vetoed_by = f.vetoed_by })
single_group {library} {v} {w} {f} t r = by f.vetoed_by refl
  where
    whole : GroupLoop library true (t ∷ []) (t ∷ []) v v []
    whole = group_starts v [] refl

    by : (o : Option Veto) → f.vetoed_by ≡ o → RunsGroup library (siblings (fire_task library) true (t ∷ [])) v w (record { firings = f ∷ []; vetoed_by = f.vetoed_by })
    by (Some n) e = group_stops {ts = []} t (f ∷ []) refl refl refl (ap is_some e) whole r
    by None e =
        let over : GroupLoop library true (t ∷ []) [] v w (f ∷ []) = group_goes {ts = []} t (f ∷ []) refl refl (goes_unvetoed true f.vetoed_by (ap is_some e)) whole r in
        subst (λ o. RunsGroup library (siblings (fire_task library) true (t ∷ [])) v w (record { firings = f ∷ []; vetoed_by = o })) (sym e) (group_ends refl over)

-- it is the only one that starts
pub start_single : {library : Library} {depth : ℕ} {v w : Seeing} {f : FiringAnswer} (tasks : List Task) (t : Task) → AreReady library depth tasks → tasks ≡ t ∷ [] → AllImmediate tasks
    → RunsFiring library (λ S. fire_task library S t) v w f
    → Runs library (start (level_at library 0 depth).below tasks) v w (group_answer (record { firings = f ∷ []; vetoed_by = f.vetoed_by }))
start_single {library} {depth} {v} {w} {f} tasks t ready is at_once r =
    subst (λ ts. Runs library (start (level_at library 0 depth).below ts) v w (group_answer group)) (sym is)
    (runs_answer (λ i. record {
      end = (group_answer group).end;
      queued = ap (λ ts. ts ++ queued_in group.firings) (sym (none_is_deferred (t ∷ []) now)) i;
      detached =
          ap (λ ts. map unreleased ts ++ detached_in group.firings) (sym (none_is_detached (t ∷ []) now)) i;
      items = items_in group.firings;
    })
    (start_runs (t ∷ []) (subst (AreReady library depth) is ready) (λ none. cc)
    (subst (λ ts. RunsGroup library (siblings (fire_task library) true ts) v w group) (sym (all_fire (t ∷ []) now)) (single_group t r))))
  where
    now : AllImmediate (t ∷ [])
    now = subst AllImmediate is at_once

    group : SiblingsAnswer
    group = record { firings = f ∷ []; vetoed_by = f.vetoed_by }

-- a group has less left to run than the signal that starts it
pub group_falls : (firings below deepest : ℕ) → suc below ≤ firings → 16 * (below * (deepest + 2) + deepest) + 13 < 16 * (firings * (deepest + 2) + 0) + 1
group_falls firings below deepest less =
    let more : suc below * (deepest + 2) ≤ firings * (deepest + 2) = mul-le-mul_right (deepest + 2) less in
    let one : suc below * (deepest + 2) ≡ below * (deepest + 2) + (deepest + 2) = suc-mul below (deepest + 2) in
    omega (arith, more, one)

-- a single task has less left to run than the signal that starts it
pub single_measure : (lib : RustLibrary) (depth : ℕ) (tasks : List RustTask) (t : RustTask) → AreReady (library lib) depth (map task tasks) → map task tasks ≡ task t ∷ []
    → 16 * left lib (levels lib t.depth) (deepest lib) + 3 < 16 * left lib (levels lib depth) 0 + 1
single_measure lib depth tasks t ready is =
    let at : AreAt (suc depth) (task t ∷ []) = subst (AreAt (suc depth)) is ready.at in
    let below : t.depth ≡ suc depth = at.0 in
    let low : depth < lib.depth_limit = ready.within (task t) [] is in
    let less : suc (levels lib t.depth) ≤ levels lib depth = omega (arith, below, low) in
    let falls = group_falls (levels lib depth) (levels lib t.depth) (deepest lib) less in
    omega (arith, falls)

-- the tasks of a signal have less left to run than the signal
pub group_measure : (lib : RustLibrary) (depth nested : ℕ) (tasks : List RustTask) → nested ≡ levels lib (depth + 1) → AreReady (library lib) depth (map task tasks) → (tasks ≡ [] → ⊥)
    → 16 * left lib nested (deepest lib) + 13 < 16 * left lib (levels lib depth) 0 + 1
group_measure lib depth nested [] is ready some = absurd (some refl)
group_measure lib depth nested (t ∷ ts) is ready some =
    let low : depth < lib.depth_limit = ready.within (task t) (map task ts) refl in
    let less : suc nested ≤ levels lib depth = omega (arith, is, low) in
    group_falls (levels lib depth) nested (deepest lib) less

-- where fewer firings may nest, less is left to run
less_left : (lib : RustLibrary) (few nested : ℕ) → few ≤ nested → left lib few (deepest lib) ≤ left lib nested (deepest lib)
less_left lib few nested less =
    let more : few * (deepest lib + 2) ≤ nested * (deepest lib + 2) = mul-le-mul_right (deepest lib + 2) less in
    omega (arith, more)

-- as many firings may nest in a task as below the transaction that starts it
all_nest : (lib : RustLibrary) (depth nested : ℕ) → nested ≡ levels lib (depth + 1) → (ts : List RustTask) → AreAt (suc depth) (map task ts)
    → All (λ (t : RustTask). left lib (levels lib t.depth) (deepest lib) ≤ left lib nested (deepest lib)) ts
all_nest lib depth nested is [] at = All-nil (λ (t : RustTask). left lib (levels lib t.depth) (deepest lib) ≤ left lib nested (deepest lib))
all_nest lib depth nested is (t ∷ ts) at =
    let few : levels lib t.depth ≤ nested = omega (arith, is, at.0) in
    All-cons (λ (u : RustTask). left lib (levels lib u.depth) (deepest lib) ≤ left lib nested (deepest lib)) t ts (less_left lib (levels lib t.depth) nested few)
    (all_nest lib depth nested is ts at.1)

pub tasks_nest : {l : Library} (lib : RustLibrary) (depth nested : ℕ) → nested ≡ levels lib (depth + 1) → (tasks now : List RustTask) → AreReady l depth (map task tasks)
    → map task now ≡ filter (λ (u : Task). is_immediate u.place) (map task tasks)
    → All (λ (t : RustTask). left lib (levels lib t.depth) (deepest lib) ≤ left lib nested (deepest lib)) now
tasks_nest lib depth nested is tasks now ready immediate =
    all_nest lib depth nested is now (subst (AreAt (suc depth)) (sym immediate) (at_filter (suc depth) (λ (u : Task). is_immediate u.place) (map task tasks) ready.at))

-- in no task more may nest than the limit of depth says
pub any_nest : (lib : RustLibrary) (nested : ℕ) → nested ≡ lib.depth_limit → (ts : List RustTask)
    → All (λ (t : RustTask). left lib (levels lib t.depth) (deepest lib) ≤ left lib nested (deepest lib)) ts
any_nest lib nested is [] = All-nil (λ (t : RustTask). left lib (levels lib t.depth) (deepest lib) ≤ left lib nested (deepest lib))
any_nest lib nested is (t ∷ ts) =
    let few : levels lib t.depth ≤ nested = omega (arith, is) in
    All-cons (λ (u : RustTask). left lib (levels lib u.depth) (deepest lib) ≤ left lib nested (deepest lib)) t ts (less_left lib (levels lib t.depth) nested few) (any_nest lib nested is ts)

pub none_long : {X : Type 0} (xs : List X) → length xs ≡ 0 → xs ≡ []
none_long [] e = refl
none_long (x ∷ xs) e = cc

pub map_none : {X Y : Type 0} (f : X → Y) (xs : List X) → map f xs ≡ [] → xs ≡ []
map_none f [] e = refl
map_none f (x ∷ xs) e = cc
