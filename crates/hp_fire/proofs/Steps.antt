-- Calls on a view, one after another.
use Rattle.std.proofs.Common.{arith, ◌≡◌, refl, sym, ap, ◌∙◌, subst, ℕ, ◌≤◌, length, drop, List, [], ◌∷◌, ◌++◌, Bool, true, false, Option, Some, None}
use Rattle.std.proofs.Math.Seq.{drop-length}
use Rattle.std.specs.Prelude.{Ok, Err, is_some}
use Rattle.hp_model.specs.Values.{Veto, Cause, Outcome}
use Rattle.hp_model.specs.Occurrences.{Primitive}
use Rattle.hp_model.specs.Rules.{Library, rule_at}
use Rattle.hp_model.specs.State.{State}
use Rattle.hp_model.specs.Conditions.{Findings}
use Rattle.hp_model.specs.Tree.{Task, Node, sub_node, without_detachments}
use Rattle.hp_model.specs.Transactions.{End, done, abort_by, veto_by, Work, for_each, then_do, with_value, aborts, ends}
use Rattle.hp_model.specs.Firing.{Level, Context, signal_in, sub_in, run_statement, run_body, action_course, run_action, siblings, fire_task}
use Rattle.hp_model.specs.Cells.{Changes}
use Rattle.hp_model.specs.Soundness.{Answer, FiringAnswer}
use Rattle.hp_model.specs.Answers.{FaithfulWork, FaithfulFiring, SiblingsAnswer, ended, tells, followed, is_done, kept, closing, closing_action}
use Rattle.hp_model.specs.Operations.{operation_items}
use Rattle.hp_model.proofs.Faithful.{Grows, followed-assoc, finds_more, faithful_ends, faithful_as, faithful_value, faithful_cause, Completes, each_more, each_halt, each_end, faithful_sub_done}
use Rattle.hp_model.proofs.Faithful.{faithful_sub_veto, faithful_sub_abort}
use Rattle.hp_model.proofs.FaithfulFirings.{faithful_action, goes_on, GroupCompletes, group_more, group_end, group_vetoed}
use Rattle.hp_rule.specs.declared.stmt.Stmt.{Stmt}
use Rattle.hp_rule.specs.Mapped.{statement, body_in}
use Rattle.hp_store.specs.Changes.{changes}
use Rattle.hp_view.specs.Seeing.{Seeing, written, undone, GoesOn, GoesBack, OnlyReads}
use Rattle.hp_view.proofs.Views.{GoesOn-same, GoesOn-then}
use Rattle.hp_fire.specs.Runs.{Runs, RunsFiring, RunsGroup, Appends, Adds, Finding, Made, SubOver, SubAborted, SubGoesOn, SubRuns, Closes}

-- ---- views that continue others

pub grows : {v w : Seeing} → GoesOn v w → Grows v.reads w.reads
grows on = record { others = on.reads.0; are = on.reads.1 }

-- the writes are as before where only reads were made
pub only_written : {v w : Seeing} → OnlyReads v w → written w ≡ written v
only_written only = ap changes only.writes

-- ---- works that end at once, or have another form

pub runs_as : {library : Library} (f g : Work) {v w : Seeing} {a : Answer} → ((S : State) → g S ≡ f S) → Runs library f v w a → Runs library g v w a
runs_as f g same r = record { goes_on = r.goes_on; faithful = faithful_as f g same r.faithful }

pub runs_answer : {library : Library} {f : Work} {v w : Seeing} {a b : Answer} → b ≡ a → Runs library f v w a → Runs library f v w b
runs_answer {library} {f} {v} {w} same r = subst (λ x. Runs library f v w x) (sym same) r

pub runs_ends : {library : Library} (e : End) (v : Seeing) → Runs library (ends e) v v (ended e)
runs_ends e v = record { goes_on = GoesOn-same v; faithful = faithful_ends e }

-- a statement whose value is a cause
pub runs_cause : {A : Type 0} {library : Library} (next : State → A → Work) (o : Outcome A) (c : Cause) (v : Seeing) → Err c ≡ o → Runs library (λ S. with_value o (next S) S) v v (ended (abort_by c))
runs_cause next o c v is = runs_as (aborts c) (λ S. with_value o (next S) S) (λ S. ap (λ x. with_value x (next S) S) (sym is)) (runs_ends (abort_by c) v)

-- and one that goes on with its value
pub runs_value : {A : Type 0} {library : Library} (f : A → Work) (o : Outcome A) (x : A) {v w : Seeing} {a : Answer} → Ok x ≡ o → Runs library (f x) v w a → Runs library (λ S. with_value o f S) v w a
runs_value f o x is r = runs_as (f x) (λ S. with_value o f S) (λ S. ap (λ y. with_value y f S) (sym is)) r

-- the same where the value is found in the state
pub found_cause : {A : Type 0} {library : Library} {of : State → Outcome A} (f : A → Work) {c : Cause} {v w : Seeing} → Finding library of v w (Err c)
    → Runs library (λ S. with_value (of S) f S) v w (ended (abort_by c))
found_cause {library = library} {of} f {c} {v} {w} found = record {
  goes_on = found.goes_on;
  faithful = subst (λ b. FaithfulWork library (λ S. with_value (of S) f S) w.reads b (written w) (ended (abort_by c))) (only_written found.only) (faithful_cause f found.finds);
}

pub found_value : {A : Type 0} {library : Library} {of : State → Outcome A} (f : A → Work) {x : A} {v w z : Seeing} {a : Answer} → Finding library of v w (Ok x) → Runs library (f x) w z a
    → Runs library (λ S. with_value (of S) f S) v z a
found_value {library = library} {of} f {x} {v} {w} {z} {a} found r = record {
  goes_on = GoesOn-then found.goes_on r.goes_on;
  faithful = subst (λ b. FaithfulWork library (λ S. with_value (of S) f S) z.reads b (written z) a) (only_written found.only)
      (faithful_value f (finds_more (grows r.goes_on) found.finds) r.faithful);
}

-- ---- loops

module _ {A : Type 0} (library : Library) (work : A → Work) (whole : Work) where
  -- the loop's effects so far, followed by those of what is left, are the whole's
  pub record Loop (left : List A) (first now : Seeing) (so_far : Answer) : Type 0 where
    pub goes_on : GoesOn first now
    pub is_done : so_far.end ≡ done
    pub completes : Completes library work whole (written first) left now.reads (written now) so_far

  pub loop_begin : (xs : List A) (v : Seeing) → ((S : State) → whole S ≡ for_each xs work S) → Loop xs v v (ended done)
  loop_begin xs v same = record {
    goes_on = GoesOn-same v;
    is_done = refl;
    completes = record { by = λ more after b grows' q. faithful_as (for_each xs work) whole same q };
  }

  pub loop_more : {x : A} {xs : List A} {v w z : Seeing} {so_far got : Answer} → got.end ≡ done → Loop (x ∷ xs) v w so_far → Runs library (work x) w z got → Loop xs v z (followed so_far got)
  loop_more is_end l r = record {
    goes_on = GoesOn-then l.goes_on r.goes_on;
    is_done = is_end;
    completes = each_more library work whole _ is_end (grows r.goes_on) l.completes r.faithful;
  }

  pub loop_halt : {x : A} {xs : List A} {v w z : Seeing} {so_far got : Answer} → is_done got.end ≡ false → Loop (x ∷ xs) v w so_far → Runs library (work x) w z got
      → Runs library whole v z (followed so_far got)
  loop_halt halts l r = record {
    goes_on = GoesOn-then l.goes_on r.goes_on;
    faithful = each_halt library work whole _ halts (grows r.goes_on) l.completes r.faithful;
  }

  pub loop_end : {v w : Seeing} {so_far : Answer} → Loop [] v w so_far → Runs library whole v w so_far
  loop_end l = record { goes_on = l.goes_on; faithful = each_end library work whole _ l.is_done l.completes }

pub done_if : (e : End) → is_done e ≡ true → e ≡ done
done_if done h = refl
done_if (abort_by x) h = cc
done_if (veto_by r) h = cc

-- ---- one after another

pub runs_signal : {library : Library} {level : Level} {work : Work} {v w z : Seeing} {p : Primitive} {a : Answer} → Made library level work v w p → Runs library (signal_in level p) w z a
    → Runs library work v z (followed (tells (without_detachments (operation_items p))) a)
runs_signal made r = record { goes_on = GoesOn-then made.goes_on r.goes_on; faithful = made.then_signal (grows r.goes_on) r.faithful }

-- ---- nested transactions

-- the writes that a nested transaction undoes to are those from which it began
pub back_written : {first now back : Seeing} (n : ℕ) → n ≡ length first.undo → GoesOn first now → GoesBack now back n → written back ≡ written first
back_written {first} {now} {back} n is on goes =
    let within : n ≤ length first.undo = omega (arith, is) in
    goes.changes ∙ on.before n within ∙ ap (λ m. undone (drop m first.undo) (written first)) is ∙ ap (λ us. undone us (written first)) (drop-length first.undo)

kept_first : (e : End) (w0 w1 : Changes) → is_done e ≡ false → kept e w0 w1 ≡ w0
kept_first done w0 w1 h = cc
kept_first (abort_by x) w0 w1 h = refl
kept_first (veto_by r) w0 w1 h = refl

pub closes_done : {first now new : Seeing} {e : End} → e ≡ done → new ≡ now → GoesOn first now → Closes first now new e
closes_done {first} {now} {new} {e} is same on = record {
  goes_on = subst (λ v. GoesOn first v) (sym same) on;
  reads = ap (λ (v : Seeing). v.reads) same;
  writes = ap (λ (v : Seeing). written v) same ∙ ap (λ x. kept x (written first) (written now)) (sym is);
}

pub closes_back : {first now new : Seeing} {e : End} (n : ℕ) → is_done e ≡ false → n ≡ length first.undo → GoesOn first now → GoesBack now new n → GoesOn first new → Closes first now new e
closes_back {first} {now} {new} {e} n halts is on goes goes_on = record {
  goes_on = goes_on;
  reads = goes.reads;
  writes = back_written n is on goes ∙ sym (kept_first e (written first) (written now) halts);
}

-- an action has ended
pub closes_action : {library : Library} (what : Node) (level : Level) (t : Task) (found : Findings) {v w z : Seeing} {a : Answer} → Runs library (action_course level t found) v w a
    → Closes v w z a.end
    → RunsFiring library (run_action what level t found) v z (closing_action what (rule_at level.library t.rule).closed t.rule a)
closes_action {library} what level t found {v} {w} {z} {a} r closes =
    let answer = closing_action what (rule_at level.library t.rule).closed t.rule a in
    record {
      goes_on = closes.goes_on;
      faithful = subst (λ rs. FaithfulFiring library (run_action what level t found) rs (written v) (written z) answer) (sym closes.reads)
          (subst (λ c. FaithfulFiring library (run_action what level t found) w.reads (written v) c answer) (sym closes.writes)
          (faithful_action what level t found r.faithful));
    }

-- the body of a statement `sub` has ended
sub_at : {library : Library} (f otherwise : Work) {v w z : Seeing} {e : End} {b : Answer} → Closes v w z e
    → FaithfulWork library (λ S. sub_in f otherwise S) w.reads (written v) (kept e (written v) (written w)) b
    → FaithfulWork library (λ S. sub_in f otherwise S) z.reads (written v) (written z) b
sub_at {library} f otherwise {v} {w} {z} {e} {b} closes p =
    subst (λ rs. FaithfulWork library (λ S. sub_in f otherwise S) rs (written v) (written z) b) (sym closes.reads)
    (subst (λ c. FaithfulWork library (λ S. sub_in f otherwise S) w.reads (written v) c b) (sym closes.writes) p)

sub_done : {library : Library} {f : Work} {v w z : Seeing} {a : Answer} → a.end ≡ done → Runs library f v w a → Closes v w z a.end → SubOver library f v z (closing sub_node a done)
sub_done {library} {f} {v} {w} {z} {a} is r closes = record {
  goes_on = closes.goes_on;
  over = λ otherwise. sub_at f otherwise closes
      (subst (λ e. FaithfulWork library (λ S. sub_in f otherwise S) w.reads (written v) (kept e (written v) (written w)) (closing sub_node a done))
      (sym is) (faithful_sub_done f otherwise is r.faithful));
}

sub_veto : {library : Library} {f : Work} {v w z : Seeing} {a : Answer} (n : Veto) → a.end ≡ veto_by n → Runs library f v w a → Closes v w z a.end
    → SubOver library f v z (closing sub_node a (veto_by n))
sub_veto {library} {f} {v} {w} {z} {a} n is r closes = record {
  goes_on = closes.goes_on;
  over = λ otherwise. sub_at f otherwise closes
      (subst (λ e. FaithfulWork library (λ S. sub_in f otherwise S) w.reads (written v) (kept e (written v) (written w)) (closing sub_node a (veto_by n)))
      (sym is) (faithful_sub_veto f otherwise n is r.faithful));
}

sub_abort : {library : Library} {f : Work} {v w z : Seeing} {a : Answer} (x : Cause) → a.end ≡ abort_by x → Runs library f v w a → Closes v w z a.end
    → SubAborted library f v z (closing sub_node a done)
sub_abort {library} {f} {v} {w} {z} {a} x is r closes = record {
  goes_on = closes.goes_on;
  then_other = λ otherwise {more} {after} {b} more_reads p.
      let again : written z ≡ written v = closes.writes ∙ ap (λ e. kept e (written v) (written w)) is in
      faithful_sub_abort f otherwise x is (subst (λ rs. Grows rs more) closes.reads more_reads) r.faithful
      (subst (λ c. FaithfulWork library otherwise more c after b) again p);
}

-- the body has ended so, and the answer of the statement so far is this
pub sub_closes : {library : Library} {f : Work} {v w z : Seeing} {a b : Answer} (after : End) (aborted : Bool) → SubGoesOn a.end after aborted
    → b ≡ closing sub_node a after → Runs library f v w a → Closes v w z a.end
    → SubRuns library f v z b aborted
sub_closes {library} {f} {v} {w} {z} {a} {b} after aborted ends is r closes = by a.end refl ends
  where
    at : (e : End) (c : Bool) → after ≡ e → aborted ≡ c → SubRuns library f v z (closing sub_node a e) c → SubRuns library f v z b aborted
    at e c same which p =
        subst (λ x. SubRuns library f v z b x) (sym which)
        (subst (λ x. SubRuns library f v z x c) (ap (closing sub_node a) (sym same) ∙ sym is) p)

    by : (e : End) → a.end ≡ e → SubGoesOn e after aborted → SubRuns library f v z b aborted
    by done e h = at done false h.0 h.1 (sub_done e r closes)
    by (abort_by x) e h = at done true h.0 h.1 (sub_abort x e r closes)
    by (veto_by n) e h = at (veto_by n) false h.0 h.1 (sub_veto n e r closes)

-- the other body follows
pub sub_then : {library : Library} {f otherwise : Work} {v w z : Seeing} {a b : Answer} → SubAborted library f v w a → Runs library otherwise w z b
    → Runs library (λ S. sub_in f otherwise S) v z (followed a b)
sub_then {otherwise = otherwise} s r = record { goes_on = GoesOn-then s.goes_on r.goes_on; faithful = s.then_other otherwise (grows r.goes_on) r.faithful }

pub sub_over : {library : Library} {f : Work} (otherwise : Work) {v w : Seeing} {a : Answer} → SubOver library f v w a → Runs library (λ S. sub_in f otherwise S) v w a
sub_over otherwise s = record { goes_on = s.goes_on; faithful = s.over otherwise }

-- ---- bodies

pub body_each : (level : Level) (context : Context) (ss : List Stmt) (S : State) → run_body (body_in ss) level context S ≡ for_each ss (λ s. run_statement (statement s) level context) S
body_each level context [] S = refl
body_each level context (s ∷ ss) S = ap (then_do (run_statement (statement s) level context S)) (λ i S'. body_each level context ss S' i)

-- ---- groups

module _ (library : Library) (stops : Bool) (whole : List Task) where
  -- the firings so far, followed by those of the tasks that are left, are the whole group's
  pub record GroupLoop (tasks : List Task) (first now : Seeing) (so_far : List FiringAnswer) : Type 0 where
    pub goes_on : GoesOn first now
    pub completes : GroupCompletes library (fire_task library) stops whole (written first) tasks now.reads (written now) so_far

  pub group_begin : (v : Seeing) → GroupLoop whole v v []
  group_begin v = record { goes_on = GoesOn-same v; completes = record { by = λ more after g more_reads p. p } }

  pub group_next : {t : Task} {ts : List Task} {v w z : Seeing} {so_far : List FiringAnswer} {f : FiringAnswer} → goes_on stops f.vetoed_by ≡ true → GroupLoop (t ∷ ts) v w so_far
      → RunsFiring library (λ S. fire_task library S t) w z f → GroupLoop ts v z (so_far ++ f ∷ [])
  group_next on l r = record { goes_on = GoesOn-then l.goes_on r.goes_on; completes = group_more library (fire_task library) stops whole _ on (grows r.goes_on) l.completes r.faithful }

  pub group_over : {v w : Seeing} {so_far : List FiringAnswer} → GroupLoop [] v w so_far
      → RunsGroup library (siblings (fire_task library) stops whole) v w (record { firings = so_far; vetoed_by = None })
  group_over l = record { goes_on = l.goes_on; faithful = group_end library (fire_task library) stops whole _ l.completes }

pub group_stop : (library : Library) (whole : List Task) {t : Task} {ts : List Task} {v w z : Seeing} {so_far : List FiringAnswer} {f : FiringAnswer} (r : Veto) → f.vetoed_by ≡ Some r
    → GroupLoop library true whole (t ∷ ts) v w so_far → RunsFiring library (λ S. fire_task library S t) w z f
    → RunsGroup library (siblings (fire_task library) true whole) v z (record { firings = so_far ++ f ∷ []; vetoed_by = Some r })
group_stop library whole r vetoes l p = record {
  goes_on = GoesOn-then l.goes_on p.goes_on;
  faithful =
      group_vetoed library (fire_task library) whole _ r vetoes (grows p.goes_on) l.completes p.faithful;
}

-- ---- the same at an index of a list, where each adds to a course

module _ {A : Type 0} {library : Library} {work : A → Work} {whole : Work} where
  pub loop_starts : (xs : List A) (v : Seeing) {before after : Answer} → after ≡ followed before (ended done) → ((S : State) → whole S ≡ for_each xs work S)
      → Appends (Loop library work whole xs v v) before after
  loop_starts xs v is same = record { answer = ended done; is = loop_begin library work whole xs v same; added = is }

  pub loop_next : {left rest : List A} {v w z : Seeing} {before middle after : Answer} (x : A) → left ≡ x ∷ rest → is_done after.end ≡ true
      → Appends (Loop library work whole left v w) before middle → Adds library (work x) w z middle after → Appends (Loop library work whole rest v z) before after
  loop_next {left} {rest} {v} {w} {z} {before} x here goes l r =
      let ends_done : r.answer.end ≡ done = done_if r.answer.end (sym (ap (λ (a : Answer). is_done a.end) r.added) ∙ goes) in
      record {
        answer = followed l.answer r.answer;
        is = loop_more library work whole ends_done (subst (λ xs. Loop library work whole xs v w l.answer) here l.is) r.is;
        added = r.added ∙ ap (λ a. followed a r.answer) l.added ∙ followed-assoc before l.answer r.answer;
      }

  pub loop_stops : {left rest : List A} {v w z : Seeing} {before middle after : Answer} (x : A) → left ≡ x ∷ rest → is_done after.end ≡ false
      → Appends (Loop library work whole left v w) before middle → Adds library (work x) w z middle after → Adds library whole v z before after
  loop_stops {left} {rest} {v} {w} {z} {before} x here stops l r =
      let halts : is_done r.answer.end ≡ false = sym (ap (λ (a : Answer). is_done a.end) r.added) ∙ stops in
      record {
        answer = followed l.answer r.answer;
        is = loop_halt library work whole halts (subst (λ xs. Loop library work whole xs v w l.answer) here l.is) r.is;
        added = r.added ∙ ap (λ a. followed a r.answer) l.added ∙ followed-assoc before l.answer r.answer;
      }

  pub loop_ends : {left : List A} {v w : Seeing} {before after : Answer} → left ≡ [] → Appends (Loop library work whole left v w) before after → Adds library whole v w before after
  loop_ends {left} {v} {w} none l = record {
    answer = l.answer;
    is = loop_end library work whole (subst (λ xs. Loop library work whole xs v w l.answer) none l.is);
    added = l.added;
  }

-- a list of one
pub only_runs : {A : Type 0} {library : Library} (work : A → Work) (whole : Work) (x : A) {v w : Seeing} {a : Answer} → ((S : State) → whole S ≡ for_each (x ∷ []) work S)
    → Runs library (work x) v w a → Runs library whole v w a
only_runs {library = library} work whole x {v} {w} {a} same r = by (is_done a.end) refl
  where
    by : (b : Bool) → is_done a.end ≡ b → Runs library whole v w a
    by true e = loop_end library work whole (loop_more library work whole (done_if a.end e) (loop_begin library work whole (x ∷ []) v same) r)
    by false e = loop_halt library work whole e (loop_begin library work whole (x ∷ []) v same) r

-- a body of one statement
pub lone_runs : {library : Library} (level : Level) (context : Context) (ss : List Stmt) (s : Stmt) {v w : Seeing} (a : Answer) → ss ≡ s ∷ []
    → Runs library (run_statement (statement s) level context) v w a → Runs library (run_body (body_in ss) level context) v w a
lone_runs level context ss s a is r =
    only_runs (λ x. run_statement (statement x) level context) (run_body (body_in ss) level context) s
    (λ S. body_each level context ss S ∙ ap (λ xs. for_each xs (λ x. run_statement (statement x) level context) S) is) r

some_of : (o : Option Veto) → is_some o ≡ true → (r : Veto) × (o ≡ Some r)
some_of None h = cc
some_of (Some r) h = (r, refl)

pub goes_unvetoed : (stops : Bool) (o : Option Veto) → is_some o ≡ false → goes_on stops o ≡ true
goes_unvetoed true None h = refl
goes_unvetoed true (Some r) h = cc
goes_unvetoed false o h = refl

module _ {library : Library} {stops : Bool} {whole : List Task} where
  pub group_starts : (v : Seeing) (so_far : List FiringAnswer) → so_far ≡ [] → GroupLoop library stops whole whole v v so_far
  group_starts v so_far is = subst (GroupLoop library stops whole whole v v) (sym is) (group_begin library stops whole v)

  pub group_goes : {left ts : List Task} {v w z : Seeing} {so_far : List FiringAnswer} {f : FiringAnswer} (t : Task) (after : List FiringAnswer) → left ≡ t ∷ ts
      → after ≡ so_far ++ f ∷ [] → goes_on stops f.vetoed_by ≡ true
      → GroupLoop library stops whole left v w so_far → RunsFiring library (λ S. fire_task library S t) w z f → GroupLoop library stops whole ts v z after
  group_goes {left} {ts} {v} {w} {z} {so_far} {f} t after here is goes l r =
      subst (GroupLoop library stops whole ts v z) (sym is) (group_next library stops whole goes (subst (λ xs. GroupLoop library stops whole xs v w so_far) here l) r)

  pub group_stops : {left ts : List Task} {v w z : Seeing} {so_far : List FiringAnswer} {f : FiringAnswer} (t : Task) (after : List FiringAnswer)
      → left ≡ t ∷ ts → after ≡ so_far ++ f ∷ [] → stops ≡ true → is_some f.vetoed_by ≡ true
      → GroupLoop library stops whole left v w so_far → RunsFiring library (λ S. fire_task library S t) w z f
      → RunsGroup library (siblings (fire_task library) stops whole) v z (record { firings = after; vetoed_by = f.vetoed_by })
  group_stops {left} {ts} {v} {w} {z} {so_far} {f} t after here is at veto l r =
      let some = some_of f.vetoed_by veto in
      let l' = subst (λ s. GroupLoop library s whole (t ∷ ts) v w so_far) at (subst (λ xs. GroupLoop library stops whole xs v w so_far) here l) in
      subst (λ s. RunsGroup library (siblings (fire_task library) s whole) v z (record { firings = after; vetoed_by = f.vetoed_by })) (sym at)
      (subst (λ (x : SiblingsAnswer). RunsGroup library (siblings (fire_task library) true whole) v z x) (λ i. record { firings = sym is i; vetoed_by = sym some.1 i })
      (group_stop library whole some.0 some.1 l' r))

  pub group_ends : {left : List Task} {v w : Seeing} {so_far : List FiringAnswer} → left ≡ [] → GroupLoop library stops whole left v w so_far
      → RunsGroup library (siblings (fire_task library) stops whole) v w (record { firings = so_far; vetoed_by = None })
  group_ends {left} {v} {w} {so_far} none l = group_over library stops whole (subst (λ xs. GroupLoop library stops whole xs v w so_far) none l)
