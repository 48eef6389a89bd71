-- Statements by their parts.
use Rattle.std.proofs.Common.{◌≡◌, refl, sym, ap, ◌∙◌, subst, ℕ, List, [], ◌∷◌}
use Rattle.std.specs.Prelude.{⊤, Option, Some, None, Result, Ok, Err, String, string_bytes}
use Rattle.std.specs.Global.{Global, Vec, Box}
use Rattle.std.proofs.Common.{rules}
use Rattle.hp_model.specs.Values.{Name, NamedValues, Value, Outcome}
use Rattle.hp_model.specs.Occurrences.{Primitive, signalled}
use Rattle.hp_model.specs.Expressions.{Environment, bound, holding}
use Rattle.hp_model.specs.Conditions.{Answers, Findings, with_answers, with_values, with_findings}
use Rattle.hp_model.specs.Rules as R
use Rattle.hp_model.specs.Rules.{Library, Statement, Body, fire}
use Rattle.hp_model.specs.State.{State, Status, absent, enabled, disabled}
use Rattle.hp_model.specs.Tree.{Task, without_detachments}
use Rattle.hp_model.specs.Transactions.{Work, with_value, abort_by}
use Rattle.hp_model.specs.Firing.{Level, level_at, Context, run_statement, run_body, signal_in, start, start_fired, fired_task}
use Rattle.hp_model.specs.Cells.{Read, Changes}
use Rattle.hp_model.specs.Soundness.{Answer}
use Rattle.hp_model.specs.Answers.{FaithfulWork, ended, tells, followed}
use Rattle.hp_model.specs.Operations.{operation_items}
use Rattle.hp_model.proofs.Faithful.{finds_more, followed-assoc}
use Rattle.hp_model.proofs.FaithfulOperations.{faithful_fire}
use Rattle.hp_value.specs.declared.halt.Halt.{Halt}
use Rattle.hp_value.specs.declared.halt.Halt.TheVariants.{Cause as ByCause, Memory}
use Rattle.hp_value.specs.Mapped.{Meets, cause}
use Rattle.hp_ops.specs.Triggers.{IsFired, Fires}
use Rattle.hp_value.specs.declared.expr.Expr.{Expr}
use Rattle.hp_value.specs.Mapped.{expression}
use Rattle.hp_rule.specs.declared.library.Library.{Library as RustLibrary}
use Rattle.hp_rule.specs.declared.stmt.Stmt.{Stmt}
use Rattle.hp_rule.specs.declared.stmt.Stmt.TheVariants.{With, Veto}
use Rattle.hp_rule.specs.declared.stmt.Stmt.TheViews.{the_lemmas}
use Rattle.hp_rule.specs.Mapped.{library, statement, body_in}
use Rattle.hp_rule.proofs.Bodies.{row_body_lem}
use Rattle.hp_view.specs.Seeing.{Seeing, written, OnlyReads}
use Rattle.hp_view.proofs.Views.{GoesOn-same, GoesOn-then}
use Rattle.hp_view.proofs.Reading.{GoesOn-only}
use Rattle.hp_fire.specs.Runs.{Runs, Adds, Steps, Finding, Looks, Made, Makes}
use Rattle.hp_fire.specs.Statements.{veto_statement, TasksStart}
use Rattle.hp_fire.specs.Signals.{signal_of}
use Rattle.hp_fire.proofs.Making.{makes_halt}
use Rattle.hp_fire.proofs.Adding.{appends_as}
use Rattle.hp_fire.proofs.Steps.{runs_as, runs_signal, found_cause, found_value, grows, only_written}

-- ---- the same statement

pub steps_at : (library : Library) (level : Level) (context : Context) (v w : Seeing) (before after : Answer) (result : Result ⊤ Halt) {x y : Statement} → x ≡ y
    → Steps library (run_statement x level context) v w before after result → Steps library (run_statement y level context) v w before after result
steps_at library level context v w before after result is p = subst (λ s. Steps library (run_statement s level context) v w before after result) is p

-- ---- signals

pub signal_halt : (x : Name) (next : List Value → Work) (o : Outcome (List Value)) (h : Halt) (library : Library) (level : Level) (v : Seeing) {X : Type 0} (f : X → Primitive)
    → Meets f (Err h) (signal_of x o) → Makes f library level (λ S. with_value o next S) v v (Err h)
signal_halt x next (Ok vs) (ByCause c) library level v f is = cc
signal_halt x next (Err d) (ByCause c) library level v f is = makes_halt (λ (vs : List Value). vs) f (λ S. next) (Err d) (ByCause c) library level v (cause_same is)
  where
    cause_same : ◌≡◌ {A = Outcome Primitive} (Err (cause c)) (Err d) → ◌≡◌ {A = Outcome (List Value)} (Err (cause c)) (Err d)
    cause_same e = ap (λ (o : Outcome Primitive). as_values o) e
      where
        as_values : Outcome Primitive → Outcome (List Value)
        as_values (Ok p) = Ok []
        as_values (Err e) = Err e
signal_halt x next o Memory library level v f is = tt

-- the occurrence of a signal was made, or a cause ends the statement
pub signal_makes : {X : Type 0} (f : X → Primitive) (library : Library) (level : Level) (x : Name) (o : Outcome (List Value)) (v : Seeing) (result : Result X Halt) → Meets f result (signal_of x o)
    → Makes f library level (λ S. with_value o (λ vs. signal_in level (signalled x vs)) S) v v result
signal_makes f library level x (Ok vs) v (Ok q) is = record { goes_on = GoesOn-same v; then_signal = λ grows p. signal_made (f q) (the_value is) p }
  where
    the_value : ◌≡◌ {A = Outcome Primitive} (Ok (f q)) (Ok (signalled x vs)) → f q ≡ signalled x vs
    the_value e = ap (λ (o : Outcome Primitive). or_it o) e
      where
        or_it : Outcome Primitive → Primitive
        or_it (Ok p) = p
        or_it (Err c) = f q

    signal_made : (p : Primitive) → p ≡ signalled x vs → {more : List Read} {before after : Changes} {a : Answer} → FaithfulWork library (signal_in level p) more before after a
        → FaithfulWork library (signal_in level (signalled x vs)) more before after (followed (tells (without_detachments (operation_items p))) a)
    signal_made p same {more} {before} {after} {a} q =
        subst (λ r. FaithfulWork library (signal_in level (signalled x vs)) more before after (followed (tells (without_detachments (operation_items r))) a)) (sym same)
        (subst (λ r. FaithfulWork library (signal_in level r) more before after a) same q)
signal_makes f library level x (Err d) v (Ok q) is = cc
signal_makes f library level x o v (Err (ByCause c)) is = signal_halt x (λ vs. signal_in level (signalled x vs)) o (ByCause c) library level v f is
signal_makes f library level x o v (Err Memory) is = tt

-- ---- what is found

pub found_adds : {A : Type 0} {library : Library} {of : State → Outcome A} (f : A → Work) {x : A} {v w z : Seeing} {before after : Answer}
    → Finding library of v w (Ok x) → Adds library (f x) w z before after → Adds library (λ S. with_value (of S) f S) v z before after
found_adds f found r = appends_as (λ a runs. found_value f found runs) r

pub found_steps : {A : Type 0} (library : Library) (of : State → Outcome A) (f : A → Work) (x : A) (v w z : Seeing) (before after : Answer) (result : Result ⊤ Halt)
    → Finding library of v w (Ok x) → Steps library (f x) w z before after result
    → Steps library (λ S. with_value (of S) f S) v z before after result
found_steps library of f x v w z before after (Ok u) found r = found_adds f found r
found_steps library of f x v w z before after (Err (ByCause c)) found r = (r.0, found_value f found r.1)
found_steps library of f x v w z before after (Err Memory) found r = tt

pub found_halt : {A X : Type 0} (a : Answer) (f : X → A) (next : A → Work) (of : State → Outcome A) (h : Halt) (library : Library) (v w : Seeing) → Looks f library of v w (Err h)
    → Steps library (λ S. with_value (of S) next S) v w a a (Err h)
found_halt a f next of (ByCause c) library v w found = (refl, found_cause next found)
found_halt a f next of Memory library v w found = tt

-- ---- the statement that fires a rule

pub fire_halt : (lib : RustLibrary) (context : Context) (now depth n : ℕ) (h : Halt) (v w : Seeing) → OnlyReads v w → Fires (library lib) now depth n w (Err h)
    → TasksStart lib depth (run_statement (fire n) (level_at (library lib) now depth) context) v w (Err h)
fire_halt lib context now depth n (ByCause c) v w only fires = record {
  goes_on = GoesOn-only only;
  faithful = subst (λ b. FaithfulWork (library lib) (run_statement (fire n) (level_at (library lib) now depth) context) w.reads b (written w) (ended (abort_by (cause c)))) (only_written only) fires;
}
fire_halt lib context now depth n Memory v w only fires = tt

starts : (library : Library) (now depth n : ℕ) (s : Status) → (s ≡ absent → ⊥) → (S : State)
    → start_fired s (level_at library now depth) n S ≡ start (level_at library 0 depth).below (fired_task (level_at library now depth) n ∷ []) S
starts library now depth n absent there S = absurd (there refl)
starts library now depth n enabled there S = refl
starts library now depth n disabled there S = refl

pub fire_runs : {library : Library} (context : Context) {now depth n : ℕ} {v w z : Seeing} {t : Task} {a : Answer} → OnlyReads v w → IsFired library now depth n w t
    → Runs library (start (level_at library 0 depth).below (t ∷ [])) w z a
    → Runs library (run_statement (fire n) (level_at library now depth) context) v z a
fire_runs {library} context {now} {depth} {n} {v} {w} {z} {t} {a} only fired r =
    let fires : Runs library (start_fired fired.status (level_at library now depth) n) w z a =
    runs_as (start (level_at library 0 depth).below (t ∷ [])) (start_fired fired.status (level_at library now depth) n)
    (λ S. starts library now depth n fired.status fired.there S ∙ ap (λ (u : Task). start (level_at library 0 depth).below (u ∷ []) S) (sym fired.is)) r in
    record {
      goes_on = GoesOn-then (GoesOn-only only) r.goes_on;
      faithful = subst (λ b. FaithfulWork library (run_statement (fire n) (level_at library now depth) context) z.reads b (written z) a) (only_written only)
          (faithful_fire (level_at library now depth) n (finds_more (grows r.goes_on) fired.finds) fires.faithful);
    }

-- ---- bodies

answers_now : (env : Environment) (found : Answers) → (with_answers env found).now ≡ env.now
answers_now env [] = refl
answers_now env ((x, []) ∷ found) = answers_now env found
answers_now env ((x, r ∷ rs) ∷ found) = answers_now (bound x r env) found

values_now : (env : Environment) (found : NamedValues) → (with_values env found).now ≡ env.now
values_now env [] = refl
values_now env (v ∷ found) = values_now (holding v.0 v.1 env) found

-- an action runs at its task's moment
pub findings_now : (env : Environment) (found : Findings) → (with_findings env found).now ≡ env.now
findings_now env found = values_now (with_answers env found.answers) found.values ∙ answers_now env found.answers

-- a body in the same context
pub body_under : {library : Library} (b : Body) {x y : Context} {d e : ℕ} {v w : Seeing} {a : Answer} → x ≡ y → d ≡ e → Runs library (run_body b (level_at library x.environment.now d) x) v w a
    → Runs library (run_body b (level_at library y.environment.now e) y) v w a
body_under {library} b {x} {y} {d} {e} {v} {w} {a} same deep r =
    subst (λ (z : Context). Runs library (run_body b (level_at library z.environment.now e) z) v w a) same
    (subst (λ n. Runs library (run_body b (level_at library x.environment.now n) x) v w a) deep r)

-- ---- a statement `veto`

pub veto_is : (s : Stmt) (message : Option (Box Expr)) → s ≡ Veto message → veto_statement message ≡ statement s
veto_is s None is = search (rules, the_lemmas)
veto_is s (Some e) is = search (rules, the_lemmas)

-- ---- a statement with a body, by its parts

pub with_is : (s : Stmt) (variable : String Global) (class : ℕ) (key : Box Expr) (body : Vec Stmt) → s ≡ With variable class key body
    → R.with_object (string_bytes variable) class (expression key.value) (body_in body.items) ≡ statement s
with_is s variable class key body is = search (rules, the_lemmas, row_body_lem)

-- ---- what a cause ends before it was made or started

pub made_halt : {X : Type 0} (a : Answer) (f : X → Primitive) (library : Library) (level : Level) (work : Work) (v w : Seeing) (h : Halt) → Makes f library level work v w (Err h)
    → Steps library work v w a a (Err h)
made_halt a f library level work v w (ByCause c) made = (refl, made)
made_halt a f library level work v w Memory made = tt

pub start_halt : (a : Answer) (lib : RustLibrary) (depth : ℕ) (work : Work) (v w : Seeing) (h : Halt) → TasksStart lib depth work v w (Err h) → Steps (library lib) work v w a a (Err h)
start_halt a lib depth work v w (ByCause c) starts = (refl, starts)
start_halt a lib depth work v w Memory starts = tt

-- what a statement made, and what its signal did
pub signal_adds : {library : Library} {level : Level} {work : Work} {v w z : Seeing} {p : Primitive} {before middle after : Answer} → Made library level work v w p
    → middle ≡ followed before (tells (without_detachments (operation_items p))) → Adds library (signal_in level p) w z middle after → Adds library work v z before after
signal_adds {p = p} {before} made is r = record {
  answer = followed (tells (without_detachments (operation_items p))) r.answer;
  is = runs_signal made r.is;
  added = r.added ∙ ap (λ a. followed a r.answer) is ∙ followed-assoc before (tells (without_detachments (operation_items p))) r.answer;
}
