-- Statements before their event is signalled.
use Rattle.std.proofs.Common.{◌≡◌, refl, sym, ap, ◌∙◌, ℕ, ℤ, List, ◌++◌}
use Rattle.std.specs.Prelude.{Result, Ok, Err, Option, Some, None, ⊤}
use Rattle.hp_model.specs.Values.{Value, Row, KeyedRow, Cause, missing, Outcome, ◌>>=◌, or_cause}
use Rattle.hp_model.specs.Occurrences.{Primitive}
use Rattle.hp_model.specs.Expressions.{Expression, Environment, value_of}
use Rattle.hp_model.specs.Rules.{Library, RuleOperation, Assignment, create, update, delete, emit, on_rule, class_at}
use Rattle.hp_model.specs.State.{State, Objects, find_object}
use Rattle.hp_model.specs.Tree.{no_items, operation, emission, rule_op, without_detachments}
use Rattle.hp_model.specs.Transactions.{Work, abort_by, with_value, with_items}
use Rattle.hp_model.specs.Firing.{Level, Context, signal_in, run_statement, keyed_row, made_row, checked_kinds, integer_value, named_object, created_if_absent, updated_if_present, deleted_if_present}
use Rattle.hp_model.specs.Cells.{Changes, Read}
use Rattle.hp_model.specs.Soundness.{Answer}
use Rattle.hp_model.specs.Answers.{FaithfulWork, Finds, ended, tells, followed}
use Rattle.hp_model.specs.Operations.{Operated, FaithfulOperation, create_object, update_object, delete_object, set_rule, operation_items}
use Rattle.hp_model.proofs.Faithful.{Grows, faithful_as, faithful_items}
use Rattle.hp_model.proofs.FaithfulOperations.{faithful_create_refused, faithful_create_made, faithful_update_refused, faithful_update_made, faithful_delete_refused}
use Rattle.hp_model.proofs.FaithfulOperations.{faithful_delete_made, faithful_rule_statement, faithful_rule_statement_refused}
use Rattle.hp_model.proofs.BridgesKeys.{ObjectsRise}
use Rattle.hp_value.specs.declared.halt.Halt.{Halt}
use Rattle.hp_value.specs.declared.halt.Halt.TheVariants.{Cause as ByCause, Memory}
use Rattle.hp_value.specs.Mapped.{Meets, cause}
use Rattle.hp_ops.specs.Performs.{Performs}
use Rattle.hp_ops.proofs.Worlds.{finds_world}
use Rattle.hp_view.specs.Seeing.{Seeing, written, GoesOn, OnlyReads}
use Rattle.hp_view.specs.Looks.{Allows}
use Rattle.hp_view.proofs.Reading.{GoesOn-only}
use Rattle.hp_view.proofs.Views.{GoesOn-same}
use Rattle.hp_fire.specs.Runs.{Runs, Steps, Finding, Looks, Makes}
use Rattle.hp_fire.proofs.Steps.{runs_as, runs_cause, runs_value}

-- ---- values that don't depend on the state

-- a statement whose value is a cause, or for which memory ran out
pub steps_halt : {A B : Type 0} (a : Answer) (f : A → B) (next : State → B → Work) (o : Outcome B) (h : Halt) (library : Library) (v : Seeing) → Meets f (Err h) o
    → Steps library (λ S. with_value o (next S) S) v v a a (Err h)
steps_halt a f next o (ByCause c) library v is = (refl, runs_cause next o (cause c) v is)
steps_halt a f next o Memory library v is = tt

pub makes_halt : {A B X : Type 0} (f : A → B) (g : X → Primitive) (next : State → B → Work) (o : Outcome B) (h : Halt) (library : Library) (level : Level) (v : Seeing) → Meets f (Err h) o
    → Makes g library level (λ S. with_value o (next S) S) v v (Err h)
makes_halt f g next o (ByCause c) library level v is = runs_cause next o (cause c) v is
makes_halt f g next o Memory library level v is = tt

makes_as : {X : Type 0} (g : X → Primitive) (one other : Work) (library : Library) (level : Level) (v w : Seeing) (result : Result X Halt) → ((S : State) → other S ≡ one S)
    → Makes g library level one v w result → Makes g library level other v w result
makes_as g one other library level v w (Ok p) same m = record { goes_on = m.goes_on; then_signal = λ grows q. faithful_as one other same (m.then_signal grows q) }
makes_as g one other library level v w (Err (ByCause c)) same m = runs_as one other same m
makes_as g one other library level v w (Err Memory) same m = tt

-- ---- operations

module _ {X : Type 0} (g : X → Primitive) (library : Library) (level : Level) (work : Work) (run : State → Operated Primitive)
    (refused : (reads : List Read) (before after : Changes) (c : Cause) → FaithfulOperation library run reads before after (Err c) → FaithfulWork library work reads before after (ended (abort_by c)))
    (made : (reads more : List Read) (w0 w1 w2 : Changes) (p : Primitive) (a : Answer) → Grows reads more → FaithfulOperation library run reads w0 w1 (Ok p)
    → FaithfulWork library (signal_in level p) more w1 w2 a
    → FaithfulWork library work more w0 w2 (followed (tells (without_detachments (operation_items p))) a)) where
  operation_makes : (v w : Seeing) (result : Result X Halt) → GoesOn v w → Performs g library run v w result → Makes g library level work v w result
  operation_makes v w (Ok p) on performs = record { goes_on = on; then_signal = λ grows q. made _ _ _ _ _ _ _ grows performs q }
  operation_makes v w (Err (ByCause c)) on performs = record { goes_on = on; faithful = refused _ _ _ _ performs }
  operation_makes v w (Err Memory) on performs = tt

module _ {X : Type 0} (g : X → Primitive) (library : Library) (level : Level) (context : Context) (class : ℕ) (key : Expression) where
  pub create_makes : (pairs : List Assignment) (r : KeyedRow) (v w : Seeing) (result : Result X Halt)
      → Ok r ≡ keyed_row context.environment key pairs (made_row (class_at level.library class).fields) → GoesOn v w → Performs g library (create_object class r.key r.row) v w result
      → Makes g library level (run_statement (create class key pairs) level context) v w result
  create_makes pairs r v w result is on performs =
      makes_as g (λ S. created_if_absent level class r.key r.row (find_object S.objects class r.key) S) (run_statement (create class key pairs) level context) library level v w result
      (λ S. ap (λ (o : Outcome KeyedRow). with_value o (λ k. created_if_absent level class k.key k.row (find_object S.objects class k.key)) S) (sym is))
      (operation_makes g library level (λ S. created_if_absent level class r.key r.row (find_object S.objects class r.key) S) (create_object class r.key r.row)
      (λ reads before after c p. faithful_create_refused level class r.key r.row p) (λ reads more w0 w1 w2 p a grows q h. faithful_create_made level class r.key r.row grows q h)
      v w result on performs)

  pub update_makes : (pairs : List Assignment) (r : KeyedRow) (v w : Seeing) (result : Result X Halt)
      → Ok r ≡ keyed_row context.environment key pairs (checked_kinds (class_at level.library class).fields) → GoesOn v w → Performs g library (update_object class r.key r.row) v w result
      → Makes g library level (run_statement (update class key pairs) level context) v w result
  update_makes pairs r v w result is on performs =
      makes_as g (λ S. updated_if_present level class r.key r.row (find_object S.objects class r.key) S) (run_statement (update class key pairs) level context) library level v w result
      (λ S. ap (λ (o : Outcome KeyedRow). with_value o (λ k. updated_if_present level class k.key k.row (find_object S.objects class k.key)) S) (sym is))
      (operation_makes g library level (λ S. updated_if_present level class r.key r.row (find_object S.objects class r.key) S) (update_object class r.key r.row)
      (λ reads before after c p. faithful_update_refused level class r.key r.row p) (λ reads more w0 w1 w2 p a grows q h. faithful_update_made level class r.key r.row grows q h)
      v w result on performs)

  pub delete_makes : (k : ℤ) (v w : Seeing) (result : Result X Halt) → Ok k ≡ integer_value context.environment key → GoesOn v w → Performs g library (delete_object class k) v w result
      → Makes g library level (run_statement (delete class key) level context) v w result
  delete_makes k v w result is on performs =
      makes_as g (λ S. deleted_if_present level class k (find_object S.objects class k) S) (run_statement (delete class key) level context) library level v w result
      (λ S. ap (λ (o : Outcome ℤ). with_value o (λ z. deleted_if_present level class z (find_object S.objects class z)) S) (sym is))
      (operation_makes g library level (λ S. deleted_if_present level class k (find_object S.objects class k) S) (delete_object class k)
      (λ reads before after c p. faithful_delete_refused level class k p) (λ reads more w0 w1 w2 p a grows q h. faithful_delete_made level class k grows q h) v w result on performs)

-- ---- signals

-- values in front of the others
abbrev pub onto_values : List Value → Outcome (List Value) → Outcome (List Value)
onto_values vs (Ok ws) = Ok (vs ++ ws)
onto_values vs (Err c) = Err c

-- ---- what statements find

-- what holds in each world that a view allows
pub looks_of : {A X : Type 0} (f : X → A) (library : Library) (of : Objects → Outcome A) (v w : Seeing) (result : Result X Halt) → OnlyReads v w
    → ((world : Objects) → ObjectsRise world → Allows w world → Meets f result (of world)) → Looks f library (λ S. of S.objects) v w result
looks_of f library of v w (Ok x) only shown = record {
  only = only;
  goes_on = GoesOn-only only;
  finds = finds_world library of w (Ok (f x)) (λ world rise allowed. sym (shown world rise allowed));
}
looks_of f library of v w (Err (ByCause c)) only shown = record {
  only = only;
  goes_on = GoesOn-only only;
  finds = finds_world library of w (Err (cause c)) (λ world rise allowed. sym (shown world rise allowed));
}
looks_of f library of v w (Err Memory) only shown = tt

named_is : (env : Environment) (class : ℕ) (key : Expression) (k : ℤ) → Ok k ≡ integer_value env key → (found : Option Row) (S : State) → find_object S.objects class k ≡ found
    → named_object S.objects env class key ≡ (or_cause found missing >>= λ row. Ok (record { key = k; row = row }))
named_is env class key k is found S there =
    ap (λ (o : Outcome ℤ). o >>= λ z. or_cause (find_object S.objects class z) missing >>= λ row. Ok (the_row z row)) (sym is)
    ∙ ap (λ (o : Option Row). or_cause o missing >>= λ row. Ok (the_row k row)) there
  where
    the_row : ℤ → Row → KeyedRow
    the_row z row = record { key = z; row = row }

pub named_there : (library : Library) (env : Environment) (class : ℕ) (key : Expression) (k : ℤ) (row : Row) (v w : Seeing) → Ok k ≡ integer_value env key → OnlyReads v w
    → Finds library (λ S. find_object S.objects class k) w.reads (written w) (Some row) → Finding library (λ S. named_object S.objects env class key) v w (Ok (record { key = k; row = row }))
named_there library env class key k row v w is only finds = record {
  only = only;
  goes_on = GoesOn-only only;
  finds = record { from = λ base held S ordered at. named_is env class key k is (Some row) S (finds.from base held S ordered at) };
}

pub named_missing : (library : Library) (env : Environment) (class : ℕ) (key : Expression) (k : ℤ) (v w : Seeing) → Ok k ≡ integer_value env key → OnlyReads v w
    → Finds library (λ S. find_object S.objects class k) w.reads (written w) None → Finding library (λ S. named_object S.objects env class key) v w (Err missing)
named_missing library env class key k v w is only finds = record {
  only = only;
  goes_on = GoesOn-only only;
  finds = record { from = λ base held S ordered at. named_is env class key k is None S (finds.from base held S ordered at) };
}

-- ---- statements without an event

pub emit_runs : (library : Library) (level : Level) (context : Context) (e : Expression) (v : Value) (view : Seeing) → Ok v ≡ value_of context.environment e
    → Runs library (run_statement (emit e) level context) view view (tells (emission v no_items))
emit_runs library level context e v view is =
    runs_value (λ x. with_items (emission x no_items)) (value_of context.environment e) v is (record { goes_on = GoesOn-same view; faithful = faithful_items (emission v no_items) })

pub rule_halt : (a : Answer) (library : Library) (level : Level) (context : Context) (op : RuleOperation) (n : ℕ) (h : Halt) (v w : Seeing) → GoesOn v w
    → Performs (λ (u : ⊤). tt) library (set_rule op n) v w (Err h)
    → Steps library (run_statement (on_rule op n) level context) v w a a (Err h)
rule_halt a library level context op n (ByCause c) v w on performs = (refl, record { goes_on = on; faithful = faithful_rule_statement_refused op n performs })
rule_halt a library level context op n Memory v w on performs = tt

pub rule_runs : (library : Library) (level : Level) (context : Context) (op : RuleOperation) (n : ℕ) (v w : Seeing) → GoesOn v w
    → FaithfulOperation library (set_rule op n) w.reads (written v) (written w) (Ok tt)
    → Runs library (run_statement (on_rule op n) level context) v w (tells (operation (rule_op op n) no_items))
rule_runs library level context op n v w on performs = record { goes_on = on; faithful = faithful_rule_statement op n performs }
