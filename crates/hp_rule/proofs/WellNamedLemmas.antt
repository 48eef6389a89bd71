-- Checked libraries and bodies are well named.
use Rattle.std.proofs.Common.{◌≡◌, ℕ, zero, suc, nat_lt, Bool, true, false, not, cond, ◌&&◌, ◌||◌, List, [], ◌∷◌, ◌++◌, length, map, Ok, Err, refl, sym, ap, ◌∙◌, bytes_eq, subst}
use Rattle.std.proofs.Common.{append_assoc, append-nil}
use Rattle.std.specs.Prelude.{⊤, codes}
use Rattle.std.specs.List.{list_all, list_any, IsDistinct, AllByRecursion}
use Rattle.std.specs.Cmp.{IsEquivalence, decided}
use lib.Pointwise.{bytes_decides}
use Rattle.std.proofs.lemmas.List.{map-append}
use Rattle.std.proofs.lemmas.Map.Keys.{IsDistinct-push}
use Rattle.hp_model.specs.Values.{Name, ClassDef, Field, ◌>>=◌}
use Rattle.hp_model.specs.Expressions.{Expression, constant, arithmetic, negated, inverted, both, either, compared, field_of, key_of, new_field, old_field, key_in, argument}
use Rattle.hp_model.specs.Expressions.{time_of, occurrence_count, value_named, time_now}
use Rattle.hp_model.specs.Events.{Pattern, on_create, on_update, on_delete, on_signal, on_commit, at_moment, every_moment, Event, pattern_event, or_event, seq_event, closure_event}
use Rattle.hp_model.specs.Rules.{Query, Aggregate, count_over, sum_over, least_over, greatest_over, next_key, single, Entry, query_entry, no_entry, let_entry}
use Rattle.hp_model.specs.Rules.{Assignment, Statement, create, update, delete, signal, emit, when, each, for_answer, with_object, subtransaction, let_value, abort, veto, veto_with, on_rule, fire}
use Rattle.hp_model.specs.Rules.{Body, empty, ◌then◌, Rule, Library}
use Rattle.hp_model.specs.Refusals.{Path, under_root, item_at, Refusal, bad_name, Decoded}
use Rattle.hp_model.specs.Checked as C
use Rattle.hp_rule.specs.WellNamed as W

abbrev Passed : Decoded ⊤ → Type 0
Passed check = check ≡ Ok tt

first_passed : (a b : Decoded ⊤) → Passed (a >>= λ _. b) → Passed a
first_passed (Ok u) b is = refl
first_passed (Err e) b is = cc

then_passed : (a b : Decoded ⊤) → Passed (a >>= λ _. b) → Passed b
then_passed (Ok u) b is = is
then_passed (Err e) b is = cc

-- what a test lets pass
passed_if : (b : Bool) (r : Refusal) → Passed (cond b (Ok tt) (Err r)) → b ≡ true
passed_if true r is = refl
passed_if false r is = cc

passed_unless : (b : Bool) (r : Refusal) → Passed (cond b (Err r) (Ok tt)) → b ≡ false
passed_unless true r is = cc
passed_unless false r is = refl

not_not : (b : Bool) → not b ≡ false → b ≡ true
not_not true is = refl
not_not false is = cc

both_are : {a b : Bool} → a ≡ true → b ≡ true → (a && b) ≡ true
both_are {a} {b} p q = ap (λ x. x && b) p ∙ q

-- ---- names

allowed : (refused : Bool) (path : Path) (x : Name) → Passed (C.name_unless refused path x) → refused ≡ false
unfolding C.name_unless
allowed refused path x is = passed_unless refused (bad_name path) (then_passed (C.name_check path x) _ is)

known : (names : List Name) (path : Path) (x : Name) → Passed (C.known_name_check names path x) → C.is_known names x ≡ true
known names path x is = not_not (C.is_known names x) (allowed (not (C.is_known names x)) path x is)

numbered : (count : ℕ) (path : Path) (n : ℕ) → Passed (C.number_check count path n) → nat_lt n count ≡ true
numbered count path n is = passed_if (nat_lt n count) (bad_name path) is

-- ---- expressions and events

operands_pass : {A : Type 0} (part : Path → A → Decoded ⊤) (path : Path) (a b : A) → Passed (C.operands_check part path a b) → Passed (part (item_at path 1) a) × Passed (part (item_at path 2) b)
unfolding C.operands_check
operands_pass part path a b is = (first_passed (part (item_at path 1) a) (part (item_at path 2) b) is, then_passed (part (item_at path 1) a) (part (item_at path 2) b) is)

field_known : (names : C.Names) (path : Path) (x f : Name) → Passed (C.field_check names path x f) → C.is_known names.rows x ≡ true
unfolding C.field_check
field_known names path x f is = known names.rows (item_at path 1) x (first_passed (C.known_name_check names.rows (item_at path 1) x) _ is)

pub expression_knows : (names : C.Names) (levels : ℕ) (path : Path) (e : Expression) → Passed (C.expression_check names levels path e) → W.knows_expression names e ≡ true
unfolding C.expression_check
expression_knows names zero path e is = cc
expression_knows names (suc levels) path (constant v) is = refl
expression_knows names (suc levels) path (arithmetic op a b) is =
    let parts = operands_pass (C.expression_check names levels) path a b is in
    both_are (expression_knows names levels (item_at path 1) a parts.0) (expression_knows names levels (item_at path 2) b parts.1)
expression_knows names (suc levels) path (negated a) is = expression_knows names levels (item_at path 1) a is
expression_knows names (suc levels) path (inverted a) is = expression_knows names levels (item_at path 1) a is
expression_knows names (suc levels) path (both a b) is =
    let parts = operands_pass (C.expression_check names levels) path a b is in
    both_are (expression_knows names levels (item_at path 1) a parts.0) (expression_knows names levels (item_at path 2) b parts.1)
expression_knows names (suc levels) path (either a b) is =
    let parts = operands_pass (C.expression_check names levels) path a b is in
    both_are (expression_knows names levels (item_at path 1) a parts.0) (expression_knows names levels (item_at path 2) b parts.1)
expression_knows names (suc levels) path (compared op a b) is =
    let parts = operands_pass (C.expression_check names levels) path a b is in
    both_are (expression_knows names levels (item_at path 1) a parts.0) (expression_knows names levels (item_at path 2) b parts.1)
expression_knows names (suc levels) path (field_of x f) is = field_known names path x f is
expression_knows names (suc levels) path (key_of x) is = known names.rows (item_at path 1) x is
expression_knows names (suc levels) path (new_field i f) is = refl
expression_knows names (suc levels) path (old_field i f) is = refl
expression_knows names (suc levels) path (key_in i) is = refl
expression_knows names (suc levels) path (argument i j) is = refl
expression_knows names (suc levels) path (time_of i) is = refl
expression_knows names (suc levels) path occurrence_count is = refl
expression_knows names (suc levels) path (value_named x) is = known names.values (item_at path 1) x is
expression_knows names (suc levels) path time_now is = refl

pattern_knows : (classes : ℕ) (path : Path) (pattern : Pattern) → Passed (C.pattern_check classes path pattern) → W.knows_pattern classes pattern ≡ true
pattern_knows classes path (on_create c) is = numbered classes (item_at path 1) c is
pattern_knows classes path (on_update c) is = numbered classes (item_at path 1) c is
pattern_knows classes path (on_delete c) is = numbered classes (item_at path 1) c is
pattern_knows classes path (on_signal x) is = refl
pattern_knows classes path on_commit is = refl
pattern_knows classes path (at_moment t) is = refl
pattern_knows classes path (every_moment first period) is = refl

pub event_knows : (classes levels : ℕ) (path : Path) (e : Event) → Passed (C.event_check classes levels path e) → W.knows_event classes e ≡ true
unfolding C.event_check
event_knows classes zero path e is = cc
event_knows classes (suc levels) path (pattern_event pattern) is = pattern_knows classes path pattern is
event_knows classes (suc levels) path (or_event a b) is =
    let parts = operands_pass (C.event_check classes levels) path a b is in
    both_are (event_knows classes levels (item_at path 1) a parts.0) (event_knows classes levels (item_at path 2) b parts.1)
event_knows classes (suc levels) path (seq_event a b) is =
    let parts = operands_pass (C.event_check classes levels) path a b is in
    both_are (event_knows classes levels (item_at path 1) a parts.0) (event_knows classes levels (item_at path 2) b parts.1)
event_knows classes (suc levels) path (closure_event a t) is =
    let parts = operands_pass (C.event_check classes levels) path a t is in
    both_are (event_knows classes levels (item_at path 1) a parts.0) (event_knows classes levels (item_at path 2) t parts.1)

-- ---- lists

-- a property that each item's check establishes
each_passes : {A : Type 0} (check : List A → Path → A → Decoded ⊤) (test : A → Bool) → ((before : List A) (path : Path) (x : A) → Passed (check before path x) → test x ≡ true)
    → (path : Path) (before : List A) (i : ℕ) (xs : List A) → Passed (C.each_check check path before i xs) → list_all test xs ≡ true
each_passes check test sure path before i [] is = refl
each_passes check test sure path before i (x ∷ xs) is =
    both_are (sure before (item_at path i) x (first_passed (check before (item_at path i) x) _ is))
    (each_passes check test sure path (before ++ x ∷ []) (suc i) xs (then_passed (check before (item_at path i) x) _ is))

-- ---- statements

assigned : (fields before : List Name) (path : Path) (x : Name) → Passed (C.assigned_check fields before path x) → C.is_known fields x ≡ true
unfolding C.assigned_check
assigned fields before path x is = passed_if (C.is_known fields x) (bad_name path) (then_passed (C.new_name_check before path x) _ is)

assignment_knows : (fields : List Field) (names : C.Names) (before : List Assignment) (path : Path) (a : Assignment) → Passed (C.assignment_check fields names before path a)
    → W.knows_assignment (C.field_names fields) names a ≡ true
unfolding C.assignment_check
assignment_knows fields names before path a is =
    both_are (assigned (C.field_names fields) (C.assigned_names before) (item_at path 0) a.field
    (first_passed (C.assigned_check (C.field_names fields) (C.assigned_names before) (item_at path 0) a.field) _ is))
    (expression_knows names 16 (item_at path 1) a.value (then_passed (C.assigned_check (C.field_names fields) (C.assigned_names before) (item_at path 0) a.field) _ is))

assignments_know : (fields : List Field) (names : C.Names) (path : Path) (pairs : List Assignment) → Passed (C.assignments_check fields names path pairs)
    → list_all (λ a. W.knows_assignment (C.field_names fields) names a) pairs ≡ true
assignments_know fields names path pairs is = each_passes (C.assignment_check fields names) _ (assignment_knows fields names) path [] 0 pairs is

row_knows : (scope : C.Scope) (names : C.Names) (path : Path) (class : ℕ) (key : Expression) (pairs : List Assignment) (last : Decoded ⊤)
    → Passed (C.class_check scope (item_at path 1) class >>= λ _. C.whole_expression_check names (item_at path 2) key >>= λ _. C.assignments_check
    (C.fields_of scope class) names (item_at path 3) pairs >>= λ _. last)
    → W.knows_row scope names class key pairs ≡ true
row_knows scope names path class key pairs last is =
    let key_and_pairs = then_passed (C.class_check scope (item_at path 1) class) _ is in
    let just_pairs = then_passed (C.whole_expression_check names (item_at path 2) key) _ key_and_pairs in
    both_are (numbered (length scope.classes) (item_at path 1) class (first_passed (C.class_check scope (item_at path 1) class) _ is))
    (both_are (expression_knows names 16 (item_at path 2) key (first_passed (C.whole_expression_check names (item_at path 2) key) _ key_and_pairs))
    (assignments_know (C.fields_of scope class) names (item_at path 3) pairs (first_passed (C.assignments_check (C.fields_of scope class) names (item_at path 3) pairs) last just_pairs)))

create_knows : (scope : C.Scope) (names : C.Names) (path : Path) (class : ℕ) (key : Expression) (pairs : List Assignment) → Passed (C.create_check scope names path class key pairs)
    → W.knows_row scope names class key pairs ≡ true
unfolding C.create_check
create_knows scope names path class key pairs is = row_knows scope names path class key pairs _ is

update_knows : (scope : C.Scope) (names : C.Names) (path : Path) (class : ℕ) (key : Expression) (pairs : List Assignment) → Passed (C.update_check scope names path class key pairs)
    → W.knows_row scope names class key pairs ≡ true
unfolding C.update_check
update_knows scope names path class key pairs is =
    let key_and_pairs = then_passed (C.class_check scope (item_at path 1) class) _ is in
    both_are (numbered (length scope.classes) (item_at path 1) class (first_passed (C.class_check scope (item_at path 1) class) _ is))
    (both_are (expression_knows names 16 (item_at path 2) key (first_passed (C.whole_expression_check names (item_at path 2) key) _ key_and_pairs))
    (assignments_know (C.fields_of scope class) names (item_at path 3) pairs (then_passed (C.whole_expression_check names (item_at path 2) key) _ key_and_pairs)))

delete_knows : (scope : C.Scope) (names : C.Names) (path : Path) (class : ℕ) (key : Expression) → Passed (C.delete_check scope names path class key)
    → (W.knows_class scope class && W.knows_expression names key) ≡ true
unfolding C.delete_check
delete_knows scope names path class key is =
    both_are (numbered (length scope.classes) (item_at path 1) class (first_passed (C.class_check scope (item_at path 1) class) _ is))
    (expression_knows names 16 (item_at path 2) key (then_passed (C.class_check scope (item_at path 1) class) _ is))

arguments_know : (names : C.Names) (path : Path) (arguments : List Expression) → Passed (C.arguments_check names path arguments) → list_all (λ e. W.knows_expression names e) arguments ≡ true
unfolding C.arguments_check
arguments_know names path arguments is =
    each_passes (λ _. C.whole_expression_check names) _ (λ before path' e. expression_knows names 16 path' e) path [] 0 arguments
    (then_passed _ (C.each_check (λ _. C.whole_expression_check names) path [] 0 arguments) is)

signal_knows : (names : C.Names) (path : Path) (x : Name) (arguments : List Expression) → Passed (C.signal_check names path x arguments) → list_all (λ e. W.knows_expression names e) arguments ≡ true
unfolding C.signal_check
signal_knows names path x arguments is = arguments_know names (item_at path 2) arguments (then_passed (C.name_check (item_at path 1) x) _ is)

-- ---- aggregates

module _ (classes : ℕ) (names : C.Names) where
  over_knows : (path : Path) (x : Name) (class : ℕ) (predicate : Expression) → Passed (C.over_check classes names path x class predicate) → W.knows_over classes names x class predicate ≡ true
  unfolding C.over_check
  over_knows path x class predicate is =
      let named = then_passed (C.new_name_check (C.taken names) (item_at path 1) x) _ is in
      both_are (numbered classes (item_at path 2) class (first_passed (C.number_check classes (item_at path 2) class) _ named))
      (expression_knows (C.knowing_row x names) 16 (item_at path 3) predicate (then_passed (C.number_check classes (item_at path 2) class) _ named))

  terms_know : (path : Path) (x : Name) (class : ℕ) (predicate term : Expression) → Passed (C.terms_check classes names path x class predicate term)
      → W.knows_terms classes names x class predicate term ≡ true
  unfolding C.terms_check
  terms_know path x class predicate term is =
      both_are (over_knows path x class predicate (first_passed (C.over_check classes names path x class predicate) _ is))
      (expression_knows (C.knowing_row x names) 16 (item_at path 4) term (then_passed (C.over_check classes names path x class predicate) _ is))

  aggregate_knows : (path : Path) (a : Aggregate) → Passed (C.aggregate_check classes names path a) → W.knows_aggregate classes names a ≡ true
  aggregate_knows path (count_over x class predicate) is = over_knows path x class predicate is
  aggregate_knows path (sum_over x class predicate term) is = terms_know path x class predicate term is
  aggregate_knows path (least_over x class predicate term) is = terms_know path x class predicate term is
  aggregate_knows path (greatest_over x class predicate term) is = terms_know path x class predicate term is
  aggregate_knows path (next_key class) is = numbered classes (item_at path 1) class is
  aggregate_knows path (single e) is = expression_knows names 16 path e is

-- ---- statements with inner statements

-- statements whose inner statements are checked by `check`, which establishes the property
module _ (scope : C.Scope) (check : C.StatementCheck) (sure : (names : C.Names) (path : Path) (s : Statement) → Passed (check names path s) → W.knows_statement scope names s ≡ true) where
  body_knows : (names : C.Names) (path : Path) (i : ℕ) (b : Body) → Passed (C.statements_check check names path i b) → W.knows_body scope names b ≡ true
  body_knows names path i empty is = refl
  body_knows names path i (s then rest) is =
      both_are (sure names (item_at path i) s (first_passed (check names (item_at path i) s) _ is)) (body_knows names path (suc i) rest (then_passed (check names (item_at path i) s) _ is))

  when_knows : (names : C.Names) (path : Path) (e : Expression) (t f : Body) → Passed (C.when_check check names path e t f)
      → (W.knows_expression names e && (W.knows_body scope names t && W.knows_body scope names f)) ≡ true
  unfolding C.when_check
  when_knows names path e t f is =
      let bodies = then_passed (C.whole_expression_check names (item_at path 1) e) _ is in
      both_are (expression_knows names 16 (item_at path 1) e (first_passed (C.whole_expression_check names (item_at path 1) e) _ is))
      (both_are (body_knows names (item_at path 2) 0 t (first_passed (C.body_check check names (item_at path 2) t) _ bodies))
      (body_knows names (item_at path 3) 0 f (then_passed (C.body_check check names (item_at path 2) t) _ bodies)))

  each_row_knows : (names : C.Names) (path : Path) (x : Name) (class : ℕ) (e : Expression) (b : Body) → Passed (C.each_row_check scope check names path x class e b)
      → (W.knows_class scope class && (W.knows_expression (C.knowing_row x names) e && W.knows_body scope (C.knowing_row x names) b)) ≡ true
  unfolding C.each_row_check
  each_row_knows names path x class e b is =
      let named = then_passed (C.new_name_check (C.taken names) (item_at path 1) x) _ is in
      let inner = then_passed (C.class_check scope (item_at path 2) class) _ named in
      both_are (numbered (length scope.classes) (item_at path 2) class (first_passed (C.class_check scope (item_at path 2) class) _ named))
      (both_are (expression_knows (C.knowing_row x names) 16 (item_at path 3) e (first_passed (C.whole_expression_check (C.knowing_row x names) (item_at path 3) e) _ inner))
      (body_knows (C.knowing_row x names) (item_at path 4) 0 b (then_passed (C.whole_expression_check (C.knowing_row x names) (item_at path 3) e) _ inner)))

  for_answer_knows : (names : C.Names) (path : Path) (x : Name) (b : Body) → Passed (C.for_answer_check scope check names path x b) → (C.is_known scope.queries x && W.knows_body scope names b) ≡ true
  unfolding C.for_answer_check
  for_answer_knows names path x b is =
      both_are (known scope.queries (item_at path 1) x (first_passed (C.known_name_check scope.queries (item_at path 1) x) _ is))
      (body_knows names (item_at path 2) 0 b (then_passed (C.known_name_check scope.queries (item_at path 1) x) _ is))

  with_object_knows : (names : C.Names) (path : Path) (x : Name) (class : ℕ) (e : Expression) (b : Body) → Passed (C.with_object_check scope check names path x class e b)
      → (W.knows_class scope class && (W.knows_expression names e && W.knows_body scope (C.knowing_row x names) b)) ≡ true
  unfolding C.with_object_check
  with_object_knows names path x class e b is =
      let named = then_passed (C.new_name_check (C.taken names) (item_at path 1) x) _ is in
      let inner = then_passed (C.class_check scope (item_at path 2) class) _ named in
      both_are (numbered (length scope.classes) (item_at path 2) class (first_passed (C.class_check scope (item_at path 2) class) _ named))
      (both_are (expression_knows names 16 (item_at path 3) e (first_passed (C.whole_expression_check names (item_at path 3) e) _ inner))
      (body_knows (C.knowing_row x names) (item_at path 4) 0 b (then_passed (C.whole_expression_check names (item_at path 3) e) _ inner)))

  subtransaction_knows : (names : C.Names) (path : Path) (b o : Body) → Passed (C.subtransaction_check check names path b o) → (W.knows_body scope names b && W.knows_body scope names o) ≡ true
  unfolding C.subtransaction_check
  subtransaction_knows names path b o is =
      both_are (body_knows names (item_at path 1) 0 b (first_passed (C.body_check check names (item_at path 1) b) _ is))
      (body_knows names (item_at path 2) 0 o (then_passed (C.body_check check names (item_at path 1) b) _ is))

  let_value_knows : (names : C.Names) (path : Path) (x : Name) (a : Aggregate) (b : Body) → Passed (C.let_value_check scope check names path x a b)
      → (W.knows_aggregate (length scope.classes) names a && W.knows_body scope (C.knowing_value x names) b) ≡ true
  unfolding C.let_value_check
  let_value_knows names path x a b is =
      let named = then_passed (C.new_name_check (C.taken names) (item_at path 1) x) _ is in
      let computed = C.aggregate_check (length scope.classes) names (item_at path 2) a in
      both_are (aggregate_knows (length scope.classes) names (item_at path 2) a (first_passed computed _ named))
      (body_knows (C.knowing_value x names) (item_at path 3) 0 b (then_passed computed _ named))

  stands_in_action : (path : Path) → Passed (C.veto_check scope path veto) → scope.in_action ≡ true
  stands_in_action path may = not_not scope.in_action (passed_unless (not scope.in_action) _ may)

  parts_know : (names : C.Names) (path : Path) (s : Statement) → Passed (C.veto_check scope path s) → Passed (C.statement_parts_check scope check names path s) → W.knows_statement scope names s ≡ true
  parts_know names path (create class key pairs) may is = create_knows scope names path class key pairs is
  parts_know names path (update class key pairs) may is = update_knows scope names path class key pairs is
  parts_know names path (delete class key) may is = delete_knows scope names path class key is
  parts_know names path (signal x arguments) may is = signal_knows names path x arguments is
  parts_know names path (emit e) may is = expression_knows names 16 (item_at path 1) e is
  parts_know names path (when e t f) may is = when_knows names path e t f is
  parts_know names path (each x class e b) may is = each_row_knows names path x class e b is
  parts_know names path (for_answer x b) may is = for_answer_knows names path x b is
  parts_know names path (with_object x class e b) may is = with_object_knows names path x class e b is
  parts_know names path (subtransaction b o) may is = subtransaction_knows names path b o is
  parts_know names path (let_value x a b) may is = let_value_knows names path x a b is
  parts_know names path abort may is = refl
  parts_know names path veto may is = stands_in_action path may
  parts_know names path (veto_with e) may is = both_are (stands_in_action path may) (expression_knows names 16 (item_at path 1) e is)
  parts_know names path (on_rule op n) may is = numbered scope.rules (item_at path 1) n is
  parts_know names path (fire n) may is = numbered scope.rules (item_at path 1) n is

pub statement_knows : (scope : C.Scope) (levels : ℕ) (names : C.Names) (path : Path) (s : Statement) → Passed (C.statement_check scope levels names path s) → W.knows_statement scope names s ≡ true
unfolding C.statement_check
statement_knows scope zero names path s is = let no = then_passed (C.veto_check scope path s) _ is in cc
statement_knows scope (suc levels) names path s is =
    parts_know scope (C.statement_check scope levels) (statement_knows scope levels) names path s
    (first_passed (C.veto_check scope path s) _ is) (then_passed (C.veto_check scope path s) _ is)

pub whole_body_knows : (scope : C.Scope) (names : C.Names) (path : Path) (b : Body) → Passed (C.whole_body_check scope names path b) → W.knows_body scope names b ≡ true
whole_body_knows scope names path b is = body_knows scope (C.statement_check scope 16) (statement_knows scope 16) names path 0 b is

-- ---- rules

query_knows : (classes : ℕ) (names : C.Names) (first second third : Path) (q : Query) → Passed (C.query_check classes names first second third q)
    → W.knows_over classes names q.name q.class q.predicate ≡ true
unfolding C.query_check
query_knows classes names first second third q is =
    let named = then_passed (C.new_name_check (C.taken names) first q.name) _ is in
    both_are (numbered classes second q.class (first_passed (C.number_check classes second q.class) _ named))
    (expression_knows (C.knowing_row q.name names) 16 third q.predicate (then_passed (C.number_check classes second q.class) _ named))

let_entry_knows : (classes : ℕ) (names : C.Names) (path : Path) (x : Name) (a : Aggregate) → Passed (C.let_entry_check classes names path x a) → W.knows_aggregate classes names a ≡ true
unfolding C.let_entry_check
let_entry_knows classes names path x a is = aggregate_knows classes names (item_at path 2) a (then_passed (C.new_name_check (C.taken names) (item_at path 1) x) _ is)

entry_knows : (classes : ℕ) (before : List Entry) (path : Path) (e : Entry) → Passed (C.entry_check classes before path e) → W.knows_entry classes (C.names_of before) e ≡ true
entry_knows classes before path (query_entry q) is = query_knows classes (C.names_of before) (item_at path 0) (item_at path 1) (item_at path 2) q is
entry_knows classes before path (no_entry q) is = query_knows classes (C.names_of before) (item_at path 1) (item_at path 2) (item_at path 3) q is
entry_knows classes before path (let_entry x a) is = let_entry_knows classes (C.names_of before) path x a is

entries_know : (classes : ℕ) (path : Path) (before : List Entry) (i : ℕ) (es : List Entry) → Passed (C.each_check (C.entry_check classes) path before i es) → W.knows_entries classes before es ≡ true
entries_know classes path before i [] is = refl
entries_know classes path before i (e ∷ es) is =
    both_are (entry_knows classes before (item_at path i) e (first_passed (C.entry_check classes before (item_at path i) e) _ is))
    (entries_know classes path (before ++ e ∷ []) (suc i) es (then_passed (C.entry_check classes before (item_at path i) e) _ is))

rule_knows : (classes : List ClassDef) (rules : ℕ) (path : Path) (r : Rule) → Passed (C.rule_check classes rules path r) → W.knows_rule classes rules r ≡ true
unfolding C.rule_check
rule_knows classes rules path r is =
    let later = then_passed (C.event_check (length classes) 16 (item_at path 1) r.event) _ is in
    let condition = C.condition_check (length classes) (item_at path 3) r.condition in
    both_are (event_knows (length classes) 16 (item_at path 1) r.event (first_passed (C.event_check (length classes) 16 (item_at path 1) r.event) _ is))
    (both_are (entries_know (length classes) (item_at path 3) [] 0 r.condition (first_passed condition _ later))
    (whole_body_knows (C.action_scope classes rules r.condition) (C.names_of r.condition) (item_at path 5) r.action (then_passed condition _ later)))

-- ---- distinct names

bytes_equiv : IsEquivalence bytes_eq
bytes_equiv = decided bytes_eq bytes_decides

turned : (x : Name) (ns : List Name) → C.is_known ns x ≡ list_any (bytes_eq x) ns
turned x [] = refl
turned x (n ∷ ns) = ap (λ b. b || C.is_known ns x) (bytes_equiv.symm n x) ∙ ap (λ b. bytes_eq x n || b) (turned x ns)

-- names stay distinct where each item's check refuses the names before it
each_distinct : {A : Type 0} (check : List A → Path → A → Decoded ⊤) (name : A → Name)
    → ((before : List A) (path : Path) (x : A) → Passed (check before path x) → C.is_known (map name before) (name x) ≡ false)
    → (path : Path) (before : List A) (i : ℕ) (xs : List A) → Passed (C.each_check check path before i xs) → IsDistinct bytes_eq (map name before) → IsDistinct bytes_eq (map name (before ++ xs))
each_distinct check name differs path before i [] is distinct = subst (λ ys. IsDistinct bytes_eq (map name ys)) (sym (append-nil before)) distinct
each_distinct check name differs path before i (x ∷ xs) is distinct =
    let new : list_any (bytes_eq (name x)) (map name before) ≡ false = sym (turned (name x) (map name before))
    ∙ differs before (item_at path i) x (first_passed (check before (item_at path i) x) _ is) in
    let more : IsDistinct bytes_eq (map name (before ++ x ∷ [])) = subst (IsDistinct bytes_eq) (sym (map-append name before (x ∷ [])))
    (IsDistinct-push bytes_equiv (map name before) (name x) distinct new) in
    subst (λ ys. IsDistinct bytes_eq (map name ys)) (append_assoc before (x ∷ []) xs)
    (each_distinct check name differs path (before ++ x ∷ []) (suc i) xs (then_passed (check before (item_at path i) x) _ is) more)

none_distinct : IsDistinct bytes_eq []
unfolding IsDistinct
none_distinct = tt

class_differs : (before : List ClassDef) (path : Path) (c : ClassDef) → Passed (C.class_definition_check before path c) → C.is_known (C.class_names before) c.name ≡ false
unfolding C.class_definition_check
class_differs before path c is = allowed (C.is_known (C.class_names before) c.name) (item_at path 0) c.name (first_passed (C.new_name_check (C.class_names before) (item_at path 0) c.name) _ is)

classes_distinct : (path : Path) (classes : List ClassDef) → Passed (C.classes_check path classes) → IsDistinct bytes_eq (C.class_names classes)
unfolding C.classes_check
classes_distinct path classes is =
    each_distinct C.class_definition_check (λ (c : ClassDef). c.name) class_differs path [] 0 classes (then_passed _ (C.each_check C.class_definition_check path [] 0 classes) is) none_distinct

field_differs : (before : List Field) (path : Path) (f : Field) → Passed (C.field_definition_check before path f) → C.is_known (C.field_names before) f.name ≡ false
unfolding C.field_definition_check
field_differs before path f is = allowed (C.is_known (C.field_names before) f.name) (item_at path 0) f.name is

fields_distinct : (path : Path) (fields : List Field) → Passed (C.fields_check path fields) → IsDistinct bytes_eq (C.field_names fields)
unfolding C.fields_check
fields_distinct path fields is =
    each_distinct C.field_definition_check (λ (f : Field). f.name) field_differs path [] 0 fields (then_passed _ (C.each_check C.field_definition_check path [] 0 fields) is) none_distinct

class_fields_distinct : (before : List ClassDef) (path : Path) (c : ClassDef) → Passed (C.class_definition_check before path c) → IsDistinct bytes_eq (C.field_names c.fields)
unfolding C.class_definition_check
class_fields_distinct before path c is = fields_distinct (item_at path 1) c.fields (then_passed (C.new_name_check (C.class_names before) (item_at path 0) c.name) _ is)

each_class_distinct : (path : Path) (before : List ClassDef) (i : ℕ) (classes : List ClassDef) → Passed (C.each_check C.class_definition_check path before i classes)
    → AllByRecursion (λ (c : ClassDef). IsDistinct bytes_eq (C.field_names c.fields)) classes
each_class_distinct path before i [] is = tt
each_class_distinct path before i (c ∷ cs) is = (
  class_fields_distinct before (item_at path i) c (first_passed (C.class_definition_check before (item_at path i) c) _ is),
  each_class_distinct path (before ++ c ∷ []) (suc i) cs (then_passed (C.class_definition_check before (item_at path i) c) _ is),
)

classes_fields_distinct : (path : Path) (classes : List ClassDef) → Passed (C.classes_check path classes) → AllByRecursion (λ (c : ClassDef). IsDistinct bytes_eq (C.field_names c.fields)) classes
unfolding C.classes_check
classes_fields_distinct path classes is = each_class_distinct path [] 0 classes (then_passed _ (C.each_check C.class_definition_check path [] 0 classes) is)

rule_differs : (before : List Rule) (path : Path) (r : Rule) → Passed (C.head_check before path r) → C.is_known (C.rule_names before) r.name ≡ false
unfolding C.head_check
rule_differs before path r is = allowed (C.is_known (C.rule_names before) r.name) (item_at path 0) r.name is

rules_distinct : (path : Path) (rules : List Rule) → Passed (C.heads_check path rules) → IsDistinct bytes_eq (C.rule_names rules)
unfolding C.heads_check
rules_distinct path rules is =
    each_distinct C.head_check (λ (r : Rule). r.name) rule_differs path [] 0 rules (then_passed _ (C.each_check C.head_check path [] 0 rules) is) none_distinct

-- ---- libraries and bodies

pub library_is_well_named : (library : Library) → Passed (C.library_check library) → W.IsWellNamed library
unfolding C.library_check
library_is_well_named library is =
    let classes = C.classes_check (under_root (codes "classes")) library.classes in
    let heads = C.heads_check (under_root (codes "rules")) library.rules in
    let after_depth = then_passed (C.depth_check library.depth_limit) _ is in
    let after_classes = then_passed classes _ after_depth in
    let last = then_passed heads _ after_classes in
    record {
      classes_differ = classes_distinct (under_root (codes "classes")) library.classes (first_passed classes _ after_depth);
      rules_differ = rules_distinct (under_root (codes "rules")) library.rules (first_passed heads _ after_classes);
      rules_know = each_passes (λ _. C.rule_check library.classes (length library.rules)) (λ r. W.knows_rule library.classes (length library.rules) r)
          (λ before path r. rule_knows library.classes (length library.rules) path r) (under_root (codes "rules")) [] 0 library.rules last;
    }

-- no class has two fields of one name
pub library_fields_differ : (library : Library) → Passed (C.library_check library) → AllByRecursion (λ (c : ClassDef). IsDistinct bytes_eq (C.field_names c.fields)) library.classes
unfolding C.library_check
library_fields_differ library is =
    let classes = C.classes_check (under_root (codes "classes")) library.classes in
    classes_fields_distinct (under_root (codes "classes")) library.classes (first_passed classes _ (then_passed (C.depth_check library.depth_limit) _ is))

pub body_is_well_named : (library : Library) (path : Path) (b : Body) → Passed (C.script_body_check library path b) → W.IsWellNamedBody library b
body_is_well_named library path b is = whole_body_knows (C.script_scope library) C.no_names path b is
