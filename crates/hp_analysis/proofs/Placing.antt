-- Each finding names a place at which the judgement fails.
use Rattle.std.proofs.Common.{◌≡◌, refl, sym, ap, ap₂, ◌∙◌, ℕ, zero, suc, Bool, true, false, List, [], ◌∷◌, ◌++◌, take, Option, Some, None, Ok, Err, append_assoc, append-nil, inl, inr, drop}
use Rattle.std.specs.Prelude.{⊤, bytes_eq, slice_get, unwrap_or, if◌then◌else◌}
use Rattle.std.specs.List.{AllByRecursion}
use Rattle.std.specs.Map.{lookup}
use Rattle.hp_model.specs.Values.{Name, Kind, integer_kind, boolean_kind, text_kind, Field, ◌>>=◌}
use Rattle.hp_model.specs.Expressions.{Comparison, equal, unequal, less, at_most, greater, at_least, Expression, constant, arithmetic, negated, inverted, both, either, compared}
use Rattle.hp_model.specs.Expressions.{field_of, key_of, new_field, old_field, key_in, argument, time_of, occurrence_count, value_named, time_now}
use Rattle.hp_model.specs.Rules.{Aggregate, count_over, sum_over, least_over, greatest_over, next_key, single, Entry, query_entry, no_entry, let_entry}
use Rattle.hp_model.specs.Rules.{Assignment, Statement, create, update, delete, signal, emit, when, each, for_answer, with_object, subtransaction, let_value, abort, veto}
use Rattle.hp_model.specs.Rules.{veto_with, on_rule, fire, Body, empty, ◌then◌, Rule, Library, class_at}
use Rattle.hp_model.specs.Firing.{kind_in}
use Rattle.hp_model.specs.Cascade.{Unit, transaction, moment}
use Rattle.hp_model.specs.Refusals.{to_item, Path, under_root, item_at}
use Rattle.hp_model.specs.Kinds as K
use Rattle.hp_model.specs.Kinds.{Sort, only, any, Declared, signature_of, is_fired, Columns, columns_by, Scope, with_name, with_sort, no_scope, is_only, all_assigned}
use Rattle.hp_model.specs.Kinds.{aggregate_sort, entries_kinded, with_entries, query_classes, sort_of}
use Rattle.hp_analysis.specs.Findings as F
use Rattle.hp_analysis.specs.Findings.{Finding, Wanted, Reason, Reasoned, Judged, found, finds_nothing, refused, placed, reasoned, suits, demanded, operand_sort, operands_sort}
use Rattle.hp_analysis.specs.Findings.{alike_check, ordered_check, comparable_check, comparison_sort, expression_check, kind_check, assignment_check, assignments_findings}
use Rattle.hp_analysis.specs.Findings.{update_findings, all_set, create_findings, none_missing, next_demand, later_demands, argument_check, arguments_findings, emission_check}
use Rattle.hp_analysis.specs.Findings.{query_known, single_check, own_findings, inner_findings, statement_findings, body_findings, value_sort, count_check, sum_check, is_ordered}
use Rattle.hp_analysis.specs.Findings.{extreme_check, aggregate_check, value_check, first_scope, test_findings, query_findings, entry_findings, scope_then, entries_findings, rule_findings}
use Rattle.hp_analysis.specs.Findings.{rules_findings, library_findings, unit_findings, rules_member, row_field_sort, row_key_sort, count_sort, read_new, read_old, read_key}
use Rattle.hp_analysis.specs.Findings.{read_argument, read_time}
use Rattle.hp_analysis.specs.Parts.{Part, expression_part, statement_part, field_part, pairs_part, query_part, along, part_in_expression, part_in_aggregate, part_in_pair}
use Rattle.hp_analysis.specs.Parts.{part_in_pairs, part_in_arguments, part_in_statement, part_in_body, part_in_entry, part_in_condition, part_in_rule, part_in_rules}
use Rattle.hp_analysis.specs.Parts.{part_in_library, part_in_unit, is_wanted, IsRefused, ArePlaced}
use Rattle.hp_analysis.proofs.Bodies.{body_from, from_start, statement_is, later_is}
use Rattle.hp_analysis.proofs.Judging.{value_in, chosen, sort_given, statement_judged}

-- ---- results that have a part

-- a finding is at a part below the path, where the judgement fails
abbrev pub Stands : Library → Declared → (Path → Option Part) → Path → Finding → Type 0
Stands library d parts path f = (steps : Path) × (part : Part) × (f.path ≡ path ++ steps) × (parts steps ≡ Some part) × IsRefused library d part f.reason

abbrev pub Located : {A : Type 0} → Library → Declared → (Path → Option Part) → Path → Judged A → Type 0
Located library d parts path (Ok x) = ⊤
Located library d parts path (Err f) = Stands library d parts path f

module _ (library : Library) (d : Declared) where
  abbrev Standing : (Path → Option Part) → Path → Finding → Type 0
  Standing = Stands library d

  located_then : {A B : Type 0} (parts : Path → Option Part) (path : Path) (a : Judged A) (b : A → Judged B) → Located library d parts path a
      → ((x : A) → a ≡ Ok x → Located library d parts path (b x)) → Located library d parts path (a >>= b)
  located_then parts path (Ok x) b first later = later x refl
  located_then parts path (Err f) b first later = first

  -- what stands below an item of the path stands below the path
  deeper : (parts inner : Path → Option Part) (path : Path) (i : ℕ) (f : Finding) → ((steps : Path) → parts (to_item i ∷ steps) ≡ inner steps)
      → Standing inner (item_at path i) f → Standing parts path f
  deeper parts inner path i f same (steps, part, is, found, fails) =
      (to_item i ∷ steps, part, is ∙ append_assoc path (to_item i ∷ []) steps, same steps ∙ found, fails)

  located_deeper : {A : Type 0} (parts inner : Path → Option Part) (path : Path) (i : ℕ) (r : Judged A) → ((steps : Path) → parts (to_item i ∷ steps) ≡ inner steps)
      → Located library d inner (item_at path i) r → Located library d parts path r
  located_deeper parts inner path i (Ok x) same there = tt
  located_deeper parts inner path i (Err f) same there = deeper parts inner path i f same there

  -- all findings of a list are
  abbrev AllStand : (Path → Option Part) → Path → List Finding → Type 0
  AllStand parts path = AllByRecursion (Standing parts path)

  found_stand : {A : Type 0} (parts : Path → Option Part) (path : Path) (r : Judged A) → Located library d parts path r → AllStand parts path (found r)
  found_stand parts path (Ok x) there = tt
  found_stand parts path (Err f) there = (there, tt)

  both_stand : (parts : Path → Option Part) (path : Path) (xs ys : List Finding) → AllStand parts path xs → AllStand parts path ys → AllStand parts path (xs ++ ys)
  both_stand parts path [] ys first second = second
  both_stand parts path (x ∷ xs) ys (here, first) second = (here, both_stand parts path xs ys first second)

  stand_deeper : (parts inner : Path → Option Part) (path : Path) (i : ℕ) (fs : List Finding) → ((steps : Path) → parts (to_item i ∷ steps) ≡ inner steps)
      → AllStand inner (item_at path i) fs → AllStand parts path fs
  stand_deeper parts inner path i [] same there = tt
  stand_deeper parts inner path i (f ∷ fs) same (here, there) = (deeper parts inner path i f same here, stand_deeper parts inner path i fs same there)

  -- the part at the path itself
  here : (parts : Path → Option Part) (path : Path) (reason : Reason) (part : Part) → parts [] ≡ Some part → IsRefused library d part reason
      → Located {A = ⊤} library d parts path (refused path reason)
  here parts path reason part found fails = ([], part, sym (append-nil path), found, fails)

  -- ---- expressions

  abbrev In : Scope → Expression → Path → Option Part
  In scope e steps = part_in_expression scope steps e

  suits_located : (scope : Scope) (path : Path) (k : Kind) (s : Sort) (e : Expression) → sort_of library d scope e ≡ Some s → Located library d (In scope e) path (suits k path s)
  suits_located scope path k s e is = by (is_only k (Some s)) refl
    where
      by : (b : Bool) → is_only k (Some s) ≡ b → Located library d (In scope e) path (chosen b path (F.unsuited (F.of_kind k) s))
      by true same = tt
      by false same = here (In scope e) path (F.unsuited (F.of_kind k) s) (expression_part scope e) refl (inr (is, same))

  sort_is : (scope : Scope) (path : Path) (e : Expression) (s : Sort) → expression_check library d scope path e ≡ Ok s → sort_of library d scope e ≡ Some s
  sort_is scope path e s is = sym (sort_given library d scope path e) ∙ ap value_in is

  abbrev ExpressionLocated : Scope → Path → Expression → Type 0
  ExpressionLocated scope path e = Located library d (In scope e) path (expression_check library d scope path e)

  operand_located : (scope : Scope) (path : Path) (k : Kind) (e : Expression) → ExpressionLocated scope path e
      → Located library d (In scope e) path (operand_sort k path (expression_check library d scope path e))
  unfolding operand_sort
  operand_located scope path k e there =
      located_then (In scope e) path (expression_check library d scope path e) (λ s. suits k path s >>= λ _. Ok (only k)) there
      (λ s is. located_then (In scope e) path (suits k path s) (λ _. Ok (only k)) (suits_located scope path k s e (sort_is scope path e s is)) (λ _ _. tt))

  operands_located : (scope : Scope) (path : Path) (k : Kind) (e a b : Expression) → ((steps : Path) → In scope e (to_item 1 ∷ steps) ≡ In scope a steps)
      → ((steps : Path) → In scope e (to_item 2 ∷ steps) ≡ In scope b steps)
      → ExpressionLocated scope (item_at path 1) a → ExpressionLocated scope (item_at path 2) b
      → Located library d (In scope e) path (operands_sort k path (expression_check library d scope (item_at path 1) a) (expression_check library d scope (item_at path 2) b))
  unfolding operands_sort
  operands_located scope path k e a b first second left right =
      located_then (In scope e) path (operand_sort k (item_at path 1) (expression_check library d scope (item_at path 1) a))
      (λ _. operand_sort k (item_at path 2) (expression_check library d scope (item_at path 2) b))
      (located_deeper (In scope e) (In scope a) path 1 (operand_sort k (item_at path 1) (expression_check library d scope (item_at path 1) a)) first (operand_located scope (item_at path 1) k a left))
      (λ _ _. located_deeper (In scope e) (In scope b) path 2 (operand_sort k (item_at path 2) (expression_check library d scope (item_at path 2) b))
      second (operand_located scope (item_at path 2) k b right))

  left_refused : (scope : Scope) (path : Path) (e a : Expression) (w : Wanted) (s : Sort) → ((steps : Path) → In scope e (to_item 1 ∷ steps) ≡ In scope a steps)
      → sort_of library d scope a ≡ Some s → is_wanted w s ≡ false
      → Located {A = ⊤} library d (In scope e) path (refused (item_at path 1) (F.unsuited w s))
  left_refused scope path e a w s first is fails =
      located_deeper {A = ⊤} (In scope e) (In scope a) path 1 (refused (item_at path 1) (F.unsuited w s)) first
      (here (In scope a) (item_at path 1) (F.unsuited w s) (expression_part scope a) refl (inr (is, fails)))

  right_located : (scope : Scope) (path : Path) (e b : Expression) (k : Kind) (t : Sort) → ((steps : Path) → In scope e (to_item 2 ∷ steps) ≡ In scope b steps) → sort_of library d scope b ≡ Some t
      → Located library d (In scope e) path (suits k (item_at path 2) t)
  right_located scope path e b k t second is = located_deeper (In scope e) (In scope b) path 2 (suits k (item_at path 2) t) second (suits_located scope (item_at path 2) k t b is)

  module _ (scope : Scope) (path : Path) (e a b : Expression) (first : (steps : Path) → In scope e (to_item 1 ∷ steps) ≡ In scope a steps) (second : (steps : Path)
      → In scope e (to_item 2 ∷ steps) ≡ In scope b steps) where
    alike_located : (s t : Sort) → sort_of library d scope a ≡ Some s → sort_of library d scope b ≡ Some t → Located library d (In scope e) path (alike_check path s t)
    alike_located any t left right = left_refused scope path e a F.of_known_kind any first left refl
    alike_located (only k) t left right = right_located scope path e b k t second right

    ordered_located : (s t : Sort) → sort_of library d scope a ≡ Some s → sort_of library d scope b ≡ Some t → Located library d (In scope e) path (ordered_check path s t)
    ordered_located any t left right = left_refused scope path e a F.of_ordered_kind any first left refl
    ordered_located (only integer_kind) t left right = right_located scope path e b integer_kind t second right
    ordered_located (only boolean_kind) t left right = left_refused scope path e a F.of_ordered_kind (only boolean_kind) first left refl
    ordered_located (only text_kind) t left right = right_located scope path e b text_kind t second right

    comparable_located : (op : Comparison) (s t : Sort) → sort_of library d scope a ≡ Some s → sort_of library d scope b ≡ Some t → Located library d (In scope e) path (comparable_check op path s t)
    comparable_located equal s t left right = alike_located s t left right
    comparable_located unequal s t left right = alike_located s t left right
    comparable_located less s t left right = ordered_located s t left right
    comparable_located at_most s t left right = ordered_located s t left right
    comparable_located greater s t left right = ordered_located s t left right
    comparable_located at_least s t left right = ordered_located s t left right

    comparison_located : (op : Comparison) → ExpressionLocated scope (item_at path 1) a → ExpressionLocated scope (item_at path 2) b
        → Located library d (In scope e) path (comparison_sort op path (expression_check library d scope (item_at path 1) a) (expression_check library d scope (item_at path 2) b))
    unfolding comparison_sort
    comparison_located op left right =
        located_then (In scope e) path (expression_check library d scope (item_at path 1) a)
        (λ s. expression_check library d scope (item_at path 2) b >>= λ t. comparable_check op path s t >>= λ _. Ok (only boolean_kind))
        (located_deeper (In scope e) (In scope a) path 1 (expression_check library d scope (item_at path 1) a) first left)
        (λ s is. located_then (In scope e) path (expression_check library d scope (item_at path 2) b) (λ t. comparable_check op path s t >>= λ _. Ok (only boolean_kind))
        (located_deeper (In scope e) (In scope b) path 2 (expression_check library d scope (item_at path 2) b) second right)
        (λ t is'. located_then (In scope e) path (comparable_check op path s t) (λ _. Ok (only boolean_kind))
        (comparable_located op s t (sort_is scope (item_at path 1) a s is) (sort_is scope (item_at path 2) b t is')) (λ _ _. tt)))

  leaf_located : (scope : Scope) (path : Path) (e : Expression) (r : Reasoned Sort) → value_in (placed path r) ≡ sort_of library d scope e → Located library d (In scope e) path (placed path r)
  leaf_located scope path e (Ok s) same = tt
  leaf_located scope path e (Err why) same = ([], expression_part scope e, sym (append-nil path), refl, inl (sym same))

  expression_located : (scope : Scope) (path : Path) (e : Expression) → ExpressionLocated scope path e
  expression_located scope path (constant v) = tt
  expression_located scope path (arithmetic op a b) =
      operands_located scope path integer_kind (arithmetic op a b) a b (λ steps. refl) (λ steps. refl) (expression_located scope (item_at path 1) a) (expression_located scope (item_at path 2) b)
  expression_located scope path (negated a) =
      located_deeper (In scope (negated a)) (In scope a) path 1 (operand_sort integer_kind (item_at path 1) (expression_check library d scope (item_at path 1) a)) (λ steps. refl)
      (operand_located scope (item_at path 1) integer_kind a (expression_located scope (item_at path 1) a))
  expression_located scope path (inverted a) =
      located_deeper (In scope (inverted a)) (In scope a) path 1 (operand_sort boolean_kind (item_at path 1) (expression_check library d scope (item_at path 1) a)) (λ steps. refl)
      (operand_located scope (item_at path 1) boolean_kind a (expression_located scope (item_at path 1) a))
  expression_located scope path (both a b) =
      operands_located scope path boolean_kind (both a b) a b (λ steps. refl) (λ steps. refl) (expression_located scope (item_at path 1) a) (expression_located scope (item_at path 2) b)
  expression_located scope path (either a b) =
      operands_located scope path boolean_kind (either a b) a b (λ steps. refl) (λ steps. refl) (expression_located scope (item_at path 1) a) (expression_located scope (item_at path 2) b)
  expression_located scope path (compared op a b) =
      comparison_located scope path (compared op a b) a b (λ steps. refl) (λ steps. refl) op (expression_located scope (item_at path 1) a) (expression_located scope (item_at path 2) b)
  expression_located scope path (field_of x f) = leaf_located scope path (field_of x f) (row_field_sort library scope x f) (sort_given library d scope path (field_of x f))
  expression_located scope path (key_of x) = leaf_located scope path (key_of x) (row_key_sort scope x) (sort_given library d scope path (key_of x))
  expression_located scope path (new_field i f) = leaf_located scope path (new_field i f) (F.part_sort library d scope.columns i (read_new f)) (sort_given library d scope path (new_field i f))
  expression_located scope path (old_field i f) = leaf_located scope path (old_field i f) (F.part_sort library d scope.columns i (read_old f)) (sort_given library d scope path (old_field i f))
  expression_located scope path (key_in i) = leaf_located scope path (key_in i) (F.part_sort library d scope.columns i read_key) (sort_given library d scope path (key_in i))
  expression_located scope path (argument i j) = leaf_located scope path (argument i j) (F.part_sort library d scope.columns i (read_argument j)) (sort_given library d scope path (argument i j))
  expression_located scope path (time_of i) = leaf_located scope path (time_of i) (F.part_sort library d scope.columns i read_time) (sort_given library d scope path (time_of i))
  expression_located scope path occurrence_count = leaf_located scope path occurrence_count (count_sort scope) (sort_given library d scope path occurrence_count)
  expression_located scope path (value_named x) = leaf_located scope path (value_named x) (value_sort scope x) (sort_given library d scope path (value_named x))
  expression_located scope path time_now = tt

  kind_located : (scope : Scope) (path : Path) (k : Kind) (e : Expression) → Located library d (In scope e) path (kind_check library d scope k path e)
  unfolding kind_check
  kind_located scope path k e =
      located_then (In scope e) path (expression_check library d scope path e) (suits k path) (expression_located scope path e) (λ s is. suits_located scope path k s e (sort_is scope path e s is))

  -- the operands of a test
  operands_stand : (scope : Scope) (path : Path) (e a b : Expression) → ((steps : Path) → In scope e (to_item 1 ∷ steps) ≡ In scope a steps)
      → ((steps : Path) → In scope e (to_item 2 ∷ steps) ≡ In scope b steps)
      → AllStand (In scope a) (item_at path 1) (test_findings library d scope (item_at path 1) a)
      → AllStand (In scope b) (item_at path 2) (test_findings library d scope (item_at path 2) b)
      → AllStand (In scope e) path (test_findings library d scope (item_at path 1) a ++ test_findings library d scope (item_at path 2) b)
  operands_stand scope path e a b first second left right =
      let one = test_findings library d scope (item_at path 1) a in
      let other = test_findings library d scope (item_at path 2) b in
      both_stand (In scope e) path one other
      (stand_deeper (In scope e) (In scope a) path 1 one first left) (stand_deeper (In scope e) (In scope b) path 2 other second right)

  test_stand : (scope : Scope) (path : Path) (e : Expression) → AllStand (In scope e) path (test_findings library d scope path e)
  test_stand scope path (both a b) = operands_stand scope path (both a b) a b (λ steps. refl) (λ steps. refl) (test_stand scope (item_at path 1) a) (test_stand scope (item_at path 2) b)
  test_stand scope path (either a b) = operands_stand scope path (either a b) a b (λ steps. refl) (λ steps. refl) (test_stand scope (item_at path 1) a) (test_stand scope (item_at path 2) b)
  test_stand scope path e = found_stand (In scope e) path (kind_check library d scope boolean_kind path e) (kind_located scope path boolean_kind e)

  -- a test at an item
  test_deeper : (scope : Scope) (path : Path) (parts : Path → Option Part) (i : ℕ) (e : Expression) → ((steps : Path) → parts (to_item i ∷ steps) ≡ In scope e steps)
      → AllStand parts path (test_findings library d scope (item_at path i) e)
  test_deeper scope path parts i e same = stand_deeper parts (In scope e) path i (test_findings library d scope (item_at path i) e) same (test_stand scope (item_at path i) e)

  -- ---- aggregates

  abbrev InAggregate : Scope → Aggregate → Path → Option Part
  InAggregate scope a steps = part_in_aggregate scope steps a

  -- the predicate of an aggregate over rows, with what is checked after it
  rows_located : {A : Type 0} (scope : Scope) (path : Path) (a : Aggregate) (inner : Scope) (predicate : Expression) (later : Judged A)
      → ((steps : Path) → InAggregate scope a (to_item 3 ∷ steps) ≡ In inner predicate steps) → Located library d (InAggregate scope a) path later
      → Located library d (InAggregate scope a) path (kind_check library d inner boolean_kind (item_at path 3) predicate >>= λ _. later)
  rows_located scope path a inner predicate later third there =
      located_then (InAggregate scope a) path (kind_check library d inner boolean_kind (item_at path 3) predicate) (λ _. later)
      (located_deeper (InAggregate scope a) (In inner predicate) path 3 (kind_check library d inner boolean_kind (item_at path 3) predicate) third
      (kind_located inner (item_at path 3) boolean_kind predicate)) (λ _ _. there)

  count_located : (scope : Scope) (path : Path) (x : Name) (class : ℕ) (predicate : Expression)
      → Located library d (InAggregate scope (count_over x class predicate)) path (count_check library d scope path x class predicate)
  unfolding count_check
  count_located scope path x class predicate = rows_located scope path (count_over x class predicate) (with_name x class scope) predicate (Ok (only integer_kind)) (λ steps. refl) tt

  sum_located : (scope : Scope) (path : Path) (x : Name) (class : ℕ) (predicate term : Expression)
      → Located library d (InAggregate scope (sum_over x class predicate term)) path (sum_check library d scope path x class predicate term)
  unfolding sum_check
  sum_located scope path x class predicate term =
      let a = sum_over x class predicate term in
      let inner = with_name x class scope in
      let terms = kind_check library d inner integer_kind (item_at path 4) term in
      rows_located scope path a inner predicate (terms >>= λ _. Ok (only integer_kind)) (λ steps. refl)
      (located_then (InAggregate scope a) path terms (λ _. Ok (only integer_kind))
      (located_deeper (InAggregate scope a) (In inner term) path 4 terms (λ steps. refl) (kind_located inner (item_at path 4) integer_kind term)) (λ _ _. tt))

  order_located : (scope : Scope) (path : Path) (e : Expression) (s : Sort) → sort_of library d scope e ≡ Some s → Located library d (In scope e) path (is_ordered path s)
  order_located scope path e any is = here (In scope e) path (F.unsuited F.of_ordered_kind any) (expression_part scope e) refl (inr (is, refl))
  order_located scope path e (only integer_kind) is = tt
  order_located scope path e (only boolean_kind) is = here (In scope e) path (F.unsuited F.of_ordered_kind (only boolean_kind)) (expression_part scope e) refl (inr (is, refl))
  order_located scope path e (only text_kind) is = tt

  extreme_located : (scope : Scope) (path : Path) (a : Aggregate) (x : Name) (class : ℕ) (predicate term : Expression)
      → ((steps : Path) → InAggregate scope a (to_item 3 ∷ steps) ≡ In (with_name x class scope) predicate steps)
      → ((steps : Path) → InAggregate scope a (to_item 4 ∷ steps) ≡ In (with_name x class scope) term steps)
      → Located library d (InAggregate scope a) path (extreme_check library d scope path x class predicate term)
  unfolding extreme_check
  extreme_located scope path a x class predicate term third fourth =
      let inner = with_name x class scope in
      let sorted = expression_check library d inner (item_at path 4) term in
      rows_located scope path a inner predicate (sorted >>= λ s. is_ordered (item_at path 4) s >>= λ _. Ok s) third
      (located_then (InAggregate scope a) path sorted (λ s. is_ordered (item_at path 4) s >>= λ _. Ok s)
      (located_deeper (InAggregate scope a) (In inner term) path 4 sorted fourth (expression_located inner (item_at path 4) term))
      (λ s is. located_then (InAggregate scope a) path (is_ordered (item_at path 4) s) (λ _. Ok s)
      (located_deeper (InAggregate scope a) (In inner term) path 4 (is_ordered (item_at path 4) s) fourth
      (order_located inner (item_at path 4) term s (sort_is inner (item_at path 4) term s is))) (λ _ _. tt)))

  aggregate_located : (scope : Scope) (path : Path) (a : Aggregate) → Located library d (InAggregate scope a) path (aggregate_check library d scope path a)
  aggregate_located scope path (count_over x class predicate) = count_located scope path x class predicate
  aggregate_located scope path (sum_over x class predicate term) = sum_located scope path x class predicate term
  aggregate_located scope path (least_over x class predicate term) = extreme_located scope path (least_over x class predicate term) x class predicate term (λ steps. refl) (λ steps. refl)
  aggregate_located scope path (greatest_over x class predicate term) = extreme_located scope path (greatest_over x class predicate term) x class predicate term (λ steps. refl) (λ steps. refl)
  aggregate_located scope path (next_key class) = tt
  aggregate_located scope path (single e) = expression_located scope path e

  -- ---- lists

  item_is : {A : Type 0} (i : ℕ) (whole : List A) (x : A) (rest : List A) → drop i whole ≡ x ∷ rest → slice_get whole i ≡ Some x
  item_is zero whole x rest is = ap (λ xs. slice_get xs 0) is
  item_is (suc i) [] x rest is = cc
  item_is (suc i) (y ∷ ys) x rest is = item_is i ys x rest is

  rest_is : {A : Type 0} (i : ℕ) (whole : List A) (x : A) (rest : List A) → drop i whole ≡ x ∷ rest → drop (suc i) whole ≡ rest
  rest_is zero whole x rest is = ap (drop 1) is
  rest_is (suc i) [] x rest is = cc
  rest_is (suc i) (y ∷ ys) x rest is = rest_is i ys x rest is

  -- ---- statements

  pair_located : (scope : Scope) (fields : List Field) (path : Path) (a : Assignment)
      → Located library d (λ steps. part_in_pair scope fields steps a) path (assignment_check library d scope fields path a)
  unfolding assignment_check
  pair_located scope fields path a = by (kind_in fields a.field) refl (λ k. kind_located scope (item_at path 1) k a.value)
    where
      by : (o : Option Kind) → kind_in fields a.field ≡ o → ((k : Kind) → Located library d (In scope a.value) (item_at path 1) (kind_check library d scope k (item_at path 1) a.value))
          → Located library d (λ steps. part_in_pair scope fields steps a) path (placed (item_at path 0) (reasoned F.no_such_field o) >>= λ k. kind_check library d scope k (item_at path 1) a.value)
      by None is there = (to_item 0 ∷ [], field_part fields a.field, refl, refl, is)
      by (Some k) is there = located_deeper (λ steps. part_in_pair scope fields steps a) (In scope a.value) path 1 (kind_check library d scope k (item_at path 1) a.value) (λ steps. refl) (there k)

  pairs_stand : (scope : Scope) (fields : List Field) (path : Path) (whole : List Assignment) (i : ℕ) (pairs : List Assignment) → drop i whole ≡ pairs
      → AllStand (λ steps. part_in_pairs scope fields steps whole) path (assignments_findings library d scope fields path i pairs)
  pairs_stand scope fields path whole i [] is = tt
  pairs_stand scope fields path whole i (a ∷ pairs) is =
      let parts : Path → Option Part = λ steps. part_in_pairs scope fields steps whole in
      let check = assignment_check library d scope fields (item_at path i) a in
      both_stand parts path (found check) (assignments_findings library d scope fields path (suc i) pairs)
      (found_stand parts path check
      (located_deeper parts (λ steps. part_in_pair scope fields steps a) path i check
      (λ steps. ap (λ o. along o (λ p. part_in_pair scope fields steps p)) (item_is i whole a pairs is)) (pair_located scope fields (item_at path i) a)))
      (pairs_stand scope fields path whole (suc i) pairs (rest_is i whole a pairs is))

  abbrev At : Scope → List (Name × ℕ) → Statement → Path → Option Part
  At scope queries s steps = part_in_statement library d scope queries steps s

  abbrev AtBody : Scope → List (Name × ℕ) → Body → Path → Option Part
  AtBody scope queries body steps = part_in_body library d scope queries steps body

  kind_stand : (scope : Scope) (path : Path) (parts : Path → Option Part) (i : ℕ) (k : Kind) (e : Expression) → ((steps : Path) → parts (to_item i ∷ steps) ≡ In scope e steps)
      → AllStand parts path (found (kind_check library d scope k (item_at path i) e))
  kind_stand scope path parts i k e same =
      let check = kind_check library d scope k (item_at path i) e in
      found_stand parts path check (located_deeper parts (In scope e) path i check same (kind_located scope (item_at path i) k e))

  update_stand : (scope : Scope) (queries : List (Name × ℕ)) (path : Path) (s : Statement) (class : ℕ) (key : Expression) (pairs : List Assignment)
      → ((steps : Path) → At scope queries s (to_item 2 ∷ steps) ≡ In scope key steps)
      → ((steps : Path) → At scope queries s (to_item 3 ∷ steps) ≡ part_in_pairs scope (class_at library class).fields steps pairs)
      → AllStand (At scope queries s) path (update_findings library d scope path class key pairs)
  update_stand scope queries path s class key pairs at_key at_pairs =
      let fields = (class_at library class).fields in
      both_stand (At scope queries s) path (found (kind_check library d scope integer_kind (item_at path 2) key)) (assignments_findings library d scope fields (item_at path 3) 0 pairs)
      (kind_stand scope path (At scope queries s) 2 integer_kind key at_key)
      (stand_deeper (At scope queries s) (λ steps. part_in_pairs scope fields steps pairs) path 3 (assignments_findings library d scope fields (item_at path 3) 0 pairs) at_pairs
      (pairs_stand scope fields (item_at path 3) pairs 0 pairs refl))

  create_stand : (scope : Scope) (queries : List (Name × ℕ)) (path : Path) (class : ℕ) (key : Expression) (pairs : List Assignment)
      → AllStand (At scope queries (create class key pairs)) path (create_findings library d scope path class key pairs)
  create_stand scope queries path class key pairs =
      let fields = (class_at library class).fields in
      let parts : Path → Option Part = At scope queries (create class key pairs) in
      both_stand parts path (update_findings library d scope path class key pairs) (found (all_set (item_at path 3) fields pairs))
      (update_stand scope queries path (create class key pairs) class key pairs (λ steps. refl) (λ steps. refl))
      (found_stand parts path (all_set (item_at path 3) fields pairs) (by (all_assigned fields pairs) refl))
    where
      by : (b : Bool) → all_assigned (class_at library class).fields pairs ≡ b → Located library d (At scope queries (create class key pairs)) path (chosen b (item_at path 3) F.unset_field)
      by true is = tt
      by false is = (to_item 3 ∷ [], pairs_part (class_at library class).fields pairs, refl, refl, is)

  demand_located : (scope : Scope) (path : Path) (e : Expression) (demand : Option Sort) (s : Sort) → sort_of library d scope e ≡ Some s → Located library d (In scope e) path (demanded demand path s)
  demand_located scope path e None s is = tt
  demand_located scope path e (Some any) s is = tt
  demand_located scope path e (Some (only k)) s is = suits_located scope path k s e is

  argument_located : (scope : Scope) (path : Path) (demand : Option Sort) (e : Expression) → Located library d (In scope e) path (argument_check library d scope demand path e)
  unfolding argument_check
  argument_located scope path demand e =
      located_then (In scope e) path (expression_check library d scope path e) (demanded demand path) (expression_located scope path e)
      (λ s is. demand_located scope path e demand s (sort_is scope path e s is))

  -- where something is found later, something is found
  found_later : {A : Type 0} (xs ys : List A) → finds_nothing ys ≡ false → finds_nothing (xs ++ ys) ≡ false
  found_later [] ys is = is
  found_later (x ∷ xs) ys is = refl

  arguments_stand : (scope : Scope) (queries : List (Name × ℕ)) (path : Path) (name : Name) (whole : List Expression) (i : ℕ) (ss : List Sort) (es : List Expression) → drop i whole ≡ es
      → (finds_nothing (arguments_findings library d scope path i ss es) ≡ false → K.statement_kinded library d scope queries (signal name whole) ≡ false)
      → AllStand (At scope queries (signal name whole)) path (arguments_findings library d scope path i ss es)
  arguments_stand scope queries path name whole i [] [] is fails = tt
  arguments_stand scope queries path name whole i (s ∷ ss) [] is fails =
      (here (At scope queries (signal name whole)) path F.too_few_arguments (statement_part scope queries (signal name whole)) refl (fails refl), tt)
  arguments_stand scope queries path name whole i ss (e ∷ es) is fails =
      let parts : Path → Option Part = At scope queries (signal name whole) in
      let check = argument_check library d scope (next_demand ss) (item_at (item_at path 2) i) e in
      let rest = arguments_findings library d scope path (suc i) (later_demands ss) es in
      both_stand parts path (found check) rest
      (found_stand parts path check
      (located_deeper parts (λ steps. part_in_arguments scope steps whole) path 2 check (λ steps. refl)
      (located_deeper (λ steps. part_in_arguments scope steps whole) (In scope e) (item_at path 2) i check
      (λ steps. ap (λ o. along o (λ p. part_in_expression scope steps p)) (item_is i whole e es is)) (argument_located scope (item_at (item_at path 2) i) (next_demand ss) e))))
      (arguments_stand scope queries path name whole (suc i) (later_demands ss) es (rest_is i whole e es is) (λ later. fails (found_later (found check) rest later)))

  -- a statement in which something is found isn't kinded
  if_found : (scope : Scope) (queries : List (Name × ℕ)) (path : Path) (s : Statement) (fs : List Finding) → statement_findings library d scope queries path s ≡ fs ++ [] → finds_nothing fs ≡ false
      → K.statement_kinded library d scope queries s ≡ false
  if_found scope queries path s [] is some = cc
  if_found scope queries path s (f ∷ fs) is some = sym (statement_judged library d scope queries path s) ∙ ap finds_nothing is

  emission_located : (scope : Scope) (queries : List (Name × ℕ)) (path : Path) (s : Statement) (e : Expression) → ((steps : Path) → At scope queries s (to_item 1 ∷ steps) ≡ In scope e steps)
      → Located library d (At scope queries s) path (emission_check library d scope path e)
  unfolding emission_check
  emission_located scope queries path s e first =
      located_then (At scope queries s) path (expression_check library d scope (item_at path 1) e) (λ _. Ok tt)
      (located_deeper (At scope queries s) (In scope e) path 1 (expression_check library d scope (item_at path 1) e) first (expression_located scope (item_at path 1) e)) (λ _ _. tt)

  value_located : (scope : Scope) (path : Path) (a : Aggregate) → Located library d (InAggregate scope a) path (value_check library d scope path a)
  unfolding value_check
  value_located scope path a = located_then (InAggregate scope a) path (aggregate_check library d scope path a) (λ _. Ok tt) (aggregate_located scope path a) (λ _ _. tt)

  query_located : (scope : Scope) (queries : List (Name × ℕ)) (path : Path) (x : Name) (body : Body)
      → Located library d (At scope queries (for_answer x body)) path (query_known (item_at path 1) (lookup (bytes_eq x) queries))
  query_located scope queries path x body = by (lookup (bytes_eq x) queries) refl
    where
      by : (o : Option ℕ) → lookup (bytes_eq x) queries ≡ o → Located library d (At scope queries (for_answer x body)) path (query_known (item_at path 1) o)
      by None is = (to_item 1 ∷ [], query_part queries x, refl, refl, is)
      by (Some class) is = tt

  fire_located : (scope : Scope) (queries : List (Name × ℕ)) (path : Path) (n : ℕ) → Located library d (At scope queries (fire n)) path (single_check library d scope queries path (fire n))
  fire_located scope queries path n = by (is_fired d n) refl
    where
      by : (b : Bool) → is_fired d n ≡ b → Located library d (At scope queries (fire n)) path (chosen b path F.not_fired)
      by true is = tt
      by false is = here (At scope queries (fire n)) path F.not_fired (statement_part scope queries (fire n)) refl is

  abbrev OwnStand : Scope → List (Name × ℕ) → Path → Statement → Type 0
  OwnStand scope queries path s = AllStand (At scope queries s) path (own_findings library d scope queries path s)

  -- of a statement that evaluates or names one thing
  one_stand : (scope : Scope) (queries : List (Name × ℕ)) (path : Path) (s : Statement) → Located library d (At scope queries s) path (single_check library d scope queries path s)
      → AllStand (At scope queries s) path (found (single_check library d scope queries path s))
  one_stand scope queries path s there = found_stand (At scope queries s) path (single_check library d scope queries path s) there

  own_stand : (scope : Scope) (queries : List (Name × ℕ)) (path : Path) (s : Statement) → OwnStand scope queries path s
  own_stand scope queries path (create class key pairs) = create_stand scope queries path class key pairs
  own_stand scope queries path (update class key pairs) = update_stand scope queries path (update class key pairs) class key pairs (λ steps. refl) (λ steps. refl)
  own_stand scope queries path (delete class key) = kind_stand scope path (At scope queries (delete class key)) 2 integer_kind key (λ steps. refl)
  own_stand scope queries path (signal name arguments) =
      arguments_stand scope queries path name arguments 0 (signature_of d name) arguments refl
      (if_found scope queries path (signal name arguments) (arguments_findings library d scope path 0 (signature_of d name) arguments) refl)
  own_stand scope queries path (emit e) = one_stand scope queries path (emit e) (emission_located scope queries path (emit e) e (λ steps. refl))
  own_stand scope queries path (when e a b) = test_deeper scope path (At scope queries (when e a b)) 1 e (λ steps. refl)
  own_stand scope queries path (each x class predicate body) = test_deeper (with_name x class scope) path (At scope queries (each x class predicate body)) 3 predicate (λ steps. refl)
  own_stand scope queries path (for_answer x body) = one_stand scope queries path (for_answer x body) (query_located scope queries path x body)
  own_stand scope queries path (with_object x class key body) = kind_stand scope path (At scope queries (with_object x class key body)) 3 integer_kind key (λ steps. refl)
  own_stand scope queries path (subtransaction a b) = tt
  own_stand scope queries path (let_value x a body) =
      one_stand scope queries path (let_value x a body)
      (located_deeper (At scope queries (let_value x a body)) (InAggregate scope a) path 2 (value_check library d scope (item_at path 2) a) (λ steps. refl) (value_located scope (item_at path 2) a))
  own_stand scope queries path (veto_with e) = one_stand scope queries path (veto_with e) (emission_located scope queries path (veto_with e) e (λ steps. refl))
  own_stand scope queries path abort = tt
  own_stand scope queries path veto = tt
  own_stand scope queries path (on_rule op n) = tt
  own_stand scope queries path (fire n) = one_stand scope queries path (fire n) (fire_located scope queries path n)

  mutual
    inner_stand : (scope : Scope) (queries : List (Name × ℕ)) (path : Path) (s : Statement) → AllStand (At scope queries s) path (inner_findings library d scope queries path s)
    inner_stand scope queries path (when e a b) =
        let parts : Path → Option Part = At scope queries (when e a b) in
        both_stand parts path (body_findings library d scope queries (item_at path 2) 0 a) (body_findings library d scope queries (item_at path 3) 0 b)
        (stand_deeper parts (AtBody scope queries a) path 2 (body_findings library d scope queries (item_at path 2) 0 a) (λ steps. refl)
        (body_stand scope queries (item_at path 2) a 0 a (from_start a)))
        (stand_deeper parts (AtBody scope queries b) path 3 (body_findings library d scope queries (item_at path 3) 0 b) (λ steps. refl)
        (body_stand scope queries (item_at path 3) b 0 b (from_start b)))
    inner_stand scope queries path (each x class predicate body) =
        let inner = with_name x class scope in
        stand_deeper (At scope queries (each x class predicate body)) (AtBody inner queries body) path 4 (body_findings library d inner queries (item_at path 4) 0 body)
        (λ steps. refl) (body_stand inner queries (item_at path 4) body 0 body (from_start body))
    inner_stand scope queries path (for_answer x body) =
        let inner = with_name x (unwrap_or (lookup (bytes_eq x) queries) 0) scope in
        stand_deeper (At scope queries (for_answer x body)) (AtBody inner queries body) path 2 (body_findings library d inner queries (item_at path 2) 0 body)
        (λ steps. refl) (body_stand inner queries (item_at path 2) body 0 body (from_start body))
    inner_stand scope queries path (with_object x class key body) =
        let inner = with_name x class scope in
        stand_deeper (At scope queries (with_object x class key body)) (AtBody inner queries body) path 4 (body_findings library d inner queries (item_at path 4) 0 body)
        (λ steps. refl) (body_stand inner queries (item_at path 4) body 0 body (from_start body))
    inner_stand scope queries path (subtransaction a b) =
        let parts : Path → Option Part = At scope queries (subtransaction a b) in
        both_stand parts path (body_findings library d scope queries (item_at path 1) 0 a) (body_findings library d scope queries (item_at path 2) 0 b)
        (stand_deeper parts (AtBody scope queries a) path 1 (body_findings library d scope queries (item_at path 1) 0 a) (λ steps. refl)
        (body_stand scope queries (item_at path 1) a 0 a (from_start a)))
        (stand_deeper parts (AtBody scope queries b) path 2 (body_findings library d scope queries (item_at path 2) 0 b) (λ steps. refl)
        (body_stand scope queries (item_at path 2) b 0 b (from_start b)))
    inner_stand scope queries path (let_value x a body) =
        let inner = with_sort x (unwrap_or (aggregate_sort library d scope a) any) scope in
        stand_deeper (At scope queries (let_value x a body)) (AtBody inner queries body) path 3 (body_findings library d inner queries (item_at path 3) 0 body)
        (λ steps. refl) (body_stand inner queries (item_at path 3) body 0 body (from_start body))
    inner_stand scope queries path s = tt

    body_stand : (scope : Scope) (queries : List (Name × ℕ)) (path : Path) (whole : Body) (i : ℕ) (b : Body) → body_from i whole ≡ b
        → AllStand (AtBody scope queries whole) path (body_findings library d scope queries path i b)
    body_stand scope queries path whole i empty is = tt
    body_stand scope queries path whole i (s then rest) is =
        let parts : Path → Option Part = AtBody scope queries whole in
        let own = own_findings library d scope queries (item_at path i) s in
        let inner = inner_findings library d scope queries (item_at path i) s in
        let later = body_findings library d scope queries path (suc i) rest in
        let same : (steps : Path) → parts (to_item i ∷ steps) ≡ At scope queries s steps =
        λ steps. ap (λ o. along o (λ t. part_in_statement library d scope queries steps t)) (statement_is i whole s rest is) in
        both_stand parts path own (inner ++ later)
        (stand_deeper parts (At scope queries s) path i own same (own_stand scope queries (item_at path i) s))
        (both_stand parts path inner later
        (stand_deeper parts (At scope queries s) path i inner same (inner_stand scope queries (item_at path i) s))
        (body_stand scope queries path whole (suc i) rest (later_is i whole s rest is)))

  -- ---- rules

  take_next : {A : Type 0} (i : ℕ) (whole : List A) (x : A) (rest : List A) → drop i whole ≡ x ∷ rest → take i whole ++ x ∷ [] ≡ take (suc i) whole
  take_next zero [] x rest is = cc
  take_next zero (y ∷ ys) x rest is = ap (take 1) (sym is)
  take_next (suc i) [] x rest is = cc
  take_next (suc i) (y ∷ ys) x rest is = ap (λ xs. y ∷ xs) (take_next i ys x rest is)

  -- one more entry
  one_more : (scope : Scope) (before : List Entry) (e : Entry) → with_entries library d scope (before ++ e ∷ []) ≡ with_entries library d (with_entries library d scope before) (e ∷ [])
  one_more scope [] e = refl
  one_more scope (query_entry q ∷ before) e = one_more (with_name q.name q.class scope) before e
  one_more scope (no_entry q ∷ before) e = one_more scope before e
  one_more scope (let_entry x a ∷ before) e = one_more (with_sort x (unwrap_or (aggregate_sort library d scope a) any) scope) before e

  abbrev AtEntry : Scope → Entry → Path → Option Part
  AtEntry scope e steps = part_in_entry scope steps e

  entry_stand : (scope : Scope) (path : Path) (e : Entry) → AllStand (AtEntry scope e) path (entry_findings library d scope path e)
  entry_stand scope path (query_entry q) = test_deeper (with_name q.name q.class scope) path (AtEntry scope (query_entry q)) 2 q.predicate (λ steps. refl)
  entry_stand scope path (no_entry q) = test_deeper (with_name q.name q.class scope) path (AtEntry scope (no_entry q)) 3 q.predicate (λ steps. refl)
  entry_stand scope path (let_entry x a) =
      let check = value_check library d scope (item_at path 2) a in
      found_stand (AtEntry scope (let_entry x a)) path check
      (located_deeper (AtEntry scope (let_entry x a)) (InAggregate scope a) path 2 check (λ steps. refl) (value_located scope (item_at path 2) a))

  module _ (c : Columns) where
    abbrev start : Scope
    start = first_scope c

    condition_stand : (path : Path) (whole : List Entry) (i : ℕ) (scope : Scope) (es : List Entry) → drop i whole ≡ es → scope ≡ with_entries library d start (take i whole)
        → AllStand (λ steps. part_in_condition library d c steps whole) path (entries_findings library d path scope i es)
    condition_stand path whole i scope [] is earlier = tt
    condition_stand path whole i scope (e ∷ es) is earlier =
        let parts : Path → Option Part = λ steps. part_in_condition library d c steps whole in
        let own = entry_findings library d scope (item_at path i) e in
        let inner = scope_then library d scope e in
        both_stand parts path own (entries_findings library d path inner (suc i) es)
        (stand_deeper parts (AtEntry scope e) path i own
        (λ steps. ap₂ (λ o s. along o (λ e. part_in_entry s steps e)) (item_is i whole e es is) (sym earlier)) (entry_stand scope (item_at path i) e))
        (condition_stand path whole (suc i) inner es (rest_is i whole e es is)
        (ap (λ s. with_entries library d s (e ∷ [])) earlier ∙ sym (one_more start (take i whole) e) ∙ ap (with_entries library d start) (take_next i whole e es is)))

  rule_stand : (fired : Bool) (path : Path) (rule : Rule) → AllStand (λ steps. part_in_rule library d fired steps rule) path (rule_findings library d fired path rule)
  rule_stand fired path rule =
      let c = columns_by fired rule.event in
      let queries = query_classes rule.condition in
      let scope = with_entries library d (first_scope c) rule.condition in
      let parts : Path → Option Part = λ steps. part_in_rule library d fired steps rule in
      let asked = entries_findings library d (item_at path 3) (first_scope c) 0 rule.condition in
      let acting = body_findings library d scope queries (item_at path 5) 0 rule.action in
      both_stand parts path asked acting
      (stand_deeper parts (λ steps. part_in_condition library d c steps rule.condition) path 3 asked (λ steps. refl)
      (condition_stand c (item_at path 3) rule.condition 0 (first_scope c) rule.condition refl refl))
      (stand_deeper parts (AtBody scope queries rule.action) path 5 acting (λ steps. refl) (body_stand scope queries (item_at path 5) rule.action 0 rule.action (from_start rule.action)))

  rules_stand : (path : Path) (n : ℕ) (rules : List Rule) → drop n library.rules ≡ rules → AllStand (part_in_rules library d) path (rules_findings library d path n rules)
  rules_stand path n [] is = tt
  rules_stand path n (rule ∷ rules) is =
      both_stand (part_in_rules library d) path (rule_findings library d (is_fired d n) (item_at path n) rule) (rules_findings library d path (suc n) rules)
      (stand_deeper (part_in_rules library d) (λ steps. part_in_rule library d (is_fired d n) steps rule) path n (rule_findings library d (is_fired d n) (item_at path n) rule)
      (λ steps. ap (λ o. along o (λ r. part_in_rule library d (is_fired d n) steps r)) (item_is n library.rules rule rules is)) (rule_stand (is_fired d n) (item_at path n) rule))
      (rules_stand path (suc n) rules (rest_is n library.rules rule rules is))

-- ---- libraries and units

module _ (library : Library) (d : Declared) where
  -- what stands below a path is placed
  all_placed : (parts whole : Path → Option Part) (path : Path) → ((steps : Path) → whole (path ++ steps) ≡ parts steps) → (fs : List Finding)
      → AllByRecursion (Stands library d parts path) fs → ArePlaced library d whole fs
  all_placed parts whole path same [] there = tt
  all_placed parts whole path same (f ∷ fs) ((steps, part, is, found, fails), there) = ((part, ap whole is ∙ same steps ∙ found, fails), all_placed parts whole path same fs there)

  pub library_placed : ArePlaced library d (part_in_library library d) (library_findings library d)
  library_placed = all_placed (part_in_rules library d) (part_in_library library d) (under_root rules_member) (λ steps. refl) (library_findings library d)
      (rules_stand library d (under_root rules_member) 0 library.rules refl)

  pub unit_placed : (unit : Unit) → ArePlaced library d (λ path. part_in_unit library d path unit) (unit_findings library d unit)
  unit_placed (moment t) = tt
  unit_placed (transaction now body) =
      all_placed (λ steps. part_in_body library d no_scope [] steps body) (λ path. part_in_unit library d path (transaction now body)) [] (λ steps. refl)
      (body_findings library d no_scope [] [] 0 body)
      (body_stand library d no_scope [] [] body 0 body (from_start body))
