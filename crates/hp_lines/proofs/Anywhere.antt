-- What is read at one path is read at each.
use Rattle.std.proofs.Common.{◌≡◌, ℕ, zero, suc, nat_lt, Bool, true, false, not, ◌&&◌, cond, List, [], ◌∷◌, ◌++◌, length, Option, Some, None, Ok, Err, refl, ap, ◌∙◌}
use Rattle.std.specs.Prelude.{option_and_then}
use Rattle.serde_json.specs.Data.{Data, number, boolean, string}
use Rattle.serde_json.specs.Find.{as_number, as_i64}
use Rattle.hp_model.specs.Values.{Name, ◌>>=◌}
use Rattle.hp_model.specs.Expressions.{Expression}
use Rattle.hp_model.specs.Rules.{Assignment, Rule}
use Rattle.hp_model.specs.Refusals.{Path, item_at, Limit, Refusal, Decoded, shaped, whole, known, arguments_limit}
use Rattle.hp_model.specs.Json.{Form, form_of, pair_of, list_of}
use Rattle.hp_model.specs.Parts.{name_of, name_at, contains_name, new_name_at, place_of, place_at, integer_at, index_in, index_at, not_below, number_from, list_at, at_most, short_list_at, read_from}
use Rattle.hp_model.specs.Scopes.{class_names, Scope, fields_of, Names, no_names, taken, Version, Setting, row_setting, value_setting, is_known, row_at, let_at, new_row_at}
use Rattle.hp_model.specs.ExpressionGrammar.{ExpressionForm, number_form, truth_form, text_form, arithmetic_form, comparison_form, negated_form, inverted_form, both_form}
use Rattle.hp_model.specs.ExpressionGrammar.{either_form, field_form, key_form, new_form, old_form, key_in_form, argument_form, time_form, count_form, now_form, value_form}
use Rattle.hp_model.specs.ExpressionGrammar.{expression_form, expression_form_at, field_of_at, key_of_at, new_field_at, old_field_at, key_in_at, argument_at, time_of_at}
use Rattle.hp_model.specs.ExpressionGrammar.{value_named_at, operands_at, expression_from, expression_within, expression_at}
use Rattle.hp_model.specs.AggregateGrammar as A
use Rattle.hp_model.specs.AggregateGrammar.{AggregateForm, sum_form, least_form, greatest_form, next_form, aggregate_form, is_aggregate, aggregate_form_at, over_at, terms_at}
use Rattle.hp_model.specs.AggregateGrammar.{aggregate_from, single_at, aggregate_at}
use Rattle.hp_model.specs.StatementGrammar.{assigned_names, assigned_field_at, assignment_at, assignments_at, all_assignments_at, StatementForm, create_form, update_form}
use Rattle.hp_model.specs.StatementGrammar.{delete_form, signal_form, emit_form, if_form, each_form, for_form, with_form, sub_form, abort_form, veto_form, let_form, veto_with_form}
use Rattle.hp_model.specs.StatementGrammar.{rule_form, fire_form, statement_form, is_veto, statement_form_at, create_at, update_at, delete_at, arguments_at, signal_at, emit_at}
use Rattle.hp_model.specs.StatementGrammar.{veto_with_at, on_rule_at, fire_at, Reading, statements_by, if_at, each_at, query_at, for_at, with_at, sub_at, let_value_at}
use Rattle.hp_model.specs.StatementGrammar.{statement_from, statement_within, statements_at}
use Rattle.hp_model.specs.Decode.{Schedule, ItemForm, transaction_form, clock_form, item_form, item_form_at, few_moments, due_moments, transaction_at, clock_at, item_from, unit_at}
use Rattle.hp_script.specs.Requests.{nothing_since}

-- what is read by the one, if anything is, is read by the other
record Carries {A : Type 0} (r s : Decoded A) : Type 0 where
  pub over : (x : A) → r ≡ Ok x → s ≡ Ok x

same : {A : Type 0} (r : Decoded A) → Carries r r
same r = record { over = λ x e. e }

refused : {A : Type 0} (e : Refusal) (s : Decoded A) → Carries (Err e) s
refused e s = record { over = λ x h. cc }

after_it : {A B : Type 0} {r s : Decoded A} {f g : A → Decoded B} → Carries r s → ((x : A) → Carries (f x) (g x)) → Carries (r >>= f) (s >>= g)
after_it {r = Ok y} {g = g} first next = record { over = λ x h. ap (λ q. q >>= g) (first.over y refl) ∙ (next y).over x h }
after_it {r = Err e} first next = record { over = λ x h. cc }

choose : {A : Type 0} (b : Bool) {r s t u : Decoded A} → Carries r t → Carries s u → Carries (cond b r s) (cond b t u)
choose true first second = first
choose false first second = second

shaped_any : {A : Type 0} (o : Option A) (p q : Path) → Carries (shaped p o) (shaped q o)
shaped_any None p q = refused _ _
shaped_any (Some x) p q = same _

whole_any : {A : Type 0} (o : Option A) (p q : Path) → Carries (whole p o) (whole q o)
whole_any None p q = refused _ _
whole_any (Some x) p q = same _

known_any : {A : Type 0} (o : Option A) (p q : Path) → Carries (known p o) (known q o)
known_any None p q = refused _ _
known_any (Some x) p q = same _

-- ---- parts

name_any : (d : Data) (p q : Path) → Carries (name_at p d) (name_at q d)
name_any d p q = shaped_any (name_of d) p q

new_name_any : (names : List Name) (d : Data) (p q : Path) → Carries (new_name_at names p d) (new_name_at names q d)
unfolding new_name_at
new_name_any names d p q = after_it (name_any d p q) λ x. choose (contains_name names x) (refused _ _) (same _)

place_any : (names : List Name) (d : Data) (p q : Path) → Carries (place_at names p d) (place_at names q d)
unfolding place_at
place_any names d p q = after_it (name_any d p q) λ x. known_any (place_of names x) p q

integer_any : (d : Data) (p q : Path) → Carries (integer_at p d) (integer_at q d)
unfolding integer_at
integer_any d p q = after_it (shaped_any (as_number d) p q) λ n. whole_any (as_i64 n) p q

index_any : (d : Data) (p q : Path) → Carries (index_at p d) (index_at q d)
unfolding index_at
index_any d p q = after_it (integer_any d p q) λ z. shaped_any (index_in z) p q

number_any : (least : ℕ) (d : Data) (p q : Path) → Carries (number_from least p d) (number_from least q d)
unfolding number_from
number_any least d p q = after_it (integer_any d p q) λ z. shaped_any (not_below least z) p q

items_any : (d : Data) (p q : Path) → Carries (list_at p d) (list_at q d)
items_any d p q = shaped_any (list_of d) p q

short_any : (most : ℕ) (limit : Limit) (d : Data) (p q : Path) → Carries (short_list_at most limit p d) (short_list_at most limit q d)
unfolding short_list_at
short_any most limit d p q = after_it (items_any d p q) λ ds. same (at_most most limit ds)

-- items are read anywhere if each is
each_any : {A D : Type 0} (read : List A → Path → D → Decoded A) → ((before : List A) (d : D) (p q : Path) → Carries (read before p d) (read before q d))
    → (before : List A) (i : ℕ) (ds : List D) (p q : Path) → Carries (read_from read p before i ds) (read_from read q before i ds)
each_any read sure before i [] p q = same _
each_any read sure before i (d ∷ ds) p q = after_it (sure before d (item_at p i) (item_at q i)) λ x. each_any read sure (before ++ x ∷ []) (suc i) ds p q

row_any : (names : Names) (d : Data) (p q : Path) → Carries (row_at names p d) (row_at names q d)
unfolding row_at
row_any names d p q = after_it (name_any d p q) λ x. choose (is_known names.rows x) (same _) (refused _ _)

let_any : (names : Names) (d : Data) (p q : Path) → Carries (let_at names p d) (let_at names q d)
unfolding let_at
let_any names d p q = after_it (name_any d p q) λ x. choose (is_known names.values x) (same _) (refused _ _)

new_row_any : (names : Names) (d : Data) (p q : Path) → Carries (new_row_at names p d) (new_row_at names q d)
unfolding new_row_at
new_row_any names d p q = after_it (name_any d p q) λ x. choose (is_known (taken names) x) (refused _ _) (same _)

-- ---- expressions

form_any : (version : Version) (d : Data) (p q : Path) → Carries (expression_form_at version p d) (expression_form_at version q d)
form_any version (number n) p q = after_it (whole_any (as_i64 n) p q) λ z. same _
form_any version (boolean b) p q = same _
form_any version (string t) p q = same _
form_any version d p q = shaped_any (option_and_then (λ (f : Form). expression_form version f.word f.parts) (form_of d)) p q

module _ (operand : Path → Data → Decoded Expression) (sure : (d : Data) (p q : Path) → Carries (operand p d) (operand q d)) where
  operands_any : (a b : Data) (p q : Path) → Carries (operands_at operand p a b) (operands_at operand q a b)
  unfolding operands_at
  operands_any a b p q = after_it (sure a (item_at p 1) (item_at q 1)) λ left. after_it (sure b (item_at p 2) (item_at q 2)) λ right. same _

  from_any : (setting : Setting) (form : ExpressionForm) (p q : Path) → Carries (expression_from setting operand p form) (expression_from setting operand q form)
  unfolding field_of_at key_of_at new_field_at old_field_at key_in_at argument_at time_of_at value_named_at
  from_any setting (number_form z) p q = same _
  from_any setting (truth_form b) p q = same _
  from_any setting (text_form t) p q = same _
  from_any setting (arithmetic_form op a b) p q = after_it (operands_any a b p q) λ both. same _
  from_any setting (comparison_form op a b) p q = after_it (operands_any a b p q) λ both. same _
  from_any setting (negated_form a) p q = after_it (sure a (item_at p 1) (item_at q 1)) λ e. same _
  from_any setting (inverted_form a) p q = after_it (sure a (item_at p 1) (item_at q 1)) λ e. same _
  from_any setting (both_form a b) p q = after_it (operands_any a b p q) λ both. same _
  from_any setting (either_form a b) p q = after_it (operands_any a b p q) λ both. same _
  from_any setting (field_form variable field) p q = after_it (row_any setting.names variable (item_at p 1) (item_at q 1)) λ x. after_it (name_any field (item_at p 2) (item_at q 2)) λ f. same _
  from_any setting (key_form variable) p q = after_it (row_any setting.names variable (item_at p 1) (item_at q 1)) λ x. same _
  from_any setting (new_form part field) p q = after_it (index_any part (item_at p 1) (item_at q 1)) λ i. after_it (name_any field (item_at p 2) (item_at q 2)) λ f. same _
  from_any setting (old_form part field) p q = after_it (index_any part (item_at p 1) (item_at q 1)) λ i. after_it (name_any field (item_at p 2) (item_at q 2)) λ f. same _
  from_any setting (key_in_form part) p q = after_it (index_any part (item_at p 1) (item_at q 1)) λ i. same _
  from_any setting (argument_form part place) p q = after_it (index_any part (item_at p 1) (item_at q 1)) λ i. after_it (index_any place (item_at p 2) (item_at q 2)) λ j. same _
  from_any setting (time_form part) p q = after_it (index_any part (item_at p 1) (item_at q 1)) λ i. same _
  from_any setting count_form p q = same _
  from_any setting now_form p q = same _
  from_any setting (value_form name) p q = after_it (let_any setting.names name (item_at p 1) (item_at q 1)) λ x. same _

within_any : (setting : Setting) (levels : ℕ) (d : Data) (p q : Path) → Carries (expression_within setting levels p d) (expression_within setting levels q d)
unfolding expression_within
within_any setting zero d p q = after_it (form_any setting.version d p q) λ form. same _
within_any setting (suc levels) d p q = after_it (form_any setting.version d p q) λ form. from_any (expression_within setting levels) (within_any setting levels) setting form p q

expression_any : (setting : Setting) (d : Data) (p q : Path) → Carries (expression_at setting p d) (expression_at setting q d)
expression_any setting d p q = within_any setting 16 d p q

-- ---- aggregates

over_any : (classes : List Name) (setting : Setting) (variable class predicate : Data) (p q : Path)
    → Carries (over_at classes setting p variable class predicate) (over_at classes setting q variable class predicate)
unfolding over_at
over_any classes setting variable class predicate p q =
    after_it (new_row_any setting.names variable (item_at p 1) (item_at q 1)) λ x.
    after_it (place_any classes class (item_at p 2) (item_at q 2)) λ n.
    after_it (expression_any (row_setting x setting) predicate (item_at p 3) (item_at q 3)) λ e. same _

terms_any : (classes : List Name) (setting : Setting) (variable class predicate term : Data) (p q : Path)
    → Carries (terms_at classes setting p variable class predicate term) (terms_at classes setting q variable class predicate term)
unfolding terms_at
terms_any classes setting variable class predicate term p q =
    after_it (over_any classes setting variable class predicate p q) λ over.
    after_it (expression_any (row_setting over.variable setting) term (item_at p 4) (item_at q 4)) λ e. same _

aggregate_form_any : (d : Data) (p q : Path) → Carries (aggregate_form_at p d) (aggregate_form_at q d)
aggregate_form_any d p q = shaped_any (option_and_then (λ (f : Form). aggregate_form f.word f.parts) (form_of d)) p q

aggregate_from_any : (classes : List Name) (setting : Setting) (form : AggregateForm) (p q : Path) → Carries (aggregate_from classes setting p form) (aggregate_from classes setting q form)
aggregate_from_any classes setting (A.count_form variable class predicate) p q = after_it (over_any classes setting variable class predicate p q) λ over. same _
aggregate_from_any classes setting (sum_form variable class predicate term) p q = after_it (terms_any classes setting variable class predicate term p q) λ terms. same _
aggregate_from_any classes setting (least_form variable class predicate term) p q = after_it (terms_any classes setting variable class predicate term p q) λ terms. same _
aggregate_from_any classes setting (greatest_form variable class predicate term) p q = after_it (terms_any classes setting variable class predicate term p q) λ terms. same _
aggregate_from_any classes setting (next_form class) p q = after_it (place_any classes class (item_at p 1) (item_at q 1)) λ n. same _

aggregate_any : (classes : List Name) (setting : Setting) (d : Data) (p q : Path) → Carries (aggregate_at classes setting p d) (aggregate_at classes setting q d)
unfolding aggregate_at single_at
aggregate_any classes setting d p q =
    choose (is_aggregate d)
    (after_it (aggregate_form_any d p q) λ form. aggregate_from_any classes setting form p q)
    (after_it (expression_any setting d p q) λ e. same _)

-- ---- pairs

assigned_any : (fields assigned : List Name) (d : Data) (p q : Path) → Carries (assigned_field_at fields assigned p d) (assigned_field_at fields assigned q d)
unfolding assigned_field_at
assigned_any fields assigned d p q = after_it (new_name_any assigned d p q) λ x. choose (contains_name fields x) (same _) (refused _ _)

assignment_any : (fields : List Name) (setting : Setting) (before : List Assignment) (d : Data) (p q : Path)
    → Carries (assignment_at fields setting before p d) (assignment_at fields setting before q d)
unfolding assignment_at
assignment_any fields setting before d p q =
    after_it (shaped_any (pair_of d) p q) λ pair.
    after_it (assigned_any fields (assigned_names before) pair.0 (item_at p 0) (item_at q 0)) λ field.
    after_it (expression_any setting pair.1 (item_at p 1) (item_at q 1)) λ value. same _

assignments_any : (fields : List Name) (setting : Setting) (d : Data) (p q : Path) → Carries (assignments_at fields setting p d) (assignments_at fields setting q d)
unfolding assignments_at
assignments_any fields setting d p q = after_it (items_any d p q) λ ds. each_any (assignment_at fields setting) (assignment_any fields setting) [] 0 ds p q

all_assignments_any : (fields : List Name) (setting : Setting) (d : Data) (p q : Path) → Carries (all_assignments_at fields setting p d) (all_assignments_at fields setting q d)
unfolding all_assignments_at
all_assignments_any fields setting d p q = after_it (assignments_any fields setting d p q) λ pairs. choose (nat_lt (length pairs) (length fields)) (refused _ _) (same _)

-- ---- statements

statement_form_any : (version : Version) (scope : Scope) (d : Data) (p q : Path) → Carries (statement_form_at version scope p d) (statement_form_at version scope q d)
unfolding statement_form_at
statement_form_any version scope d p q =
    after_it (shaped_any (option_and_then (λ (f : Form). statement_form version f.word f.parts) (form_of d)) p q) λ form. choose (is_veto form && not scope.in_action) (refused _ _) (same _)

arguments_any : (setting : Setting) (d : Data) (p q : Path) → Carries (arguments_at setting p d) (arguments_at setting q d)
unfolding arguments_at
arguments_any setting d p q = after_it (short_any 32 arguments_limit d p q) λ ds. each_any (λ _. expression_at setting) (λ _ d. expression_any setting d) [] 0 ds p q

query_any : (scope : Scope) (d : Data) (p q : Path) → Carries (query_at scope p d) (query_at scope q d)
unfolding query_at
query_any scope d p q = after_it (name_any d p q) λ x. choose (is_known scope.queries x) (same _) (refused _ _)

module _ (scope : Scope) (read : Reading) (sure : (setting : Setting) (d : Data) (p q : Path) → Carries (read setting p d) (read setting q d)) where
  body_any : (setting : Setting) (d : Data) (p q : Path) → Carries (statements_by read setting p d) (statements_by read setting q d)
  unfolding statements_by
  body_any setting d p q = after_it (items_any d p q) λ ds. each_any (λ _. read setting) (λ _ d. sure setting d) [] 0 ds p q

  statement_from_any : (setting : Setting) (form : StatementForm) (p q : Path) → Carries (statement_from scope read setting p form) (statement_from scope read setting q form)
  unfolding create_at update_at delete_at signal_at emit_at veto_with_at on_rule_at fire_at if_at each_at for_at with_at sub_at let_value_at
  statement_from_any setting (create_form class key pairs) p q =
      after_it (place_any (class_names scope.classes) class (item_at p 1) (item_at q 1)) λ n.
      after_it (expression_any setting key (item_at p 2) (item_at q 2)) λ k.
      after_it (all_assignments_any (fields_of scope n) setting pairs (item_at p 3) (item_at q 3)) λ ps. same _
  statement_from_any setting (update_form class key pairs) p q =
      after_it (place_any (class_names scope.classes) class (item_at p 1) (item_at q 1)) λ n.
      after_it (expression_any setting key (item_at p 2) (item_at q 2)) λ k.
      after_it (assignments_any (fields_of scope n) setting pairs (item_at p 3) (item_at q 3)) λ ps. same _
  statement_from_any setting (delete_form class key) p q =
      after_it (place_any (class_names scope.classes) class (item_at p 1) (item_at q 1)) λ n.
      after_it (expression_any setting key (item_at p 2) (item_at q 2)) λ k. same _
  statement_from_any setting (signal_form name arguments) p q =
      after_it (name_any name (item_at p 1) (item_at q 1)) λ x.
      after_it (arguments_any setting arguments (item_at p 2) (item_at q 2)) λ es. same _
  statement_from_any setting (emit_form value) p q = after_it (expression_any setting value (item_at p 1) (item_at q 1)) λ e. same _
  statement_from_any setting (if_form test then_body else_body) p q =
      after_it (expression_any setting test (item_at p 1) (item_at q 1)) λ e.
      after_it (body_any setting then_body (item_at p 2) (item_at q 2)) λ b.
      after_it (body_any setting else_body (item_at p 3) (item_at q 3)) λ c. same _
  statement_from_any setting (each_form variable class predicate body) p q =
      after_it (new_row_any setting.names variable (item_at p 1) (item_at q 1)) λ x.
      after_it (place_any (class_names scope.classes) class (item_at p 2) (item_at q 2)) λ n.
      after_it (expression_any (row_setting x setting) predicate (item_at p 3) (item_at q 3)) λ e.
      after_it (body_any (row_setting x setting) body (item_at p 4) (item_at q 4)) λ b. same _
  statement_from_any setting (for_form query body) p q =
      after_it (query_any scope query (item_at p 1) (item_at q 1)) λ x.
      after_it (body_any setting body (item_at p 2) (item_at q 2)) λ b. same _
  statement_from_any setting (with_form variable class key body) p q =
      after_it (new_row_any setting.names variable (item_at p 1) (item_at q 1)) λ x.
      after_it (place_any (class_names scope.classes) class (item_at p 2) (item_at q 2)) λ n.
      after_it (expression_any setting key (item_at p 3) (item_at q 3)) λ k.
      after_it (body_any (row_setting x setting) body (item_at p 4) (item_at q 4)) λ b. same _
  statement_from_any setting (sub_form body otherwise) p q =
      after_it (body_any setting body (item_at p 1) (item_at q 1)) λ b.
      after_it (body_any setting otherwise (item_at p 2) (item_at q 2)) λ c. same _
  statement_from_any setting (let_form name aggregate body) p q =
      after_it (new_row_any setting.names name (item_at p 1) (item_at q 1)) λ x.
      after_it (aggregate_any (class_names scope.classes) setting aggregate (item_at p 2) (item_at q 2)) λ a.
      after_it (body_any (value_setting x setting) body (item_at p 3) (item_at q 3)) λ b. same _
  statement_from_any setting abort_form p q = same _
  statement_from_any setting veto_form p q = same _
  statement_from_any setting (veto_with_form message) p q = after_it (expression_any setting message (item_at p 1) (item_at q 1)) λ e. same _
  statement_from_any setting (rule_form op rule) p q = after_it (place_any scope.rules rule (item_at p 1) (item_at q 1)) λ n. same _
  statement_from_any setting (fire_form rule) p q = after_it (place_any scope.rules rule (item_at p 1) (item_at q 1)) λ n. same _

statement_any : (scope : Scope) (levels : ℕ) (setting : Setting) (d : Data) (p q : Path) → Carries (statement_within scope levels setting p d) (statement_within scope levels setting q d)
unfolding statement_within
statement_any scope zero setting d p q = after_it (statement_form_any setting.version scope d p q) λ form. same _
statement_any scope (suc levels) setting d p q =
    after_it (statement_form_any setting.version scope d p q) λ form. statement_from_any scope (statement_within scope levels) (statement_any scope levels) setting form p q

statements_any : (scope : Scope) (setting : Setting) (d : Data) (p q : Path) → Carries (statements_at scope setting p d) (statements_at scope setting q d)
statements_any scope setting d p q = body_any scope (statement_within scope 16) (statement_any scope 16) setting d p q

-- ---- items

-- what is read by the one is read by the other with what came before it
record Goes (before : Schedule) (r s : Decoded Schedule) : Type 0 where
  pub on : (x : Schedule) → r ≡ Ok x → s ≡ Ok (record { units = before.units ++ x.units; clock = x.clock })

goes_then : {A : Type 0} {before : Schedule} {r s : Decoded A} {f g : A → Decoded Schedule} → Carries r s → ((x : A) → Goes before (f x) (g x)) → Goes before (r >>= f) (s >>= g)
goes_then {r = Ok y} {g = g} first next = record { on = λ x h. ap (λ q. q >>= g) (first.over y refl) ∙ (next y).on x h }
goes_then {r = Err e} first next = record { on = λ x h. cc }

goes_value : (before y : Schedule) → Goes before (Ok y) (Ok (record { units = before.units ++ y.units; clock = y.clock }))
goes_value before y = record { on = λ x h. let is : y ≡ x = cc in ap (λ (z : Schedule). Ok (record { units = before.units ++ z.units; clock = z.clock })) is }

item_form_any : (d : Data) (p q : Path) → Carries (item_form_at p d) (item_form_at q d)
item_form_any d p q = shaped_any (option_and_then (λ (f : Form). item_form f.word f.parts) (form_of d)) p q

item_goes : (version : Version) (rules : List Rule) (scope : Scope) (before : Schedule) (form : ItemForm) (p q : Path)
    → Goes before (item_from version rules scope p (nothing_since before.clock) form) (item_from version rules scope q before form)
unfolding transaction_at clock_at
item_goes version rules scope before (transaction_form body) p q = goes_then (statements_any scope (record { version = version; names = no_names }) body (item_at p 1) (item_at q 1))
    λ ss. goes_value before _
item_goes version rules scope before (clock_form time) p q =
    goes_then (number_any before.clock time (item_at p 1) (item_at q 1)) λ t.
    goes_then (same (few_moments (due_moments rules before.clock t))) λ moments. goes_value before _

unit_goes_on : (version : Version) (rules : List Rule) (scope : Scope) (before : Schedule) (d : Data) (p q : Path)
    → Goes before (unit_at version rules scope p (nothing_since before.clock) d) (unit_at version rules scope q before d)
unfolding unit_at
unit_goes_on version rules scope before d p q = goes_then (item_form_any d p q) λ form. item_goes version rules scope before form p q

-- an item that is read by itself is read in a script, after what came before it
pub unit_goes : (version : Version) (rules : List Rule) (scope : Scope) (before : Schedule) (d : Data) (p q : Path) (s : Schedule)
    → unit_at version rules scope p (nothing_since before.clock) d ≡ Ok s → unit_at version rules scope q before d ≡ Ok (record { units = before.units ++ s.units; clock = s.clock })
unit_goes version rules scope before d p q s read = (unit_goes_on version rules scope before d p q).on s read
