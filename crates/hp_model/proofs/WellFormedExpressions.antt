-- The expressions and the events that the grammar reads are well formed.
use Rattle.std.proofs.Common.{arith, ◌≡◌, refl, ℕ, zero, suc, List, length, false}
use Rattle.std.proofs.lemmas.Bool.Decides.{nat_tests}
use Rattle.std.specs.Prelude.{Ok, nat_lt, ◌==◌}
use Rattle.serde_json.specs.Data.{Data}
use Rattle.hp_model.specs.Values.{Name}
use Rattle.hp_model.specs.Expressions.{Expression}
use Rattle.hp_model.specs.Events.{Event, pattern_event, every_moment}
use Rattle.hp_model.specs.Refusals.{Path, item_at, text_limit, over_limit, event_limit, expression_limit, Decoded}
use Rattle.hp_model.specs.Parts.{index_at, number_from}
use Rattle.hp_model.specs.Scopes.{Setting}
use Rattle.hp_model.specs.ExpressionGrammar as X
use Rattle.hp_model.specs.ExpressionGrammar.{ExpressionForm, expression_form_at, text_at, field_of_at, key_of_at, new_field_at, old_field_at, key_in_at, argument_at, time_of_at}
use Rattle.hp_model.specs.ExpressionGrammar.{value_named_at, operands_at, expression_from, expression_within}
use Rattle.hp_model.specs.EventGrammar as E
use Rattle.hp_model.specs.EventGrammar.{EventForm, event_form_at, on_create_at, on_update_at, on_delete_at, on_signal_at, at_moment_at, every_moment_at, parts_at, event_from, event_within}
use Rattle.hp_model.specs.Checked.{Checked, known_name_check, name_check, field_check, operands_check, expression_parts_check, expression_check, event_parts_check, event_check}
use Rattle.hp_model.proofs.WellFormedParts.{Reads, Reads-value, Reads-none, Reads-any, Reads-then, Reads-unless, passes_then, name_reads, name_passes, row_reads, let_reads}
use Rattle.hp_model.proofs.WellFormedParts.{place_reads, number_reads, limit_passes}

-- passes a check at any path
abbrev pub Passes : {A : Type 0} → (Path → A → Checked) → A → Type 0
Passes check x = (path : Path) → check path x ≡ Ok tt

operands_pass : {A : Type 0} (part : Path → A → Checked) (left right : A) → Passes part left → Passes part right → (path : Path) → operands_check part path left right ≡ Ok tt
unfolding operands_check
operands_pass part left right h k path = passes_then (part (item_at path 1) left) (part (item_at path 2) right) (h (item_at path 1)) (k (item_at path 2))

-- ---- expressions

text_reads : (part : Path → Expression → Checked) (setting : Setting) (t : List ℕ) → Reads (Passes (expression_parts_check part setting.names)) (text_at t)
unfolding text_at
text_reads part setting t = Reads-unless (nat_lt 1024 (length t)) _ _ λ few q. limit_passes 1024 text_limit (length t) (length t) refl few

field_reads : (part : Path → Expression → Checked) (setting : Setting) (path : Path) (variable field : Data)
    → Reads (Passes (expression_parts_check part setting.names)) (field_of_at setting path variable field)
unfolding field_of_at field_check
field_reads part setting path variable field =
    Reads-then (row_reads setting.names (item_at path 1) variable) λ x row.
    Reads-then (name_reads (item_at path 2) field) λ f named.
    Reads-value _ λ q. passes_then (known_name_check setting.names.rows (item_at q 1) x) (name_check (item_at q 2) f) (row (item_at q 1)) (name_passes (item_at q 2) f named)

key_reads : (part : Path → Expression → Checked) (setting : Setting) (path : Path) (variable : Data) → Reads (Passes (expression_parts_check part setting.names)) (key_of_at setting path variable)
unfolding key_of_at
key_reads part setting path variable = Reads-then (row_reads setting.names (item_at path 1) variable) λ x row. Reads-value _ λ q. row (item_at q 1)

new_field_reads : (part : Path → Expression → Checked) (setting : Setting) (path : Path) (i field : Data) → Reads (Passes (expression_parts_check part setting.names)) (new_field_at path i field)
unfolding new_field_at
new_field_reads part setting path i field =
    Reads-then (Reads-any (index_at (item_at path 1) i)) λ n _.
    Reads-then (name_reads (item_at path 2) field) λ f named. Reads-value _ λ q. name_passes (item_at q 2) f named

old_field_reads : (part : Path → Expression → Checked) (setting : Setting) (path : Path) (i field : Data) → Reads (Passes (expression_parts_check part setting.names)) (old_field_at path i field)
unfolding old_field_at
old_field_reads part setting path i field =
    Reads-then (Reads-any (index_at (item_at path 1) i)) λ n _.
    Reads-then (name_reads (item_at path 2) field) λ f named. Reads-value _ λ q. name_passes (item_at q 2) f named

key_in_reads : (part : Path → Expression → Checked) (setting : Setting) (path : Path) (i : Data) → Reads (Passes (expression_parts_check part setting.names)) (key_in_at path i)
unfolding key_in_at
key_in_reads part setting path i = Reads-then (Reads-any (index_at (item_at path 1) i)) λ n _. Reads-value _ λ q. refl

argument_reads : (part : Path → Expression → Checked) (setting : Setting) (path : Path) (i j : Data) → Reads (Passes (expression_parts_check part setting.names)) (argument_at path i j)
unfolding argument_at
argument_reads part setting path i j =
    Reads-then (Reads-any (index_at (item_at path 1) i)) λ n _. Reads-then (Reads-any (index_at (item_at path 2) j)) λ m _. Reads-value _ λ q. refl

time_reads : (part : Path → Expression → Checked) (setting : Setting) (path : Path) (i : Data) → Reads (Passes (expression_parts_check part setting.names)) (time_of_at path i)
unfolding time_of_at
time_reads part setting path i = Reads-then (Reads-any (index_at (item_at path 1) i)) λ n _. Reads-value _ λ q. refl

value_reads : (part : Path → Expression → Checked) (setting : Setting) (path : Path) (name : Data) → Reads (Passes (expression_parts_check part setting.names)) (value_named_at setting path name)
unfolding value_named_at
value_reads part setting path name = Reads-then (let_reads setting.names (item_at path 1) name) λ x known. Reads-value _ λ q. known (item_at q 1)

-- the parts are read as they are checked
abbrev pub PartReads : {A : Type 0} → (Path → Data → Decoded A) → (Path → A → Checked) → Type 0
PartReads read check = (path : Path) (d : Data) → Reads (Passes check) (read path d)

operands_reads : (operand : Path → Data → Decoded Expression) (part : Path → Expression → Checked) → PartReads operand part
    → (path : Path) (a b : Data) → Reads (λ pair. (q : Path) → operands_check part q pair.0 pair.1 ≡ Ok tt) (operands_at operand path a b)
unfolding operands_at
operands_reads operand part each path a b =
    Reads-then (each (item_at path 1) a) λ left h. Reads-then (each (item_at path 2) b) λ right k. Reads-value _ λ q. operands_pass part left right h k q

expression_from_reads : (setting : Setting) (operand : Path → Data → Decoded Expression) (part : Path → Expression → Checked) → PartReads operand part
    → (path : Path) (form : ExpressionForm) → Reads (Passes (expression_parts_check part setting.names)) (expression_from setting operand path form)
expression_from_reads setting operand part each path (X.number_form z) = Reads-value _ λ q. refl
expression_from_reads setting operand part each path (X.truth_form b) = Reads-value _ λ q. refl
expression_from_reads setting operand part each path (X.text_form t) = text_reads part setting t
expression_from_reads setting operand part each path (X.arithmetic_form op a b) = Reads-then (operands_reads operand part each path a b) λ pair h. Reads-value _ h
expression_from_reads setting operand part each path (X.comparison_form op a b) = Reads-then (operands_reads operand part each path a b) λ pair h. Reads-value _ h
expression_from_reads setting operand part each path (X.negated_form a) = Reads-then (each (item_at path 1) a) λ e h. Reads-value _ λ q. h (item_at q 1)
expression_from_reads setting operand part each path (X.inverted_form a) = Reads-then (each (item_at path 1) a) λ e h. Reads-value _ λ q. h (item_at q 1)
expression_from_reads setting operand part each path (X.both_form a b) = Reads-then (operands_reads operand part each path a b) λ pair h. Reads-value _ h
expression_from_reads setting operand part each path (X.either_form a b) = Reads-then (operands_reads operand part each path a b) λ pair h. Reads-value _ h
expression_from_reads setting operand part each path (X.field_form variable field) = field_reads part setting path variable field
expression_from_reads setting operand part each path (X.key_form variable) = key_reads part setting path variable
expression_from_reads setting operand part each path (X.new_form i field) = new_field_reads part setting path i field
expression_from_reads setting operand part each path (X.old_form i field) = old_field_reads part setting path i field
expression_from_reads setting operand part each path (X.key_in_form i) = key_in_reads part setting path i
expression_from_reads setting operand part each path (X.argument_form i j) = argument_reads part setting path i j
expression_from_reads setting operand part each path (X.time_form i) = time_reads part setting path i
expression_from_reads setting operand part each path X.count_form = Reads-value _ λ q. refl
expression_from_reads setting operand part each path X.now_form = Reads-value _ λ q. refl
expression_from_reads setting operand part each path (X.value_form name) = value_reads part setting path name

pub expression_reads : (setting : Setting) (levels : ℕ) → PartReads (expression_within setting levels) (expression_check setting.names levels)
unfolding expression_within expression_check
expression_reads setting zero path d = Reads-then (Reads-any (expression_form_at setting.version path d)) λ form _. Reads-none (over_limit expression_limit)
expression_reads setting (suc levels) path d =
    Reads-then (Reads-any (expression_form_at setting.version path d)) λ form _. expression_from_reads setting (expression_within setting levels)
    (expression_check setting.names levels) (expression_reads setting levels) path form

-- ---- events

module _ (classes : List Name) (part : Path → Event → Checked) where
  create_reads : (path : Path) (class : Data) → Reads (Passes (event_parts_check part (length classes))) (on_create_at classes path class)
  unfolding on_create_at
  create_reads path class = Reads-then (place_reads classes (item_at path 1) class) λ n h. Reads-value _ λ q. h (item_at q 1)

  update_reads : (path : Path) (class : Data) → Reads (Passes (event_parts_check part (length classes))) (on_update_at classes path class)
  unfolding on_update_at
  update_reads path class = Reads-then (place_reads classes (item_at path 1) class) λ n h. Reads-value _ λ q. h (item_at q 1)

  delete_reads : (path : Path) (class : Data) → Reads (Passes (event_parts_check part (length classes))) (on_delete_at classes path class)
  unfolding on_delete_at
  delete_reads path class = Reads-then (place_reads classes (item_at path 1) class) λ n h. Reads-value _ λ q. h (item_at q 1)

  signal_reads : (path : Path) (name : Data) → Reads (Passes (event_parts_check part (length classes))) (on_signal_at path name)
  unfolding on_signal_at
  signal_reads path name = Reads-then (name_reads (item_at path 1) name) λ x named. Reads-value _ λ q. name_passes (item_at q 1) x named

  moment_reads : (path : Path) (time : Data) → Reads (Passes (event_parts_check part (length classes))) (at_moment_at path time)
  unfolding at_moment_at
  moment_reads path time = Reads-then (Reads-any (number_from 0 (item_at path 1) time)) λ t _. Reads-value _ λ q. refl

  period_passes : (first period : ℕ) → nat_lt period 1 ≡ false → Passes (event_parts_check part (length classes)) (pattern_event (every_moment first period))
  period_passes first period h q = let some : (period == 0) ≡ false = grind (arith, nat_tests, h) in rw some refl

  every_reads : (path : Path) (first period : Data) → Reads (Passes (event_parts_check part (length classes))) (every_moment_at path first period)
  unfolding every_moment_at
  every_reads path first period =
      Reads-then (Reads-any (number_from 0 (item_at path 1) first)) λ t _.
      Reads-then (number_reads 1 (item_at path 2) period) λ n h. Reads-value _ (period_passes t n h)

  both_reads : (read : Path → Data → Decoded Event) → PartReads read part
      → (path : Path) (a b : Data) → Reads (λ pair. (q : Path) → operands_check part q pair.0 pair.1 ≡ Ok tt) (parts_at read path a b)
  unfolding parts_at
  both_reads read each path a b =
      Reads-then (each (item_at path 1) a) λ left h. Reads-then (each (item_at path 2) b) λ right k. Reads-value _ λ q. operands_pass part left right h k q

  event_from_reads : (read : Path → Data → Decoded Event) → PartReads read part
      → (path : Path) (form : EventForm) → Reads (Passes (event_parts_check part (length classes))) (event_from classes read path form)
  event_from_reads read each path (E.create_form class) = create_reads path class
  event_from_reads read each path (E.update_form class) = update_reads path class
  event_from_reads read each path (E.delete_form class) = delete_reads path class
  event_from_reads read each path (E.signal_form name) = signal_reads path name
  event_from_reads read each path E.commit_form = Reads-value _ λ q. refl
  event_from_reads read each path (E.at_form time) = moment_reads path time
  event_from_reads read each path (E.every_form first period) = every_reads path first period
  event_from_reads read each path (E.or_form a b) = Reads-then (both_reads read each path a b) λ pair h. Reads-value _ h
  event_from_reads read each path (E.seq_form a b) = Reads-then (both_reads read each path a b) λ pair h. Reads-value _ h
  event_from_reads read each path (E.closure_form a b) = Reads-then (both_reads read each path a b) λ pair h. Reads-value _ h

pub event_reads : (classes : List Name) (levels : ℕ) → PartReads (event_within classes levels) (event_check (length classes) levels)
unfolding event_within event_check
event_reads classes zero path d = Reads-then (Reads-any (event_form_at path d)) λ form _. Reads-none (over_limit event_limit)
event_reads classes (suc levels) path d =
    Reads-then (Reads-any (event_form_at path d)) λ form _. event_from_reads classes (event_check (length classes) levels) (event_within classes levels) (event_reads classes levels) path form
