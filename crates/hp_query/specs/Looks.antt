-- The worlds that a look at objects may show.
use Rattle.std.specs.Prelude.{◌≡◌, ℕ, Bool, true, false, List, [], ◌∷◌, map}
use Rattle.std.specs.List.Sorted.{IsStrictlySortedBy}
use Rattle.hp_model.specs.Values.{Row, Value, integer, boolean, text}
use Rattle.hp_model.specs.Expressions.{Expression, constant}
use Rattle.hp_model.specs.Rules.{Aggregate, count_over, sum_over, least_over, greatest_over, next_key, single, Entry, query_entry, no_entry, let_entry}
use Rattle.hp_model.specs.State.{Objects, ObjectName, compare_names}

-- the objects stand in order, each once
abbrev pub ObjectsRise : Objects → Type 0
ObjectsRise objects = IsStrictlySortedBy compare_names (map (λ (o : ObjectName × Row). o.0) objects)

-- the classes that an aggregate or an entry of a condition asks about
abbrev pub aggregate_classes : Aggregate → List ℕ
aggregate_classes (count_over x class predicate) = class ∷ []
aggregate_classes (sum_over x class predicate term) = class ∷ []
aggregate_classes (least_over x class predicate term) = class ∷ []
aggregate_classes (greatest_over x class predicate term) = class ∷ []
aggregate_classes (next_key class) = class ∷ []
aggregate_classes (single e) = []

abbrev pub entry_classes : Entry → List ℕ
entry_classes (query_entry q) = q.class ∷ []
entry_classes (no_entry q) = q.class ∷ []
entry_classes (let_entry x a) = aggregate_classes a

-- whether a predicate is the constant `true`
abbrev pub is_true_value : Value → Bool
is_true_value (integer n) = false
is_true_value (boolean b) = b
is_true_value (text bytes) = false

abbrev pub is_always_true : Expression → Bool
is_always_true (constant v) = is_true_value v
is_always_true e = false

-- the number of all objects of a class, and the key after the greatest one, are asked for alone: no row is read for them
abbrev pub AsksAlone : {A : Type 0} → (asks_count asks_greatest : ℕ → A → A → Type 0) → Aggregate → A → A → Type 0
AsksAlone asks_count asks_greatest (count_over x class predicate) old new = is_always_true predicate ≡ true → asks_count class old new
AsksAlone asks_count asks_greatest (sum_over x class predicate term) old new = Unit {0}
AsksAlone asks_count asks_greatest (least_over x class predicate term) old new = Unit {0}
AsksAlone asks_count asks_greatest (greatest_over x class predicate term) old new = Unit {0}
AsksAlone asks_count asks_greatest (next_key class) old new = asks_greatest class old new
AsksAlone asks_count asks_greatest (single e) old new = Unit {0}

-- questions about these classes in turn, and none else; a class may have been asked for nothing
abbrev pub AsksEach : {A : Type 0} → (ℕ → A → A → Type 0) → List ℕ → A → A → Type 0
AsksEach asks [] old new = new ≡ old
AsksEach {A} asks (class ∷ classes) old new = (middle : A) × asks class old middle × AsksEach asks classes middle new
