-- Predicates that are false of all rows outside a part of their class.
use Rattle.std.specs.Prelude.{◌≡◌, Bool, true, false, Option, Some, None, Ok, Err, if◌then◌else◌, bytes_eq}
use Rattle.std.specs.Option.{option_and_then}
use Rattle.hp_model.specs.Values.{Name, Value, KeyedRow, Cause, Outcome, ◌>>=◌}
use Rattle.hp_model.specs.Expressions.{Comparison, equal, unequal, less, at_most, greater, at_least, Expression, compared, field_of, key_of, Environment, bound, row_named, compare, value_of}
use Rattle.hp_model.specs.ClassParts.{Attribute, key_attribute, field_attribute, attribute_of, ClassPart, belongs}
use Rattle.hp_model.specs.Firing.{boolean_value}
use Rattle.hp_query.specs.ByKey.{first_test, if_free}

-- for each object outside the part the predicate is false, without a fault
pub record IsFalseOutside (env : Environment) (x : Name) (predicate : Expression) (p : ClassPart) : Type 0 where
  pub outside : (r : KeyedRow) → belongs p r ≡ Ok false → boolean_value (bound x r env) predicate ≡ Ok false

-- for each object of the part the predicate is true
pub record IsTrueInside (env : Environment) (x : Name) (predicate : Expression) (p : ClassPart) : Type 0 where
  pub inside : (r : KeyedRow) → belongs p r ≡ Ok true → boolean_value (bound x r env) predicate ≡ Ok true

-- the bounds of the values for which a comparison with another value can be true; both bounds are inclusive
abbrev pub low_bound : {A : Type 0} → Comparison → A → Option A
low_bound equal v = Some v
low_bound unequal v = None
low_bound less v = None
low_bound at_most v = None
low_bound greater v = Some v
low_bound at_least v = Some v

abbrev pub high_bound : {A : Type 0} → Comparison → A → Option A
high_bound equal v = Some v
high_bound unequal v = None
high_bound less v = Some v
high_bound at_most v = Some v
high_bound greater v = None
high_bound at_least v = None

-- whether a comparison is true of each value within its bounds
abbrev pub is_true_at_bounds : Comparison → Bool
is_true_at_bounds equal = true
is_true_at_bounds unequal = false
is_true_at_bounds less = false
is_true_at_bounds at_most = true
is_true_at_bounds greater = false
is_true_at_bounds at_least = true

-- whether a predicate is one comparison
abbrev pub is_comparison : Expression → Bool
is_comparison (compared op a b) = true
is_comparison e = false

abbrev pub part_compared : Attribute → Comparison → Value → ClassPart
part_compared a op v = record { attribute = a; low = low_bound op v; high = high_bound op v }

-- the predicate is a comparison of the row's attribute with the expression, wherever the name has no meaning yet
pub record Compares (x : Name) (predicate : Expression) (a : Attribute) (op : Comparison) (wanted : Expression) : Type 0 where
  pub compares : (env : Environment) (c : Cause) (v : Value) → row_named env x ≡ Err c → value_of env wanted ≡ Ok v → (r : KeyedRow)
      → boolean_value (bound x r env) predicate ≡ (attribute_of a r >>= λ w. compare op w v)

-- the predicate begins by comparing the row's attribute with the expression: wherever the name has no meaning yet, the
-- predicate is false outside the part for the expression's value
pub record AsksForPart (x : Name) (predicate : Expression) (a : Attribute) (op : Comparison) (wanted : Expression) : Type 0 where
  pub asks : (env : Environment) (c : Cause) (v : Value) → row_named env x ≡ Err c → value_of env wanted ≡ Ok v → IsFalseOutside env x predicate (part_compared a op v)

-- the expression for an attribute of the row of this name
abbrev pub expression_of : Name → Attribute → Expression
expression_of x key_attribute = key_of x
expression_of x (field_attribute f) = field_of x f

-- the comparison with its sides swapped
abbrev pub turned : Comparison → Comparison
turned equal = equal
turned unequal = unequal
turned less = greater
turned at_most = at_least
turned greater = less
turned at_least = at_most

-- ---- which predicates ask for a part

-- the attribute of the row of this name that an expression is, if it is one
abbrev pub own_attribute : Name → Expression → Option Attribute
own_attribute x (key_of y) = if bytes_eq y x then Some key_attribute else None
own_attribute x (field_of y f) = if bytes_eq y x then Some (field_attribute f) else None
own_attribute x e = None

-- a comparison with an attribute of the row on its left side
pub record AttributeTest : Type 0 where
  pub attribute : Attribute
  pub comparison : Comparison
  pub other : Expression

abbrev pub either_side : Comparison → (a b : Expression) → (left right : Option Attribute) → Option AttributeTest
either_side op a b (Some own) right = Some (record { attribute = own; comparison = op; other = b })
either_side op a b None (Some own) = Some (record { attribute = own; comparison = turned op; other = a })
either_side op a b None None = None

-- the comparison of an attribute of the row of this name that a test is, if it is one; `unequal` asks for no part
abbrev pub attribute_tested : Name → Expression → Option AttributeTest
attribute_tested x (compared unequal a b) = None
attribute_tested x (compared op a b) = either_side op a b (own_attribute x a) (own_attribute x b)
attribute_tested x e = None

abbrev pub field_in_attribute : Attribute → Option Name
field_in_attribute key_attribute = None
field_in_attribute (field_attribute f) = Some f

-- the field whose index serves a query with this predicate: its first test compares it
abbrev pub field_asked : Name → Expression → Option Name
field_asked x predicate = option_and_then (λ (t : AttributeTest). field_in_attribute t.attribute) (attribute_tested x (first_test predicate))

-- the part that a test asks for, by the value of its other side
abbrev pub part_for : Attribute → Comparison → Outcome Value → Option ClassPart
part_for a op (Ok v) = Some (part_compared a op v)
part_for a op (Err c) = None

-- the part that a predicate begins by asking for: its first test compares an attribute of its row with an expression
-- that has a value and doesn't depend on the row
abbrev pub part_asked : Environment → Name → Expression → Option ClassPart
part_asked env x predicate = if_free (row_named env x) (option_and_then (λ (t : AttributeTest). part_for t.attribute t.comparison (value_of env t.other)) (attribute_tested x (first_test predicate)))
