-- The grammar of expressions. For one value the order of checks is: its form, its level, a text's length, and then its
-- parts from left to right.
use Rattle.std.specs.Prelude.{ℕ, zero, suc, ℤ, Bool, nat_lt, List, [], ◌∷◌, length, codes, Option, Some, None, option_map, option_and_then, Ok, Err, bytes_eq, if◌then◌else◌}
use Rattle.std.specs.Option.{option_or}
use Rattle.serde_json.specs.Data.{Data, number, boolean, string}
use Rattle.serde_json.specs.Find.{as_i64}
use Rattle.hp_model.specs.Values as V
use Rattle.hp_model.specs.Values.{Name, ◌>>=◌}
use Rattle.hp_model.specs.Expressions.{Arithmetic, plus, minus, times, quotient, remainder, Comparison, equal, unequal, less, at_most, greater, at_least, Expression, constant}
use Rattle.hp_model.specs.Expressions.{arithmetic, negated, inverted, both, either, compared, field_of, key_of, new_field, old_field, key_in, argument, time_of, occurrence_count}
use Rattle.hp_model.specs.Expressions.{value_named, time_now}
use Rattle.hp_model.specs.Refusals.{Path, item_at, expression_limit, text_limit, over_limit, Decoded, shaped, whole}
use Rattle.hp_model.specs.Json.{Form, form_of, beside}
use Rattle.hp_model.specs.Parts.{name_at, index_at}
use Rattle.hp_model.specs.Scopes.{Version, is_fourth, Setting, row_at, let_at}

-- an expression whose parts are still JSON
pub data ExpressionForm : Type 0 where
  number_form : ℤ → ExpressionForm
  truth_form : Bool → ExpressionForm
  text_form : List ℕ → ExpressionForm
  arithmetic_form : Arithmetic → (left right : Data) → ExpressionForm
  comparison_form : Comparison → (left right : Data) → ExpressionForm
  negated_form inverted_form : (operand : Data) → ExpressionForm
  both_form either_form : (left right : Data) → ExpressionForm
  field_form : (variable field : Data) → ExpressionForm
  key_form : (variable : Data) → ExpressionForm
  new_form old_form : (part field : Data) → ExpressionForm
  key_in_form : (part : Data) → ExpressionForm
  argument_form : (part place : Data) → ExpressionForm
  time_form : (part : Data) → ExpressionForm
  count_form now_form : ExpressionForm
  value_form : (name : Data) → ExpressionForm

abbrev pub arithmetic_of : List ℕ → Option Arithmetic
arithmetic_of word = beside word ((codes "+", plus) ∷ (codes "-", minus) ∷ (codes "*", times) ∷ (codes "/", quotient) ∷ (codes "%", remainder) ∷ [])

abbrev pub comparison_of : List ℕ → Option Comparison
comparison_of word = beside word
    ((codes "=", equal) ∷ (codes "!=", unequal) ∷ (codes "<", less) ∷ (codes "<=", at_most) ∷ (codes ">", greater) ∷ (codes ">=", at_least) ∷ [])

abbrev pub form_of_one : List ℕ → Data → Option ExpressionForm
form_of_one word a = beside word
    ((codes "neg", negated_form a) ∷ (codes "not", inverted_form a) ∷ (codes "key", key_form a) ∷ (codes "id", key_in_form a) ∷ (codes "time", time_form a) ∷ [])

abbrev pub other_form_of_two : List ℕ → Data → Data → Option ExpressionForm
other_form_of_two word a b = beside word
    ((codes "and", both_form a b) ∷ (codes "or", either_form a b) ∷ (codes "of", field_form a b)
    ∷ (codes "new", new_form a b) ∷ (codes "old", old_form a b) ∷ (codes "arg", argument_form a b) ∷ [])

abbrev pub form_of_two : List ℕ → Data → Data → Option ExpressionForm
form_of_two word a b =
    option_or (option_map (λ op. arithmetic_form op a b) (arithmetic_of word))
    (option_or (option_map (λ op. comparison_form op a b) (comparison_of word)) (other_form_of_two word a b))

-- the forms of all versions
abbrev pub common_form : List ℕ → List Data → Option ExpressionForm
common_form word [] = if bytes_eq word (codes "count") then Some count_form else None
common_form word (a ∷ []) = form_of_one word a
common_form word (a ∷ b ∷ []) = form_of_two word a b
common_form word parts = None

-- the forms of version 4 alone
abbrev pub new_expression_form : List ℕ → List Data → Option ExpressionForm
new_expression_form word [] = beside word ((codes "now", now_form) ∷ [])
new_expression_form word (a ∷ []) = beside word ((codes "value", value_form a) ∷ [])
new_expression_form word parts = None

abbrev pub expression_form : Version → List ℕ → List Data → Option ExpressionForm
expression_form version word parts = option_or (common_form word parts) (if is_fourth version then new_expression_form word parts else None)

abbrev pub expression_form_at : Version → Path → Data → Decoded ExpressionForm
expression_form_at version path (number n) = do
  z ← whole path (as_i64 n)
  Ok (number_form z)
expression_form_at version path (boolean b) = Ok (truth_form b)
expression_form_at version path (string t) = Ok (text_form t)
expression_form_at version path d = shaped path (option_and_then (λ (f : Form). expression_form version f.word f.parts) (form_of d))

-- at most 1,024 bytes
unfoldable pub text_at : List ℕ → Decoded Expression
text_at t = if nat_lt 1024 (length t) then Err (over_limit text_limit) else Ok (constant (V.text t))

unfoldable pub field_of_at : Setting → Path → Data → Data → Decoded Expression
field_of_at setting path variable field = do
  x ← row_at setting.names (item_at path 1) variable
  f ← name_at (item_at path 2) field
  Ok (field_of x f)

unfoldable pub key_of_at : Setting → Path → Data → Decoded Expression
key_of_at setting path variable = do
  x ← row_at setting.names (item_at path 1) variable
  Ok (key_of x)

unfoldable pub new_field_at : Path → Data → Data → Decoded Expression
new_field_at path part field = do
  i ← index_at (item_at path 1) part
  f ← name_at (item_at path 2) field
  Ok (new_field i f)

unfoldable pub old_field_at : Path → Data → Data → Decoded Expression
old_field_at path part field = do
  i ← index_at (item_at path 1) part
  f ← name_at (item_at path 2) field
  Ok (old_field i f)

unfoldable pub key_in_at : Path → Data → Decoded Expression
key_in_at path part = do
  i ← index_at (item_at path 1) part
  Ok (key_in i)

unfoldable pub argument_at : Path → Data → Data → Decoded Expression
argument_at path part place = do
  i ← index_at (item_at path 1) part
  j ← index_at (item_at path 2) place
  Ok (argument i j)

unfoldable pub time_of_at : Path → Data → Decoded Expression
time_of_at path part = do
  i ← index_at (item_at path 1) part
  Ok (time_of i)

unfoldable pub value_named_at : Setting → Path → Data → Decoded Expression
value_named_at setting path name = do
  x ← let_at setting.names (item_at path 1) name
  Ok (value_named x)

-- two operands, each read by `operand`
unfoldable pub operands_at : (operand : Path → Data → Decoded Expression) → Path → Data → Data → Decoded (Expression × Expression)
operands_at operand path a b = do
  left ← operand (item_at path 1) a
  right ← operand (item_at path 2) b
  Ok (left, right)

-- the expression of a form, whose operands are read by `operand`
abbrev pub expression_from : Setting → (operand : Path → Data → Decoded Expression) → Path → ExpressionForm → Decoded Expression
expression_from setting operand path (number_form z) = Ok (constant (V.integer z))
expression_from setting operand path (truth_form b) = Ok (constant (V.boolean b))
expression_from setting operand path (text_form t) = text_at t
expression_from setting operand path (arithmetic_form op a b) = do
  operands ← operands_at operand path a b
  Ok (arithmetic op operands.0 operands.1)
expression_from setting operand path (comparison_form op a b) = do
  operands ← operands_at operand path a b
  Ok (compared op operands.0 operands.1)
expression_from setting operand path (negated_form a) = do
  e ← operand (item_at path 1) a
  Ok (negated e)
expression_from setting operand path (inverted_form a) = do
  e ← operand (item_at path 1) a
  Ok (inverted e)
expression_from setting operand path (both_form a b) = do
  operands ← operands_at operand path a b
  Ok (both operands.0 operands.1)
expression_from setting operand path (either_form a b) = do
  operands ← operands_at operand path a b
  Ok (either operands.0 operands.1)
expression_from setting operand path (field_form variable field) = field_of_at setting path variable field
expression_from setting operand path (key_form variable) = key_of_at setting path variable
expression_from setting operand path (new_form part field) = new_field_at path part field
expression_from setting operand path (old_form part field) = old_field_at path part field
expression_from setting operand path (key_in_form part) = key_in_at path part
expression_from setting operand path (argument_form part place) = argument_at path part place
expression_from setting operand path (time_form part) = time_of_at path part
expression_from setting operand path count_form = Ok occurrence_count
expression_from setting operand path now_form = Ok time_now
expression_from setting operand path (value_form name) = value_named_at setting path name

-- an expression of at most this number of levels
unfoldable pub expression_within : Setting → ℕ → Path → Data → Decoded Expression
expression_within setting zero path d = expression_form_at setting.version path d >>= λ form. Err (over_limit expression_limit)
expression_within setting (suc levels) path d = expression_form_at setting.version path d >>= λ form. expression_from setting (expression_within setting levels) path form

-- an expression, in this setting; a literal is one level
abbrev pub expression_at : Setting → Path → Data → Decoded Expression
expression_at setting = expression_within setting 16
