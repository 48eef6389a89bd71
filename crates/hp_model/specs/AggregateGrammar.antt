-- The grammar of aggregates. For one value the order of checks is: its form, and then its parts from left to right.
use Rattle.std.specs.Prelude.{ℕ, Bool, false, List, [], ◌∷◌, codes, Option, None, option_map, option_and_then, unwrap_or, Ok, bytes_eq, if◌then◌else◌}
use Rattle.std.specs.List.{list_any}
use Rattle.serde_json.specs.Data.{Data}
use Rattle.hp_model.specs.Values.{Name, ◌>>=◌}
use Rattle.hp_model.specs.Expressions.{Expression}
use Rattle.hp_model.specs.Rules.{Aggregate, count_over, sum_over, least_over, greatest_over, next_key, single}
use Rattle.hp_model.specs.Refusals.{Path, item_at, Decoded, shaped}
use Rattle.hp_model.specs.Json.{Form, form_of, beside}
use Rattle.hp_model.specs.Parts.{place_at}
use Rattle.hp_model.specs.Scopes.{Setting, row_setting, new_row_at}
use Rattle.hp_model.specs.ExpressionGrammar.{expression_at}

-- an aggregate whose parts are still JSON
pub data AggregateForm : Type 0 where
  count_form : (variable class predicate : Data) → AggregateForm
  sum_form least_form greatest_form : (variable class predicate term : Data) → AggregateForm
  next_form : (class : Data) → AggregateForm

abbrev pub aggregate_form : List ℕ → List Data → Option AggregateForm
aggregate_form word (a ∷ []) = beside word ((codes "next", next_form a) ∷ [])
aggregate_form word (a ∷ b ∷ c ∷ []) = beside word ((codes "count", count_form a b c) ∷ [])
aggregate_form word (a ∷ b ∷ c ∷ d ∷ []) =
    beside word ((codes "sum", sum_form a b c d) ∷ (codes "least", least_form a b c d) ∷ (codes "greatest", greatest_form a b c d) ∷ [])
aggregate_form word parts = None

-- whether a form is of an aggregate over rows, or of a next key; `["count"]` is an expression
abbrev pub names_aggregate : Form → Bool
names_aggregate f = list_any (bytes_eq f.word) (aggregate_words f.parts)
  where
    aggregate_words : List Data → List (List ℕ)
    aggregate_words [] = codes "sum" ∷ codes "least" ∷ codes "greatest" ∷ codes "next" ∷ []
    aggregate_words (a ∷ parts) = codes "count" ∷ codes "sum" ∷ codes "least" ∷ codes "greatest" ∷ codes "next" ∷ []

abbrev pub is_aggregate : Data → Bool
is_aggregate d = unwrap_or (option_map names_aggregate (form_of d)) false

abbrev pub aggregate_form_at : Path → Data → Decoded AggregateForm
aggregate_form_at path d = shaped path (option_and_then (λ (f : Form). aggregate_form f.word f.parts) (form_of d))

-- the variable, the class and the predicate, which may use the variable
pub record Over : Type 0 where
  pub variable : Name
  pub class : ℕ
  pub predicate : Expression

unfoldable pub over_at : (classes : List Name) → Setting → Path → Data → Data → Data → Decoded Over
over_at classes setting path variable class predicate = do
  x ← new_row_at setting.names (item_at path 1) variable
  n ← place_at classes (item_at path 2) class
  e ← expression_at (row_setting x setting) (item_at path 3) predicate
  Ok (record { variable = x; class = n; predicate = e })

-- the same, and a term, which may use the variable
unfoldable pub terms_at : (classes : List Name) → Setting → Path → Data → Data → Data → Data → Decoded (Over × Expression)
terms_at classes setting path variable class predicate term = do
  over ← over_at classes setting path variable class predicate
  e ← expression_at (row_setting over.variable setting) (item_at path 4) term
  Ok (over, e)

abbrev pub aggregate_from : (classes : List Name) → Setting → Path → AggregateForm → Decoded Aggregate
aggregate_from classes setting path (count_form variable class predicate) = do
  over ← over_at classes setting path variable class predicate
  Ok (count_over over.variable over.class over.predicate)
aggregate_from classes setting path (sum_form variable class predicate term) = do
  terms ← terms_at classes setting path variable class predicate term
  Ok (sum_over terms.0.variable terms.0.class terms.0.predicate terms.1)
aggregate_from classes setting path (least_form variable class predicate term) = do
  terms ← terms_at classes setting path variable class predicate term
  Ok (least_over terms.0.variable terms.0.class terms.0.predicate terms.1)
aggregate_from classes setting path (greatest_form variable class predicate term) = do
  terms ← terms_at classes setting path variable class predicate term
  Ok (greatest_over terms.0.variable terms.0.class terms.0.predicate terms.1)
aggregate_from classes setting path (next_form class) = do
  n ← place_at classes (item_at path 1) class
  Ok (next_key n)

unfoldable pub single_at : Setting → Path → Data → Decoded Aggregate
single_at setting path d = do
  e ← expression_at setting path d
  Ok (single e)

-- an aggregate, in this setting; what isn't of such a form is an expression
unfoldable pub aggregate_at : (classes : List Name) → Setting → Path → Data → Decoded Aggregate
aggregate_at classes setting path d =
    if is_aggregate d then (aggregate_form_at path d >>= aggregate_from classes setting path) else single_at setting path d
