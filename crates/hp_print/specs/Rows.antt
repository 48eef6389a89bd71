-- What the parts of rows and of queries stand for in the model.
use Rattle.std.specs.Prelude.{ℕ, Bool, false, List, Option, Some, None, option_and_then, bytes_eq, codes, if◌then◌else◌}
use Rattle.serde_json.specs.Data.{Data}
use Rattle.serde_json.specs.View.{view}
use Rattle.hp_model.specs.Json.{form_in}
use Rattle.hp_model.specs.NotationForms as F
use Rattle.hp_model.specs.NotationValues.{of_one, rows_of, query_of_list}
use Rattle.hp_print.specs.declared.rows.RowParts.{RowParts}
use Rattle.hp_print.specs.declared.rows.Fold.{Fold}
use Rattle.hp_print.specs.declared.rows.Fold.TheVariants.{Total, Least, Greatest}

abbrev pub rows_form : RowParts → Option F.Rows
rows_form r = rows_of (view r.name.now) (view r.class.now) (view r.predicate.now)

abbrev pub fold_view : Fold → F.Fold
fold_view Total = F.total
fold_view Least = F.least
fold_view Greatest = F.greatest

-- the query of a list of these items
abbrev pub query_in : (lets : Bool) → List Data → Option F.Query
query_in lets ds = option_and_then (query_of_list lets ds) (form_in ds)

-- what a value says, if it is a truth
abbrev pub said : Option Bool → Bool
said None = false
said (Some b) = b

-- a query of a word and rows
abbrev pub no_rows_of : Option (List ℕ) → Option F.Rows → Option F.Query
no_rows_of word rows = option_and_then (λ w. if bytes_eq w (codes "no") then of_one F.no_rows rows else None) word
