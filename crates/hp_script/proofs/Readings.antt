-- Forms read from their parts, one after the other.
use Rattle.std.proofs.Common.{◌≡◌, ℕ, List, [], ◌∷◌, ◌++◌, map, ap, sym, ◌∙◌, Ok, Vec, Global}
use Rattle.std.proofs.lemmas.List.{map-append}
use Rattle.serde_json.specs.Data.{Data}
use Rattle.hp_model.specs.Values.{Name}
use Rattle.hp_model.specs.Expressions.{Expression}
use Rattle.hp_model.specs.Rules as R
use Rattle.hp_model.specs.Cascade as C
use Rattle.hp_model.specs.Refusals.{Path, item_at}
use Rattle.hp_model.specs.Parts.{place_at}
use Rattle.hp_model.specs.Scopes.{Scope, Version, Setting, class_names, row_setting, value_setting, new_row_at}
use Rattle.hp_model.specs.ExpressionGrammar.{expression_at}
use Rattle.hp_model.specs.AggregateGrammar.{aggregate_at}
use Rattle.hp_model.specs.StatementGrammar.{Reading, body_of, query_at, statements_by, statements_at, each_at, for_at, with_at, let_value_at}
use Rattle.hp_model.specs.Decode.{Schedule, transaction_at}
use Rattle.hp_model.specs.Checked.{script_body_check}
use Rattle.hp_model.proofs.WellFormedScripts.{in_script}
use Rattle.hp_rule.specs.Mapped.{statement, body_in, body as body_of_model, unit}
use Rattle.hp_rule.specs.declared.stmt.Stmt.{Stmt}
use Rattle.hp_rule.specs.declared.body.Body.{Body}
use Rattle.hp_rule.specs.declared.unit.Unit.{Unit}
use Rattle.hp_rule.specs.declared.unit.Unit.TheVariants.{Transaction}
use Rattle.hp_script.specs.Scopes.{library_scope}
use Rattle.hp_script.proofs.Bodies.{body_of_statements}
use Rattle.hp_script.proofs.ItemScopes.{read_body}

pub for_read : (scope : Scope) (read : Reading) (setting : Setting) (path : Path) (d1 d2 : Data) (x : Name) (ss : List R.Statement) (s : R.Statement)
    → query_at scope (item_at path 1) d1 ≡ Ok x → statements_by read setting (item_at path 2) d2 ≡ Ok ss → s ≡ R.for_answer x (body_of ss)
    → for_at scope read setting path d1 d2 ≡ Ok s
unfolding for_at
for_read scope read setting path d1 d2 x ss s e f g = rw (e, f) (ap Ok (sym g))

pub each_read : (scope : Scope) (read : Reading) (setting : Setting) (path : Path) (d1 d2 d3 d4 : Data) (x : Name) (n : ℕ) (p : Expression) (ss : List R.Statement) (s : R.Statement)
    → new_row_at setting.names (item_at path 1) d1 ≡ Ok x → place_at (class_names scope.classes) (item_at path 2) d2 ≡ Ok n → expression_at (row_setting x setting) (item_at path 3) d3 ≡ Ok p
    → statements_by read (row_setting x setting) (item_at path 4) d4 ≡ Ok ss → s ≡ R.each x n p (body_of ss)
    → each_at scope read setting path d1 d2 d3 d4 ≡ Ok s
unfolding each_at
each_read scope read setting path d1 d2 d3 d4 x n p ss s e1 e2 e3 e4 g = rw (e1, e2, e3, e4) (ap Ok (sym g))

pub with_read : (scope : Scope) (read : Reading) (setting : Setting) (path : Path) (d1 d2 d3 d4 : Data) (x : Name) (n : ℕ) (k : Expression) (ss : List R.Statement) (s : R.Statement)
    → new_row_at setting.names (item_at path 1) d1 ≡ Ok x → place_at (class_names scope.classes) (item_at path 2) d2 ≡ Ok n → expression_at setting (item_at path 3) d3 ≡ Ok k
    → statements_by read (row_setting x setting) (item_at path 4) d4 ≡ Ok ss → s ≡ R.with_object x n k (body_of ss)
    → with_at scope read setting path d1 d2 d3 d4 ≡ Ok s
unfolding with_at
with_read scope read setting path d1 d2 d3 d4 x n k ss s e1 e2 e3 e4 g = rw (e1, e2, e3, e4) (ap Ok (sym g))

pub let_read : (scope : Scope) (read : Reading) (setting : Setting) (path : Path) (d1 d2 d3 : Data) (x : Name) (a : R.Aggregate) (ss : List R.Statement) (s : R.Statement)
    → new_row_at setting.names (item_at path 1) d1 ≡ Ok x → aggregate_at (class_names scope.classes) setting (item_at path 2) d2 ≡ Ok a
    → statements_by read (value_setting x setting) (item_at path 3) d3 ≡ Ok ss → s ≡ R.let_value x a (body_of ss)
    → let_value_at scope read setting path d1 d2 d3 ≡ Ok s
unfolding let_value_at
let_read scope read setting path d1 d2 d3 x a ss s e1 e2 e3 g = rw (e1, e2, e3) (ap Ok (sym g))

pub transaction_read : (version : Version) (scope : Scope) (path : Path) (before : Schedule) (d : Data) (ss : List R.Statement) (us : List C.Unit)
    → statements_at scope (in_script version) (item_at path 1) d ≡ Ok ss → us ≡ before.units ++ C.transaction before.clock (body_of ss) ∷ []
    → transaction_at version scope path before d ≡ Ok (record { units = us; clock = before.clock })
unfolding transaction_at
transaction_read version scope path before d ss us e g = rw e (ap (λ u. Ok (record { units = u; clock = before.clock })) (sym g))

pub transaction_pushed : (units new : List Unit) (time : ℕ) (body : Body) (statements : Vec Stmt Global) → new ≡ units ++ Transaction time body ∷ [] → body_of_model body ≡ body_in statements.items
    → map unit new ≡ map unit units ++ C.transaction time (body_of (map statement statements.items)) ∷ []
transaction_pushed units new time body statements e is =
    ap (map unit) e ∙ map-append unit units (Transaction time body ∷ []) ∙ ap (λ b. map unit units ++ C.transaction time b ∷ []) (is ∙ body_of_statements statements.items)

-- a body that was read is well formed
pub body_checked : (version : Version) (library : R.Library) (path : Path) (d : Data) (ss : List Stmt)
    → statements_at (library_scope library) (in_script version) path d ≡ Ok (map statement ss) → script_body_check library [] (body_in ss) ≡ Ok tt
body_checked version library path d ss read = rw body_of_statements (read_body version library path d (map statement ss) read)
