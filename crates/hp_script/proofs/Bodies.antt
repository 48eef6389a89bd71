-- Bodies read as statements, one after the other, also where they lie inside a statement.
use Rattle.std.proofs.Common.{◌≡◌, ℕ, List, [], ◌∷◌, map, refl, ap, ◌∙◌, Box, Vec, Global, String, string_bytes}
use mathlib.Core.Former.{Count}
use Rattle.hp_model.specs.Rules as R
use Rattle.hp_model.specs.StatementGrammar.{body_of}
use Rattle.hp_value.specs.Mapped.{expression}
use Rattle.hp_value.specs.declared.expr.Expr.{Expr}
use Rattle.hp_query.specs.Mapped.{aggregate}
use Rattle.hp_query.specs.declared.aggregate.Aggregate.{Aggregate}
use Rattle.hp_rule.specs.Mapped.{statement, row_body, body_in}
use Rattle.hp_rule.specs.declared.stmt.Stmt.{Stmt, Row_of-Stmt, end_of-Stmt, more_of-Stmt, items-the_row-Stmt, items_hidden-the_row-Stmt-0}
use Rattle.hp_rule.specs.declared.stmt.Stmt.TheVariants.{If, Each, For, With, Sub, Let, Sub'}

abbrev read_body : List Stmt → R.Body
read_body ss = body_of (map statement ss)

pub body_of_statements : (ss : List Stmt) → body_in ss ≡ body_of (map statement ss)
body_of_statements [] = refl
body_of_statements (s ∷ ss) = ap (λ (b : R.Body). R.◌then◌ (statement s) b) (body_of_statements ss)

body_of_row : (n : _) (row : Row_of-Stmt n) → row_body row ≡ read_body (items-the_row-Stmt n row)
body_of_row n end_of-Stmt = refl
body_of_row n (more_of-Stmt s rest) = ap (λ (b : R.Body). R.◌then◌ (statement s) b) (body_of_row _ rest)

-- the statements of a body, as they lie inside a statement
abbrev row_in : Stmt → (n : Count) × Row_of-Stmt n
row_in (Sub' shape body shape' otherwise) = (_, body)
row_in s = (_, end_of-Stmt)

abbrev inner : Vec Stmt Global → R.Body
inner body = row_body (row_in (Sub body body)).1

inner_is : (body : Vec Stmt Global) → inner body ≡ read_body body.items
inner_is body = let row = row_in (Sub body body) in body_of_row row.0 row.1 ∙ ap read_body (items_hidden-the_row-Stmt-0 body)

inner_two : (f : R.Body → R.Body → R.Statement) (a b : Vec Stmt Global) → f (inner a) (inner b) ≡ f (read_body a.items) (read_body b.items)
inner_two f a b = ap (λ x. f x (inner b)) (inner_is a) ∙ ap (λ x. f (read_body a.items) x) (inner_is b)

pub if_statement : (e : Box Expr Global) (a b : Vec Stmt Global) → statement (If e a b) ≡ R.when (expression e.value) (body_of (map statement a.items)) (body_of (map statement b.items))
if_statement e a b = inner_two (λ x y. R.when (expression e.value) x y) a b

pub each_statement : (x : String Global) (name : List ℕ) (class : ℕ) (e : Box Expr Global) (body : Vec Stmt Global) → string_bytes x ≡ name
    → statement (Each x class e body) ≡ R.each name class (expression e.value) (body_of (map statement body.items))
each_statement x name class e body is = ap (λ y. R.each y class (expression e.value) (inner body)) is ∙ ap (λ b. R.each name class (expression e.value) b) (inner_is body)

pub for_statement : (x : String Global) (name : List ℕ) (body : Vec Stmt Global) → string_bytes x ≡ name → statement (For x body) ≡ R.for_answer name (body_of (map statement body.items))
for_statement x name body is = ap (λ y. R.for_answer y (inner body)) is ∙ ap (λ b. R.for_answer name b) (inner_is body)

pub with_statement : (x : String Global) (name : List ℕ) (class : ℕ) (e : Box Expr Global) (body : Vec Stmt Global) → string_bytes x ≡ name
    → statement (With x class e body) ≡ R.with_object name class (expression e.value) (body_of (map statement body.items))
with_statement x name class e body is = ap (λ y. R.with_object y class (expression e.value) (inner body)) is ∙ ap (λ b. R.with_object name class (expression e.value) b) (inner_is body)

pub sub_statement : (a b : Vec Stmt Global) → statement (Sub a b) ≡ R.subtransaction (body_of (map statement a.items)) (body_of (map statement b.items))
sub_statement a b = inner_two (λ x y. R.subtransaction x y) a b

pub let_statement : (x : String Global) (name : List ℕ) (a : Aggregate) (body : Vec Stmt Global) → string_bytes x ≡ name
    → statement (Let x a body) ≡ R.let_value name (aggregate a) (body_of (map statement body.items))
let_statement x name a body is = ap (λ y. R.let_value y (aggregate a) (inner body)) is ∙ ap (λ b. R.let_value name (aggregate a) b) (inner_is body)
