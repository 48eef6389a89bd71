-- What the crate's types stand for fits: each constant is within its type's bounds, and checked parts use existing
-- classes.
use Rattle.std.proofs.Common.{◌≡◌, refl, ℕ, true, List, [], ◌∷◌, length, map, Ok, None, Some, string_bytes}
use Rattle.std.proofs.lemmas.Bool.{and_parts, and_from}
use Rattle.std.specs.List.{list_all}
use Rattle.hp_model.specs.Values.{ClassDef}
use Rattle.hp_model.specs.Rules as R
use Rattle.hp_model.specs.Checked as C
use Rattle.hp_model.specs.Ranges.{expression_fits, assignments_fit, aggregate_fits, entry_fits, statement_fits, body_fits, rule_fits, IsFitLibrary}
use Rattle.hp_value.specs.Mapped.{expression}
use Rattle.hp_value.specs.declared.expr.Expr.{Expr}
use Rattle.hp_value.specs.declared.expr.Expr.TheVariants.{Constant, Arithmetic', Comparison', Negated', Not', And', Or', FieldOf, KeyOf, NewField, OldField, KeyIn, Argument}
use Rattle.hp_value.specs.declared.expr.Expr.TheVariants.{TimeOf, Count, ValueOf, Now}
use Rattle.hp_query.specs.Mapped.{aggregate, entry}
use Rattle.hp_query.specs.declared.aggregate.Aggregate.{Aggregate}
use Rattle.hp_query.specs.declared.aggregate.Aggregate.TheVariants as A
use Rattle.hp_query.specs.declared.entry.Entry.{Entry}
use Rattle.hp_query.specs.declared.entry.Entry.TheVariants as E
use Rattle.hp_rule.specs.Statements.{assignment, statement, row_body, body_in, rule}
use Rattle.hp_rule.specs.Libraries.{library}
use Rattle.hp_rule.specs.WellNamed as W
use Rattle.hp_rule.specs.declared.stmt.Assignment.{Assignment}
use Rattle.hp_rule.specs.declared.stmt.Stmt.{Stmt, Row_of-Stmt, end_of-Stmt, more_of-Stmt}
use Rattle.hp_rule.specs.declared.stmt.Stmt.TheVariants.{Create, Update, Delete, Signal, Emit, If', Each', For', With', Sub', Let', Abort, Veto, OnRule, Fire}
use Rattle.hp_rule.specs.declared.rule.Rule.{Rule}
use Rattle.hp_rule.specs.declared.library.Library.{Library}
use Rattle.hp_rule.proofs.WellNamedLemmas.{whole_body_knows, library_is_well_named, library_fields_differ}

pub expression_within : (e : Expr) → expression_fits (expression e) ≡ true
expression_within (Constant c) = c.fits
expression_within (Arithmetic' op p a q b) = and_from (expression_fits (expression a)) (expression_fits (expression b)) (expression_within a) (expression_within b)
expression_within (Comparison' op p a q b) = and_from (expression_fits (expression a)) (expression_fits (expression b)) (expression_within a) (expression_within b)
expression_within (Negated' p a) = expression_within a
expression_within (Not' p a) = expression_within a
expression_within (And' p a q b) = and_from (expression_fits (expression a)) (expression_fits (expression b)) (expression_within a) (expression_within b)
expression_within (Or' p a q b) = and_from (expression_fits (expression a)) (expression_fits (expression b)) (expression_within a) (expression_within b)
expression_within (FieldOf x f) = refl
expression_within (KeyOf x) = refl
expression_within (NewField i f) = refl
expression_within (OldField i f) = refl
expression_within (KeyIn i) = refl
expression_within (Argument i j) = refl
expression_within (TimeOf i) = refl
expression_within Count = refl
expression_within (ValueOf x) = refl
expression_within Now = refl

expressions_within : (es : List Expr) → list_all expression_fits (map expression es) ≡ true
expressions_within [] = refl
expressions_within (e ∷ es) = and_from (expression_fits (expression e)) (list_all expression_fits (map expression es)) (expression_within e) (expressions_within es)

pairs_within : (ps : List Assignment) → assignments_fit (map assignment ps) ≡ true
pairs_within [] = refl
pairs_within (p ∷ ps) = and_from (expression_fits (expression p.value)) (assignments_fit (map assignment ps)) (expression_within p.value) (pairs_within ps)

aggregate_within : (a : Aggregate) → aggregate_fits (aggregate a) ≡ true
aggregate_within (A.Count q) = expression_within q.predicate.value
aggregate_within (A.Sum q e) = and_from (expression_fits (expression q.predicate.value)) _ (expression_within q.predicate.value) (expression_within e.value)
aggregate_within (A.Least q e) = and_from (expression_fits (expression q.predicate.value)) _ (expression_within q.predicate.value) (expression_within e.value)
aggregate_within (A.Greatest q e) = and_from (expression_fits (expression q.predicate.value)) _ (expression_within q.predicate.value) (expression_within e.value)
aggregate_within (A.Next class) = refl
aggregate_within (A.Single e) = expression_within e.value

entry_within : (e : Entry) → entry_fits (entry e) ≡ true
entry_within (E.Query q) = expression_within q.predicate.value
entry_within (E.No q) = expression_within q.predicate.value
entry_within (E.Let x a) = aggregate_within a

entries_within : (es : List Entry) → list_all entry_fits (map entry es) ≡ true
entries_within [] = refl
entries_within (e ∷ es) = and_from (entry_fits (entry e)) (list_all entry_fits (map entry es)) (entry_within e) (entries_within es)

-- ---- statements whose names are known

module _ (scope : C.Scope) where
  abbrev Known : C.Names → R.Body → Type 0
  Known names b = W.knows_body scope names b ≡ true

  abbrev Fitting : R.Body → Type 0
  Fitting b = body_fits (length scope.classes) b ≡ true

  mutual
    statement_within : (names : C.Names) (s : Stmt) → W.knows_statement scope names (statement s) ≡ true → statement_fits (length scope.classes) (statement s) ≡ true
    statement_within names (Create class key pairs) known =
        let knows = and_parts (W.knows_class scope class) _ known in
        and_from (W.knows_class scope class) _ knows.0 (and_from (expression_fits (expression key.value)) _ (expression_within key.value) (pairs_within pairs.items))
    statement_within names (Update class key pairs) known = and_from (expression_fits (expression key.value)) _ (expression_within key.value) (pairs_within pairs.items)
    statement_within names (Delete class key) known = expression_within key.value
    statement_within names (Signal name arguments) known = expressions_within arguments.items
    statement_within names (Emit e) known = expression_within e.value
    statement_within names (If' e shape then_body shape' else_body) known =
        let knows = and_parts (W.knows_expression names (expression e.value)) _ known in
        let bodies = and_parts (W.knows_body scope names (row_body then_body)) _ knows.1 in
        and_from (expression_fits (expression e.value)) _ (expression_within e.value)
        (and_from (body_fits (length scope.classes) (row_body then_body)) _ (row_within names then_body bodies.0) (row_within names else_body bodies.1))
    statement_within names (Each' x class predicate shape body) known =
        let knows = and_parts (W.knows_class scope class) _ known in
        let inner = and_parts (W.knows_expression (C.knowing_row (string_bytes x) names) (expression predicate.value)) _ knows.1 in
        and_from (expression_fits (expression predicate.value)) _ (expression_within predicate.value) (row_within (C.knowing_row (string_bytes x) names) body inner.1)
    statement_within names (For' x shape body) known =
        let knows = and_parts (C.is_known scope.queries (string_bytes x)) _ known in
        row_within names body knows.1
    statement_within names (With' x class key shape body) known =
        let knows = and_parts (W.knows_class scope class) _ known in
        let inner = and_parts (W.knows_expression names (expression key.value)) _ knows.1 in
        and_from (expression_fits (expression key.value)) _ (expression_within key.value) (row_within (C.knowing_row (string_bytes x) names) body inner.1)
    statement_within names (Sub' shape body shape' otherwise) known =
        let bodies = and_parts (W.knows_body scope names (row_body body)) _ known in
        and_from (body_fits (length scope.classes) (row_body body)) _ (row_within names body bodies.0) (row_within names otherwise bodies.1)
    statement_within names (Let' x a shape body) known =
        let knows = and_parts (W.knows_aggregate (length scope.classes) names (aggregate a)) _ known in
        and_from (aggregate_fits (aggregate a)) _ (aggregate_within a) (row_within (C.knowing_value (string_bytes x) names) body knows.1)
    statement_within names Abort known = refl
    statement_within names (Veto None) known = refl
    statement_within names (Veto (Some e)) known = expression_within e.value
    statement_within names (OnRule op n) known = refl
    statement_within names (Fire n) known = refl

    row_within : {m : _} (names : C.Names) (b : Row_of-Stmt m) → Known names (row_body b) → Fitting (row_body b)
    row_within names end_of-Stmt known = refl
    row_within names (more_of-Stmt s rest) known =
        let knows = and_parts (W.knows_statement scope names (statement s)) _ known in
        and_from (statement_fits (length scope.classes) (statement s)) _ (statement_within names s knows.0) (row_within names rest knows.1)

  body_within : (names : C.Names) (ss : List Stmt) → Known names (body_in ss) → Fitting (body_in ss)
  body_within names [] known = refl
  body_within names (s ∷ ss) known =
      let knows = and_parts (W.knows_statement scope names (statement s)) _ known in
      and_from (statement_fits (length scope.classes) (statement s)) _ (statement_within names s knows.0) (body_within names ss knows.1)

-- the body of a script that is well formed with the library
pub script_body_fits : (l : R.Library) (ss : List Stmt) → C.script_body_check l [] (body_in ss) ≡ Ok tt → body_fits (length l.classes) (body_in ss) ≡ true
script_body_fits l ss is = body_within (C.script_scope l) C.no_names ss (whole_body_knows (C.script_scope l) C.no_names [] (body_in ss) is)

-- ---- libraries

rules_within : (classes : List ClassDef) (count : ℕ) (rs : List Rule) → list_all (λ (r : R.Rule). W.knows_rule classes count r) (map rule rs) ≡ true
    → list_all (rule_fits (length classes)) (map rule rs) ≡ true
rules_within classes count [] known = refl
rules_within classes count (r ∷ rs) known =
    let knows = and_parts (W.knows_rule classes count (rule r)) _ known in
    let parts = and_parts (W.knows_event (length classes) (rule r).event) _ knows.0 in
    let condition = and_parts (W.knows_entries (length classes) [] (rule r).condition) _ parts.1 in
    and_from (rule_fits (length classes) (rule r)) _
    (and_from (list_all entry_fits (rule r).condition) _ (entries_within r.condition.items)
    (body_within (C.action_scope classes count (rule r).condition) (C.names_of (rule r).condition) r.action.items condition.1))
    (rules_within classes count rs knows.1)

pub library_fits : (l : Library) → IsFitLibrary (library l)
library_fits l = record {
  fields_differ = library_fields_differ (library l) l.checked;
  rules_fit = rules_within (library l).classes (length (library l).rules) l.rules.items (library_is_well_named (library l) l.checked).rules_know;
}
