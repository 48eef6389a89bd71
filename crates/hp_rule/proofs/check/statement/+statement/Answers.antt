use Rattle.std.proofs.Common.{rules, ◌≡◌, subst}
use Rattle.hp_value.specs.Mapped.{expression}
use Rattle.hp_query.specs.Mapped.{aggregate}
use Rattle.hp_model.specs.Rules as R
use Rattle.hp_rule.specs.declared.stmt.Stmt.TheViews.{the_lemmas}
use Rattle.hp_rule.specs.Statements.{statement, body_in}
use Rattle.hp_model.specs.Checked.{statement_parts_check, statement_check}
use Rattle.hp_rule.specs.Faults.{Passes}
use Rattle.hp_rule.specs.Named.{names_in}
use Rattle.hp_rule.specs.Places.{steps}
use Rattle.hp_rule.specs.Scopes.{scope_of}
use Rattle.hp_rule.proofs.Bodies.{row_body_lem}
use Rattle.hp_rule.proofs.check.statement.+statement.Goals as goal

pub check_parts-returns-in-If : goal.check_parts-returns-in-If
check_parts-returns-in-If t c =
    let is : R.when (expression c.deref-in-If.result.now) (body_in c.deref-in-If-2.result.now) (body_in c.deref-in-If-3.result.now) ≡ statement c.args.s.now =
    search (rules, the_lemmas, row_body_lem) in
    subst (λ s. Passes c.check_if.result (statement_parts_check (scope_of c.args.context.now.scope) (statement_check (scope_of c.args.context.now.scope) c.args.levels)
    (names_in c.args.context.now.names) (steps c.args.context.now.place) s)) is c.check_if.ensures

pub check_parts-returns-in-Each : goal.check_parts-returns-in-Each
check_parts-returns-in-Each t c =
    let is : R.each c.as_str-in-Each.result.now c.in-Each.class (expression c.deref-in-Each.result.now) (body_in c.deref-in-Each-2.result.now) ≡ statement c.args.s.now =
    search (rules, the_lemmas, row_body_lem) in
    subst (λ s. Passes c.check_each.result (statement_parts_check (scope_of c.args.context.now.scope) (statement_check (scope_of c.args.context.now.scope) c.args.levels)
    (names_in c.args.context.now.names) (steps c.args.context.now.place) s)) is c.check_each.ensures

pub check_parts-returns-in-For : goal.check_parts-returns-in-For
check_parts-returns-in-For t c =
    let is : R.for_answer c.as_str-in-For.result.now (body_in c.deref-in-For.result.now) ≡ statement c.args.s.now = search (rules, the_lemmas, row_body_lem) in
    subst (λ s. Passes c.check_for.result (statement_parts_check (scope_of c.args.context.now.scope) (statement_check (scope_of c.args.context.now.scope) c.args.levels)
    (names_in c.args.context.now.names) (steps c.args.context.now.place) s)) is c.check_for.ensures

pub check_parts-returns-in-With : goal.check_parts-returns-in-With
check_parts-returns-in-With t c =
    let is : R.with_object c.as_str-in-With.result.now c.in-With.class (expression c.deref-in-With.result.now) (body_in c.deref-in-With-2.result.now) ≡ statement c.args.s.now =
    search (rules, the_lemmas, row_body_lem) in
    subst (λ s. Passes c.check_with.result (statement_parts_check (scope_of c.args.context.now.scope) (statement_check (scope_of c.args.context.now.scope) c.args.levels)
    (names_in c.args.context.now.names) (steps c.args.context.now.place) s)) is c.check_with.ensures

pub check_parts-returns-in-Sub : goal.check_parts-returns-in-Sub
check_parts-returns-in-Sub t c =
    let is : R.subtransaction (body_in c.deref-in-Sub.result.now) (body_in c.deref-in-Sub-2.result.now) ≡ statement c.args.s.now = search (rules, the_lemmas, row_body_lem) in
    subst (λ s. Passes c.check_sub.result (statement_parts_check (scope_of c.args.context.now.scope) (statement_check (scope_of c.args.context.now.scope) c.args.levels)
    (names_in c.args.context.now.names) (steps c.args.context.now.place) s)) is c.check_sub.ensures

pub check_parts-returns-in-Let : goal.check_parts-returns-in-Let
check_parts-returns-in-Let t c =
    let is : R.let_value c.as_str-in-Let.result.now (aggregate c.in-Let.computed) (body_in c.deref-in-Let.result.now) ≡ statement c.args.s.now = search (rules, the_lemmas, row_body_lem) in
    subst (λ s. Passes c.check_let.result (statement_parts_check (scope_of c.args.context.now.scope) (statement_check (scope_of c.args.context.now.scope) c.args.levels)
    (names_in c.args.context.now.names) (steps c.args.context.now.place) s)) is c.check_let.ensures
