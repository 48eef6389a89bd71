use Rattle.std.proofs.Common.{rules, ◌≡◌, ap, ap₂, ◌∙◌, ◌&&◌}
use Rattle.std.specs.Prelude.{string_bytes}
use Rattle.hp_model.specs.Rules as R
use Rattle.hp_model.specs.Kinds as K
use Rattle.hp_value.specs.Mapped.{expression}
use Rattle.hp_query.specs.Mapped.{aggregate}
use Rattle.hp_rule.specs.declared.stmt.Stmt.TheViews.{the_lemmas}
use Rattle.hp_rule.specs.Statements.{statement, body_in}
use Rattle.hp_rule.proofs.Bodies.{row_body_lem}
use Rattle.hp_analysis.proofs.calm.+calm.Goals as goal

pub is_statement_calm-returns-in-If : goal.is_statement_calm-returns-in-If
is_statement_calm-returns-in-If t c =
    let is : R.when (expression c.in-If.condition.value) (body_in c.in-If.then_body.items) (body_in c.in-If.else_body.items) ≡ statement c.args.s.now = search (rules, the_lemmas, row_body_lem) in
    let e : c.is_calm-in-If.result ≡ K.is_calm (expression c.in-If.condition.value) = search rules in
    let a : c.is_body_calm-first.result ≡ K.is_body_calm (body_in c.in-If.then_body.items) = search rules in
    let b : c.is_body_calm-second.result ≡ K.is_body_calm (body_in c.in-If.else_body.items) = search rules in
    c.both.ensures ∙ ap₂ (λ x y. x && y) e (c.both-bodies.ensures ∙ ap₂ (λ x y. x && y) a b) ∙ ap K.is_statement_calm is

pub is_statement_calm-returns-in-Each : goal.is_statement_calm-returns-in-Each
is_statement_calm-returns-in-Each t c =
    let is : R.each (string_bytes c.in-Each.variable) c.in-Each.class (expression c.in-Each.predicate.value) (body_in c.in-Each.body.items) ≡ statement c.args.s.now =
    search (rules, the_lemmas, row_body_lem) in
    let e : c.is_calm-in-Each.result ≡ K.is_calm (expression c.in-Each.predicate.value) = search rules in
    let a : c.is_body_calm-inside.result ≡ K.is_body_calm (body_in c.in-Each.body.items) = search rules in
    c.both-in-Each.ensures ∙ ap₂ (λ x y. x && y) e a ∙ ap K.is_statement_calm is

pub is_statement_calm-returns-in-For : goal.is_statement_calm-returns-in-For
is_statement_calm-returns-in-For t c =
    let is : R.for_answer (string_bytes c.in-For.query) (body_in c.in-For.body.items) ≡ statement c.args.s.now = search (rules, the_lemmas, row_body_lem) in
    let a : c.is_body_calm.result ≡ K.is_body_calm (body_in c.in-For.body.items) = search rules in
    a ∙ ap K.is_statement_calm is

pub is_statement_calm-returns-in-With : goal.is_statement_calm-returns-in-With
is_statement_calm-returns-in-With t c =
    let is : R.with_object (string_bytes c.in-With.variable) c.in-With.class (expression c.in-With.key.value) (body_in c.in-With.body.items) ≡ statement c.args.s.now =
    search (rules, the_lemmas, row_body_lem) in
    let e : c.is_calm-in-With.result ≡ K.is_calm (expression c.in-With.key.value) = search rules in
    let a : c.is_body_calm-inside-in-With.result ≡ K.is_body_calm (body_in c.in-With.body.items) = search rules in
    c.both-in-With.ensures ∙ ap₂ (λ x y. x && y) e a ∙ ap K.is_statement_calm is

pub is_statement_calm-returns-in-Sub : goal.is_statement_calm-returns-in-Sub
is_statement_calm-returns-in-Sub t c =
    let is : R.subtransaction (body_in c.in-Sub.body.items) (body_in c.in-Sub.otherwise.items) ≡ statement c.args.s.now = search (rules, the_lemmas, row_body_lem) in
    let a : c.is_body_calm-in-Sub.result ≡ K.is_body_calm (body_in c.in-Sub.otherwise.items) = search rules in
    a ∙ ap K.is_statement_calm is

pub is_statement_calm-returns-in-Let : goal.is_statement_calm-returns-in-Let
is_statement_calm-returns-in-Let t c =
    let is : R.let_value (string_bytes c.in-Let.name) (aggregate c.in-Let.computed) (body_in c.in-Let.body.items) ≡ statement c.args.s.now = search (rules, the_lemmas, row_body_lem) in
    let e : c.is_aggregate_calm.result ≡ K.is_aggregate_calm (aggregate c.in-Let.computed) = search rules in
    let a : c.is_body_calm-inside-in-Let.result ≡ K.is_body_calm (body_in c.in-Let.body.items) = search rules in
    c.both-in-Let.ensures ∙ ap₂ (λ x y. x && y) e a ∙ ap K.is_statement_calm is
