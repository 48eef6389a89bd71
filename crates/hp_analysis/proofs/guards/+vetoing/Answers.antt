use Rattle.std.proofs.Common.{rules, ◌≡◌, ap, ap₂, ◌∙◌}
use Rattle.std.specs.Prelude.{string_bytes, ◌||◌}
use Rattle.hp_model.specs.Rules as R
use Rattle.hp_value.specs.Mapped.{expression}
use Rattle.hp_query.specs.Mapped.{aggregate}
use Rattle.hp_rule.specs.declared.stmt.Stmt.TheViews.{the_lemmas}
use Rattle.hp_rule.specs.Statements.{statement, body_in}
use Rattle.hp_rule.proofs.Bodies.{row_body_lem}
use Rattle.hp_analysis.specs.Guards.{statement_vetoes, body_vetoes}
use Rattle.hp_analysis.proofs.guards.+vetoing.Goals as goal

pub is_veto-returns-in-If : goal.is_veto-returns-in-If
is_veto-returns-in-If t c =
    let is : R.when (expression c.in-If.condition.value) (body_in c.in-If.then_body.items) (body_in c.in-If.else_body.items) ≡ statement c.args.s.now = search (rules, the_lemmas, row_body_lem) in
    let a : c.may_veto-first.result ≡ body_vetoes (body_in c.in-If.then_body.items) = search rules in
    let b : c.may_veto-second.result ≡ body_vetoes (body_in c.in-If.else_body.items) = search rules in
    c.either.ensures ∙ ap₂ (λ x y. x || y) a b ∙ ap statement_vetoes is

pub is_veto-returns-in-Each : goal.is_veto-returns-in-Each
is_veto-returns-in-Each t c =
    let is : R.each (string_bytes c.in-Each.variable) c.in-Each.class (expression c.in-Each.predicate.value) (body_in c.in-Each.body.items) ≡ statement c.args.s.now =
    search (rules, the_lemmas, row_body_lem) in
    let a : c.may_veto.result ≡ body_vetoes (body_in c.in-Each.body.items) = search rules in
    a ∙ ap statement_vetoes is

pub is_veto-returns-in-For : goal.is_veto-returns-in-For
is_veto-returns-in-For t c =
    let is : R.for_answer (string_bytes c.in-For.query) (body_in c.in-For.body.items) ≡ statement c.args.s.now = search (rules, the_lemmas, row_body_lem) in
    let a : c.may_veto-in-For.result ≡ body_vetoes (body_in c.in-For.body.items) = search rules in
    a ∙ ap statement_vetoes is

pub is_veto-returns-in-With : goal.is_veto-returns-in-With
is_veto-returns-in-With t c =
    let is : R.with_object (string_bytes c.in-With.variable) c.in-With.class (expression c.in-With.key.value) (body_in c.in-With.body.items) ≡ statement c.args.s.now =
    search (rules, the_lemmas, row_body_lem) in
    let a : c.may_veto-in-With.result ≡ body_vetoes (body_in c.in-With.body.items) = search rules in
    a ∙ ap statement_vetoes is

pub is_veto-returns-in-Sub : goal.is_veto-returns-in-Sub
is_veto-returns-in-Sub t c =
    let is : R.subtransaction (body_in c.in-Sub.body.items) (body_in c.in-Sub.otherwise.items) ≡ statement c.args.s.now = search (rules, the_lemmas, row_body_lem) in
    let a : c.may_veto-first-in-Sub.result ≡ body_vetoes (body_in c.in-Sub.body.items) = search rules in
    let b : c.may_veto-second-in-Sub.result ≡ body_vetoes (body_in c.in-Sub.otherwise.items) = search rules in
    c.either-in-Sub.ensures ∙ ap₂ (λ x y. x || y) a b ∙ ap statement_vetoes is

pub is_veto-returns-in-Let : goal.is_veto-returns-in-Let
is_veto-returns-in-Let t c =
    let is : R.let_value (string_bytes c.in-Let.name) (aggregate c.in-Let.aggregate) (body_in c.in-Let.body.items) ≡ statement c.args.s.now = search (rules, the_lemmas, row_body_lem) in
    let a : c.may_veto-in-Let.result ≡ body_vetoes (body_in c.in-Let.body.items) = search rules in
    a ∙ ap statement_vetoes is
