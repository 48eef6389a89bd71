use Rattle.std.proofs.Common.{rules, arith, ◌≡◌, ◌∙◌, sym, ap, drop, ◌+◌, ◌∷◌}
use Rattle.std.proofs.lemmas.Grind.{common_steps}
use Rattle.std.specs.Prelude.{string_bytes}
use Rattle.hp_model.specs.Rules as R
use Rattle.hp_model.specs.Chains.{statement_triggers, body_triggers}
use Rattle.hp_value.specs.Mapped.{expression}
use Rattle.hp_query.specs.Mapped.{aggregate}
use Rattle.hp_rule.specs.declared.stmt.Stmt.TheViews.{the_lemmas}
use Rattle.hp_rule.specs.Statements.{statement, body_in}
use Rattle.hp_analysis.specs.Graphs.{seen}
use Rattle.hp_rule.proofs.Bodies.{row_body_lem}
use Rattle.hp_analysis.specs.Sets.{marked}
use Rattle.hp_analysis.proofs.Marks.{marked_append, body_marked}
use Rattle.hp_analysis.proofs.triggers.Triggers.+statement.Goals as goal

pub mark_statement-returns-in-If : goal.mark_statement-returns-in-If
mark_statement-returns-in-If t c =
    let library = seen c.args.self.now in
    let is : R.when (expression c.in-If.condition.value) (body_in c.deref.result.now) (body_in c.deref-in-If.result.now) ≡ statement c.args.s.now = search (rules, the_lemmas, row_body_lem) in
    c.mark_body-in-If.ensures ∙ ap (marked (body_triggers library (body_in c.deref-in-If.result.now))) c.mark_body.ensures
    ∙ sym (marked_append (body_triggers library (body_in c.deref.result.now)) (body_triggers library (body_in c.deref-in-If.result.now)) c.args.set.now.items)
    ∙ ap (λ s. marked (statement_triggers library s) c.args.set.now.items) is

pub mark_statement-returns-in-Each : goal.mark_statement-returns-in-Each
mark_statement-returns-in-Each t c =
    let library = seen c.args.self.now in
    let is : R.each (string_bytes c.in-Each.variable) c.in-Each.class (expression c.in-Each.predicate.value) (body_in c.deref-in-Each.result.now) ≡ statement c.args.s.now =
    search (rules, the_lemmas, row_body_lem) in
    c.mark_body-in-Each.ensures ∙ ap (λ s. marked (statement_triggers library s) c.args.set.now.items) is

pub mark_statement-returns-in-For : goal.mark_statement-returns-in-For
mark_statement-returns-in-For t c =
    let library = seen c.args.self.now in
    let is : R.for_answer (string_bytes c.in-For.query) (body_in c.deref-in-For.result.now) ≡ statement c.args.s.now = search (rules, the_lemmas, row_body_lem) in
    c.mark_body-in-For.ensures ∙ ap (λ s. marked (statement_triggers library s) c.args.set.now.items) is

pub mark_statement-returns-in-With : goal.mark_statement-returns-in-With
mark_statement-returns-in-With t c =
    let library = seen c.args.self.now in
    let is : R.with_object (string_bytes c.in-With.variable) c.in-With.class (expression c.in-With.key.value) (body_in c.deref-in-With.result.now) ≡ statement c.args.s.now =
    search (rules, the_lemmas, row_body_lem) in
    c.mark_body-in-With.ensures ∙ ap (λ s. marked (statement_triggers library s) c.args.set.now.items) is

pub mark_statement-returns-in-Let : goal.mark_statement-returns-in-Let
mark_statement-returns-in-Let t c =
    let library = seen c.args.self.now in
    let is : R.let_value (string_bytes c.in-Let.name) (aggregate c.in-Let.aggregate) (body_in c.deref-in-Let.result.now) ≡ statement c.args.s.now = search (rules, the_lemmas, row_body_lem) in
    c.mark_body-in-Let.ensures ∙ ap (λ s. marked (statement_triggers library s) c.args.set.now.items) is

pub mark_statement-returns-in-Sub : goal.mark_statement-returns-in-Sub
mark_statement-returns-in-Sub t c =
    let library = seen c.args.self.now in
    let is : R.subtransaction (body_in c.deref-in-Sub.result.now) (body_in c.deref-in-Sub-2.result.now) ≡ statement c.args.s.now = search (rules, the_lemmas, row_body_lem) in
    c.mark_body-in-Sub-2.ensures ∙ ap (marked (body_triggers library (body_in c.deref-in-Sub-2.result.now))) c.mark_body-in-Sub.ensures
    ∙ sym (marked_append (body_triggers library (body_in c.deref-in-Sub.result.now)) (body_triggers library (body_in c.deref-in-Sub-2.result.now)) c.args.set.now.items)
    ∙ ap (λ s. marked (statement_triggers library s) c.args.set.now.items) is

pub mark_body-loop-s-preserved : goal.mark_body-loop-s-preserved
mark_body-loop-s-preserved t c =
    let library = seen c.args.self.now in
    let rest = drop (c.loop-s.s-index + 1) c.args.body.now in
    let split : drop c.loop-s.s-index c.args.body.now ≡ c.s-item.result ∷ drop (c.loop-s.s-index + 1) c.args.body.now = grind (arith, common_steps, c.s-item.is, c.loop-s-test.true) in
    ap (marked (body_triggers library (body_in rest))) c.mark_statement.ensures
    ∙ sym (body_marked library (statement c.s-item.result) (body_in rest) c.loop-s.set.items)
    ∙ sym (ap (λ ss. marked (body_triggers library (body_in ss)) c.loop-s.set.items) split)
    ∙ c.loop-s.invariant
