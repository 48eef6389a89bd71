use Rattle.std.proofs.Common.{rules, arith, ◌≡◌, sym, ap, ◌∙◌, Some, None, ◌+◌, ◌∷◌, drop}
use Rattle.std.proofs.lemmas.Grind.{common_steps}
use Rattle.std.specs.Prelude.{IfOk, string_bytes}
use Rattle.std.specs.Option.{option_or}
use Rattle.hp_value.specs.Mapped.{expression}
use Rattle.hp_query.specs.Mapped.{aggregate}
use Rattle.hp_detect.specs.Mapped.{event}
use Rattle.hp_model.specs.Rules as R
use Rattle.hp_model.specs.Refusals.{item_at}
use Rattle.hp_rule.specs.declared.stmt.Stmt.TheViews.{the_lemmas}
use Rattle.hp_rule.specs.Statements.{statement, body_in}
use Rattle.hp_rule.specs.Places.{steps}
use Rattle.hp_rule.proofs.Bodies.{row_body_lem}
use Rattle.hp_analysis.specs.Links as L
use Rattle.hp_analysis.specs.Signalled.{link, links}
use Rattle.hp_analysis.proofs.Least.{ok_to}
use Rattle.hp_analysis.proofs.Linking.{link_next}
use Rattle.hp_analysis.proofs.links.+linking.Goals as goal

pub body_link-loop-i-preserved : goal.body_link-loop-i-preserved
body_link-loop-i-preserved t c =
    let m = c.args.target.number in
    let e = event c.args.target.event.now in
    let path = steps c.args.place.now in
    let body = c.args.body.now in
    let i = c.loop-i.i in
    let st = c.index-body-i.result in
    let split : drop i body ≡ st ∷ drop (i + 1) body = grind (arith, common_steps, c.index-body-i.is, c.loop-i-test.true) in
    let given : links c.in_ok-link.field-0 ≡ L.statement_link m e (item_at path i) (statement st) = search rules in
    link_next m e path i (statement st) (body_in (drop i body)) (body_in (drop (i + 1) body)) (L.body_link m e path 0 (body_in body)) (ap body_in split)
    (sym (ap links c.in_default.is) ∙ given) c.loop-i.invariant

pub statement_link-returns-in-Some : goal.statement_link-returns-in-Some
statement_link-returns-in-Some t c =
    let m = c.args.target.number in
    let e = event c.args.target.event.now in
    let path = steps c.args.place.now in
    let other = body_in c.in-If.else_body.items in
    let is : R.when (expression c.in-If.condition.value) (body_in c.deref.result.now) other ≡ statement c.args.s.now = search (rules, the_lemmas, row_body_lem) in
    let first : Some (link c.in-Some.link) ≡ L.body_link m e (item_at path 2) 0 (body_in c.deref.result.now) = search rules in
    ap (λ o. option_or o (L.body_link m e (item_at path 3) 0 other)) first ∙ ap (L.statement_link m e path) is

pub statement_link-returns-in-None : goal.statement_link-returns-in-None
statement_link-returns-in-None t c =
    let m = c.args.target.number in
    let e = event c.args.target.event.now in
    let path = steps c.args.place.now in
    let other = body_in c.deref-in-None.result.now in
    let is : R.when (expression c.in-If.condition.value) (body_in c.deref.result.now) other ≡ statement c.args.s.now = search (rules, the_lemmas, row_body_lem) in
    let first : None ≡ L.body_link m e (item_at path 2) 0 (body_in c.deref.result.now) = search rules in
    let second : IfOk c.body_link-in-None.result (λ l. links l ≡ L.body_link m e (item_at path 3) 0 other) = search rules in
    ok_to c.body_link-in-None.result (λ l h. h ∙ ap (λ o. option_or o (L.body_link m e (item_at path 3) 0 other)) first ∙ ap (L.statement_link m e path) is) second

pub statement_link-returns-in-Each : goal.statement_link-returns-in-Each
statement_link-returns-in-Each t c =
    let m = c.args.target.number in
    let e = event c.args.target.event.now in
    let path = steps c.args.place.now in
    let body = body_in c.deref-in-Each.result.now in
    let is : R.each (string_bytes c.in-Each.variable) c.in-Each.class (expression c.in-Each.predicate.value) body ≡ statement c.args.s.now = search (rules, the_lemmas, row_body_lem) in
    let inner : IfOk c.body_link-in-Each.result (λ l. links l ≡ L.body_link m e (item_at path 4) 0 body) = search rules in
    ok_to c.body_link-in-Each.result (λ l h. h ∙ ap (L.statement_link m e path) is) inner

pub statement_link-returns-in-For : goal.statement_link-returns-in-For
statement_link-returns-in-For t c =
    let m = c.args.target.number in
    let e = event c.args.target.event.now in
    let path = steps c.args.place.now in
    let body = body_in c.deref-in-For.result.now in
    let is : R.for_answer (string_bytes c.in-For.query) body ≡ statement c.args.s.now = search (rules, the_lemmas, row_body_lem) in
    let inner : IfOk c.body_link-in-For.result (λ l. links l ≡ L.body_link m e (item_at path 2) 0 body) = search rules in
    ok_to c.body_link-in-For.result (λ l h. h ∙ ap (L.statement_link m e path) is) inner

pub statement_link-returns-in-With : goal.statement_link-returns-in-With
statement_link-returns-in-With t c =
    let m = c.args.target.number in
    let e = event c.args.target.event.now in
    let path = steps c.args.place.now in
    let body = body_in c.deref-in-With.result.now in
    let is : R.with_object (string_bytes c.in-With.variable) c.in-With.class (expression c.in-With.key.value) body ≡ statement c.args.s.now = search (rules, the_lemmas, row_body_lem) in
    let inner : IfOk c.body_link-in-With.result (λ l. links l ≡ L.body_link m e (item_at path 4) 0 body) = search rules in
    ok_to c.body_link-in-With.result (λ l h. h ∙ ap (L.statement_link m e path) is) inner

pub statement_link-returns-in-Let : goal.statement_link-returns-in-Let
statement_link-returns-in-Let t c =
    let m = c.args.target.number in
    let e = event c.args.target.event.now in
    let path = steps c.args.place.now in
    let body = body_in c.deref-in-Let.result.now in
    let is : R.let_value (string_bytes c.in-Let.name) (aggregate c.in-Let.aggregate) body ≡ statement c.args.s.now = search (rules, the_lemmas, row_body_lem) in
    let inner : IfOk c.body_link-in-Let.result (λ l. links l ≡ L.body_link m e (item_at path 3) 0 body) = search rules in
    ok_to c.body_link-in-Let.result (λ l h. h ∙ ap (L.statement_link m e path) is) inner

pub statement_link-returns-in-Some-2 : goal.statement_link-returns-in-Some-2
statement_link-returns-in-Some-2 t c =
    let m = c.args.target.number in
    let e = event c.args.target.event.now in
    let path = steps c.args.place.now in
    let other = body_in c.in-Sub.otherwise.items in
    let is : R.subtransaction (body_in c.deref-in-Sub.result.now) other ≡ statement c.args.s.now = search (rules, the_lemmas, row_body_lem) in
    let first : Some (link c.in-Some-2.link) ≡ L.body_link m e (item_at path 1) 0 (body_in c.deref-in-Sub.result.now) = search rules in
    ap (λ o. option_or o (L.body_link m e (item_at path 2) 0 other)) first ∙ ap (L.statement_link m e path) is

pub statement_link-returns-in-None-2 : goal.statement_link-returns-in-None-2
statement_link-returns-in-None-2 t c =
    let m = c.args.target.number in
    let e = event c.args.target.event.now in
    let path = steps c.args.place.now in
    let other = body_in c.deref-in-None-2.result.now in
    let is : R.subtransaction (body_in c.deref-in-Sub.result.now) other ≡ statement c.args.s.now = search (rules, the_lemmas, row_body_lem) in
    let first : None ≡ L.body_link m e (item_at path 1) 0 (body_in c.deref-in-Sub.result.now) = search rules in
    let second : IfOk c.body_link-in-None-2.result (λ l. links l ≡ L.body_link m e (item_at path 2) 0 other) = search rules in
    ok_to c.body_link-in-None-2.result (λ l h. h ∙ ap (λ o. option_or o (L.body_link m e (item_at path 2) 0 other)) first ∙ ap (L.statement_link m e path) is) second
