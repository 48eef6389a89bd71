use Rattle.std.proofs.Common.{rules, arith, ◌≡◌, subst, ap, bytes_eq, ◌+◌, ◌∷◌, ◌++◌, drop}
use Rattle.std.proofs.lemmas.Grind.{common_steps}
use Rattle.std.specs.Prelude.{OnOk, string_bytes, unwrap_or}
use Rattle.std.specs.Map.{lookup}
use Rattle.hp_value.specs.Mapped.{expression}
use Rattle.hp_model.specs.Rules as R
use Rattle.hp_query.specs.Mapped.{aggregate}
use Rattle.hp_model.specs.Kinds.{Sort, any, with_name, with_sort, aggregate_sort}
use Rattle.hp_model.specs.Refusals.{item_at}
use Rattle.hp_rule.specs.declared.stmt.Stmt.TheViews.{the_lemmas}
use Rattle.hp_rule.specs.Statements.{statement, body_in}
use Rattle.hp_rule.specs.Places.{steps}
use Rattle.hp_rule.proofs.Bodies.{row_body_lem}
use Rattle.hp_analysis.specs.Findings as F
use Rattle.hp_analysis.specs.Kinded.{findings, Notes}
use Rattle.hp_analysis.specs.Scopes.{library, declared, scope_in, queries, own_there, inner_there, body_there}
use Rattle.hp_analysis.proofs.Noting.{then_notes, body_noted}
use Rattle.hp_analysis.proofs.kinds.statement.+kinded.Goals as goal

pub find_in_body-loop-i-preserved : goal.find_in_body-loop-i-preserved
find_in_body-loop-i-preserved t c =
    let s = c.args.scope.now in
    let path = steps c.args.place.now in
    let body = c.args.body.now in
    let i = c.loop-i.i in
    let st = c.index-body-i.result in
    let split : drop i body ≡ st ∷ drop (i + 1) body = grind (arith, common_steps, c.index-body-i.is, c.loop-i-test.true) in
    let own : Notes c.loop-i.notes c.find_own.new.notes (own_there s (item_at path i) (statement st)) = search rules in
    let inner : Notes c.find_own.new.notes c.find_inside.new.notes (inner_there s (item_at path i) (statement st)) = search rules in
    body_noted (library s) (declared s) (scope_in s) (queries s) path i (statement st) (body_in (drop i body)) (body_in (drop (i + 1) body))
    (findings c.loop-i.notes.items) (findings c.find_own.new.notes.items)
    (findings c.find_inside.new.notes.items) (findings c.args.notes.now.items ++ body_there s path (body_in body)) (ap body_in split) own inner c.loop-i.invariant

pub find_inside-returns-in_ok-find_in_body-in-If : goal.find_inside-returns-in_ok-find_in_body-in-If
find_inside-returns-in_ok-find_in_body-in-If t c =
    let s = c.args.scope.now in
    let path = steps c.args.place.now in
    let then_body = body_there s (item_at path 2) (body_in c.deref.result.now) in
    let else_body = body_there s (item_at path 3) (body_in c.deref-in-If.result.now) in
    let is : R.when (expression c.in-If.condition.value) (body_in c.deref.result.now) (body_in c.deref-in-If.result.now) ≡ statement c.args.s.now = search (rules, the_lemmas, row_body_lem) in
    let first : Notes c.args.notes.now c.find_in_body.new.notes then_body = search rules in
    let second : OnOk c.find_in_body-in-If.result (Notes c.find_in_body.new.notes c.find_in_body-in-If.new.notes else_body) = search rules in
    subst (λ st. OnOk c.find_in_body-in-If.result (Notes c.args.notes.now c.find_in_body-in-If.new.notes (inner_there s path st))) is
    (then_notes c.args.notes.now c.find_in_body.new.notes c.find_in_body-in-If.new.notes then_body else_body c.find_in_body-in-If.result first second)

pub find_inside-returns-in_ok-find_in_body-in-Sub : goal.find_inside-returns-in_ok-find_in_body-in-Sub
find_inside-returns-in_ok-find_in_body-in-Sub t c =
    let s = c.args.scope.now in
    let path = steps c.args.place.now in
    let body = body_there s (item_at path 1) (body_in c.deref-in-Sub.result.now) in
    let otherwise = body_there s (item_at path 2) (body_in c.deref-in-Sub-2.result.now) in
    let is : R.subtransaction (body_in c.deref-in-Sub.result.now) (body_in c.deref-in-Sub-2.result.now) ≡ statement c.args.s.now = search (rules, the_lemmas, row_body_lem) in
    let first : Notes c.args.notes.now c.find_in_body-in-Sub.new.notes body = search rules in
    let second : OnOk c.find_in_body-in-Sub-2.result (Notes c.find_in_body-in-Sub.new.notes c.find_in_body-in-Sub-2.new.notes otherwise) = search rules in
    subst (λ st. OnOk c.find_in_body-in-Sub-2.result (Notes c.args.notes.now c.find_in_body-in-Sub-2.new.notes (inner_there s path st))) is
    (then_notes c.args.notes.now c.find_in_body-in-Sub.new.notes c.find_in_body-in-Sub-2.new.notes body otherwise c.find_in_body-in-Sub-2.result first second)

pub find_inside-returns-in-Each : goal.find_inside-returns-in-Each
find_inside-returns-in-Each t c =
    let s = c.args.scope.now in
    let path = steps c.args.place.now in
    let x = c.as_str.result.now in
    let is : R.each x c.in-Each.class (expression c.in-Each.predicate.value) (body_in c.deref-in-Each.result.now) ≡ statement c.args.s.now = search (rules, the_lemmas, row_body_lem) in
    let inner : OnOk c.find_in_body-in-Each.result (Notes c.args.notes.now c.find_in_body-in-Each.new.notes
    (F.body_findings (library s) (declared s) (with_name x c.in-Each.class (scope_in s)) (queries s) (item_at path 4) 0 (body_in c.deref-in-Each.result.now))) = search rules in
    subst (λ st. OnOk c.find_in_body-in-Each.result (Notes c.args.notes.now c.find_in_body-in-Each.new.notes (inner_there s path st))) is inner

pub find_inside-returns-in-For : goal.find_inside-returns-in-For
find_inside-returns-in-For t c =
    let s = c.args.scope.now in
    let path = steps c.args.place.now in
    let x = string_bytes c.in-For.query in
    let is : R.for_answer x (body_in c.deref-in-For.result.now) ≡ statement c.args.s.now = search (rules, the_lemmas, row_body_lem) in
    let inner : OnOk c.find_in_body-in-For.result (Notes c.args.notes.now c.find_in_body-in-For.new.notes
    (F.body_findings (library s) (declared s) (with_name x (unwrap_or (lookup (bytes_eq x) (queries s)) 0) (scope_in s)) (queries s) (item_at path 2) 0 (body_in c.deref-in-For.result.now)))
    = search rules in
    subst (λ st. OnOk c.find_in_body-in-For.result (Notes c.args.notes.now c.find_in_body-in-For.new.notes (inner_there s path st))) is inner

pub find_inside-returns-in-With : goal.find_inside-returns-in-With
find_inside-returns-in-With t c =
    let s = c.args.scope.now in
    let path = steps c.args.place.now in
    let x = c.as_str-in-With.result.now in
    let is : R.with_object x c.in-With.class (expression c.in-With.key.value) (body_in c.deref-in-With.result.now) ≡ statement c.args.s.now = search (rules, the_lemmas, row_body_lem) in
    let inner : OnOk c.find_in_body-in-With.result (Notes c.args.notes.now c.find_in_body-in-With.new.notes
    (F.body_findings (library s) (declared s) (with_name x c.in-With.class (scope_in s)) (queries s) (item_at path 4) 0 (body_in c.deref-in-With.result.now))) = search rules in
    subst (λ st. OnOk c.find_in_body-in-With.result (Notes c.args.notes.now c.find_in_body-in-With.new.notes (inner_there s path st))) is inner

pub find_inside-returns-in_ok-given-in-Let : goal.find_inside-returns-in_ok-given-in-Let
find_inside-returns-in_ok-given-in-Let t c =
    let s = c.args.scope.now in
    let path = steps c.args.place.now in
    let x = c.as_str-in-Let.result.now in
    let a = aggregate c.in-Let.computed in
    let held : Sort = unwrap_or (aggregate_sort (library s) (declared s) (scope_in s) a) any in
    let is : R.let_value x a (body_in c.deref-in-Let.result.now) ≡ statement c.args.s.now = search (rules, the_lemmas, row_body_lem) in
    let inner : OnOk c.find_in_body-in-Let.result (Notes c.args.notes.now c.find_in_body-in-Let.new.notes
    (F.body_findings (library s) (declared s) (with_sort x held (scope_in s)) (queries s) (item_at path 3) 0 (body_in c.deref-in-Let.result.now))) = search rules in
    subst (λ st. OnOk c.find_in_body-in-Let.result (Notes c.args.notes.now c.find_in_body-in-Let.new.notes (inner_there s path st))) is inner
