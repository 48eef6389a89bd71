use Rattle.hp_script.proofs.Bodies.{each_statement, for_statement, with_statement, let_statement}
use Rattle.hp_script.proofs.Readings.{each_read, for_read, with_read, let_read}
use Rattle.hp_script.proofs.statement.+statement.Goals as goal

pub each_at-returns : goal.each_at-returns
each_at-returns t c =
    let inner = c.with_row-inner.ensures in
    let body = c.item-4.ensures in
    each_read _ _ _ _ _ _ _ _ _ _ _ _ _ (rw c.item.ensures at c.in_ok-variable.ensures) (rw c.item-2.ensures at c.in_ok-class.ensures)
    (rw (c.setting_of-setting.ensures, inner.scope, inner.names, c.item-3.ensures, inner.place) at c.in_ok-predicate.ensures)
    (rw (body.scope, body.names, body.place, inner.scope, inner.names, inner.place) at c.in_ok-body.ensures)
    (each_statement c.in_ok-variable-2.variable _ _ c.in_ok-predicate.predicate c.in_ok-body.body c.in_ok-variable-2.ensures.ok)

pub for_at-returns : goal.for_at-returns
for_at-returns t c =
    let body = c.item-2.ensures in
    for_read _ _ _ _ _ _ _ _ _ (rw c.item.ensures at c.in_ok-query.ensures) (rw (body.scope, body.names, body.place) at c.in_ok-body.ensures)
    (for_statement c.in_ok-query-2.query _ c.in_ok-body.body c.in_ok-query-2.ensures.ok)

pub with_at-returns : goal.with_at-returns
with_at-returns t c =
    let inner = c.with_row-inner.ensures in
    let body = c.item-4.ensures in
    with_read _ _ _ _ _ _ _ _ _ _ _ _ _ (rw c.item.ensures at c.in_ok-variable.ensures) (rw c.item-2.ensures at c.in_ok-class.ensures)
    (rw (c.setting_of-setting.ensures, c.item-3.ensures) at c.in_ok-key.ensures)
    (rw (body.scope, body.names, body.place, inner.scope, inner.names, inner.place) at c.in_ok-body.ensures)
    (with_statement c.in_ok-variable-2.variable _ _ c.in_ok-key.key c.in_ok-body.body c.in_ok-variable-2.ensures.ok)

pub let_at-returns : goal.let_at-returns
let_at-returns t c =
    let inner = c.with_value-inner.ensures in
    let body = c.item-2.ensures in
    let_read _ _ _ _ _ _ _ _ _ _ _ (rw c.item.ensures at c.in_ok-name.ensures)
    (rw (c.setting_of-setting.ensures, c.item-place.ensures) at c.in_ok-aggregate.ensures)
    (rw (body.scope, body.names, body.place, inner.scope, inner.names, inner.place) at c.in_ok-body.ensures)
    (let_statement c.in_ok-name-2.name _ c.in_ok-aggregate.aggregate c.in_ok-body.body c.in_ok-name-2.ensures.ok)
