use Rattle.hp_rule.specs.Mapped.{library}
use Rattle.hp_script.proofs.Readings.{transaction_read, transaction_pushed, body_checked}
use Rattle.hp_script.proofs.OwnBodies.{own_body}
use Rattle.hp_script.proofs.item.transaction_at.Goals as goal

pub of_checked-requires : goal.of_checked-requires
of_checked-requires c =
    body_checked _ (library c.args.library.now.value) _ _ c.in_ok-statements.statements.items
    (rw (c.no_names-names.ensures, c.of_library-scope.ensures.scope, c.of_library-scope.ensures.version, c.item.ensures, c.deref.ensures) at c.in_ok-statements.ensures)

pub returns-clause-own : goal.returns-clause-own
returns-clause-own c own = own_body _ _ _ _ _ c.in_ok-push.ensures.items c.in_ok-body.ensures.library own

pub returns-clause-reads : goal.returns-clause-reads
returns-clause-reads c =
    transaction_read _ _ _ _ _ _ _ (rw (c.no_names-names.ensures, c.of_library-scope.ensures.scope, c.of_library-scope.ensures.version, c.item.ensures, c.deref.ensures) at c.in_ok-statements.ensures)
    (transaction_pushed _ _ _ c.in_ok-body.body c.in_ok-statements.statements c.in_ok-push.ensures.items c.in_ok-body.ensures.body)
