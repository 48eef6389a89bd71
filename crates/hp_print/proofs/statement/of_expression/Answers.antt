use Rattle.hp_print.proofs.statement.of_expression.Goals as goal

pub returns-in-emit : goal.returns-in-emit
returns-in-emit c = rw c.in-emit.is c.emit.ensures

pub returns-in-veto : goal.returns-in-veto
returns-in-veto c = rw c.in-veto.is c.veto_with.ensures
