use Rattle.hp_print.proofs.statement.of_none.Goals as goal

pub returns-in-abort : goal.returns-in-abort
returns-in-abort c = rw c.in-abort.is c.mark.ensures

pub returns-in-veto : goal.returns-in-veto
returns-in-veto c = rw c.in-veto.is c.mark-in-veto.ensures
