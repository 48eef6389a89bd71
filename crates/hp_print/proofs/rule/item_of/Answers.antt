use Rattle.hp_print.proofs.rule.item_of.Goals as goal

pub returns-in-tx : goal.returns-in-tx
returns-in-tx c = rw c.in-tx.is c.transaction.ensures

pub returns-in-clock : goal.returns-in-clock
returns-in-clock c = rw c.in-clock.is c.clock.ensures
