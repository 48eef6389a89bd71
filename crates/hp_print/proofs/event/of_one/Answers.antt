use Rattle.hp_print.proofs.event.of_one.Goals as goal

pub returns-in-create : goal.returns-in-create
returns-in-create c = rw c.in-create.is c.on_change.ensures

pub returns-in-update : goal.returns-in-update
returns-in-update c = rw c.in-update.is c.on_change-in-update.ensures

pub returns-in-delete : goal.returns-in-delete
returns-in-delete c = rw c.in-delete.is c.on_change-in-delete.ensures

pub returns-in-signal : goal.returns-in-signal
returns-in-signal c = rw c.in-signal.is c.on_signal.ensures

pub returns-in-at : goal.returns-in-at
returns-in-at c = rw c.in-at.is c.at_moment.ensures
