use Rattle.hp_model.proofs.Closed.{closed_firings_veto, closed_groups_abort, closed_tasks_abort}
use Rattle.hp_model.proofs.laws.closed_rules.Goals as goal

pub returns-clause-firing : goal.returns-clause-firing
returns-clause-firing c = closed_firings_veto

pub returns-clause-group : goal.returns-clause-group
returns-clause-group c = closed_groups_abort

pub returns-clause-task : goal.returns-clause-task
returns-clause-task c = closed_tasks_abort
