use Rattle.hp_model.proofs.Limits.{limit_is_idle}
use Rattle.hp_model.proofs.Shallow.{chains_bound, bounds_each_unit, bounds_each_script, bounds_grow, never_too_deep}
use Rattle.hp_model.proofs.laws.chains.Goals as goal

pub returns-clause-unit : goal.returns-clause-unit
returns-clause-unit c = chains_bound

pub returns-clause-library : goal.returns-clause-library
returns-clause-library c = bounds_each_unit

pub returns-clause-script : goal.returns-clause-script
returns-clause-script c = never_too_deep

pub returns-clause-limit : goal.returns-clause-limit
returns-clause-limit c = limit_is_idle

pub returns-clause-each_script : goal.returns-clause-each_script
returns-clause-each_script c = bounds_each_script

pub returns-clause-grow : goal.returns-clause-grow
returns-clause-grow c = bounds_grow
