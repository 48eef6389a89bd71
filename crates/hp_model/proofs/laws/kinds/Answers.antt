use Rattle.hp_model.proofs.KindUnits.{kinds_hold, never_of_kinds}
use Rattle.hp_model.proofs.laws.kinds.Goals as goal

pub returns-clause-unit : goal.returns-clause-unit
returns-clause-unit c = kinds_hold

pub returns-clause-script : goal.returns-clause-script
returns-clause-script c = never_of_kinds
