use Rattle.hp_analysis.proofs.Installing.{installed_suffice, others_do_nothing}
use Rattle.hp_analysis.proofs.laws.others_do_nothing.Goals as goal

pub returns-clause-suffice : goal.returns-clause-suffice
returns-clause-suffice c = installed_suffice

pub returns-clause-same : goal.returns-clause-same
returns-clause-same c = others_do_nothing
