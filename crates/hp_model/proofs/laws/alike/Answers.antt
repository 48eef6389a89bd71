use Rattle.hp_model.proofs.Alike.{alike_go_on}
use Rattle.hp_model.proofs.Snapshots.{snapshots_are_alike}
use Rattle.hp_model.proofs.laws.alike.Goals as goal

pub returns-clause-go_on : goal.returns-clause-go_on
returns-clause-go_on c = alike_go_on

pub returns-clause-snapshots : goal.returns-clause-snapshots
returns-clause-snapshots c = snapshots_are_alike
