use Rattle.std.proofs.Common.{[], map}
use Rattle.hp_query.specs.Mapped.{entry}
use Rattle.hp_analysis.proofs.LastNames.{last_is}
use Rattle.hp_analysis.proofs.kinds.rows.last_class.Goals as goal

pub loop-asked-init : goal.loop-asked-init
loop-asked-init c = last_is c.args.name.now [] (map entry c.args.entries.now)
