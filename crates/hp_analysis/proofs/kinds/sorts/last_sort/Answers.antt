use Rattle.std.proofs.Common.{[], map}
use Rattle.hp_analysis.specs.Scopes.{named_sort}
use Rattle.hp_analysis.proofs.LastNames.{last_sort_is}
use Rattle.hp_analysis.proofs.kinds.sorts.last_sort.Goals as goal

pub loop-named-init : goal.loop-named-init
loop-named-init c = last_sort_is c.args.name.now [] (map named_sort c.args.found.now)
