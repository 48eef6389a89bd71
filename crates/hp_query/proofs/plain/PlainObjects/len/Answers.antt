use Rattle.std.proofs.Common.{subst}
use Rattle.hp_query.specs.Looks.{ObjectsRise}
use Rattle.hp_query.proofs.PlainLemmas.{objects_rise}
use Rattle.hp_query.proofs.plain.PlainObjects.len.Goals as goal

pub returns-clause-rise : goal.returns-clause-rise
returns-clause-rise c = subst ObjectsRise c.self.view_is (objects_rise c.self.inside.rows.entries c.len.ensures.ordered)
