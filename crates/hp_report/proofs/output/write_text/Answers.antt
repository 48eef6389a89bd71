use Rattle.std.proofs.Common.{rules}
use Rattle.hp_report.proofs.Known.{sends_on}
use Rattle.hp_report.proofs.output.write_text.Goals as goal

pub loop-rest-preserved : goal.loop-rest-preserved
loop-rest-preserved g c =
    sends_on _ _ _ _ _ _ c.loop-rest.rest.now c.in-Ok.count c.loop-rest.invariant c.in-Ok.ensures.bytes c.in-Ok.ensures.failure (search rules)
