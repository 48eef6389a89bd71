use Rattle.hp_top.proofs.Ended.{finished, mark_stays}
use Rattle.hp_top.proofs.runner.Runner.finish.Goals as goal

pub close-requires : goal.close-requires
close-requires g c = mark_stays c.in_ok-all.ensures.goes_on c.requires.mark

pub returns : goal.returns
returns g c = finished c.in_ok-all.ensures c.in_ok-top.ensures
