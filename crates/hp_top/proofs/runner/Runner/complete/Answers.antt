use Rattle.hp_top.proofs.Coursing.{continues_then}
use Rattle.hp_top.proofs.runner.Runner.complete.Goals as goal

pub returns : goal.returns
returns g c = continues_then c.in_ok-course.ensures c.in_ok-all.ensures
