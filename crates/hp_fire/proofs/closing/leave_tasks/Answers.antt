use Rattle.std.proofs.Common.{sym, ◌∙◌}
use Rattle.hp_fire.proofs.Adding.{leaves_all}
use Rattle.hp_fire.proofs.closing.leave_tasks.Goals as goal

pub returns-then-is_done : goal.returns-then-is_done
returns-then-is_done c = λ outer a part. leaves_all part (sym c.is_done.ensures ∙ c.if-is_done.true)
