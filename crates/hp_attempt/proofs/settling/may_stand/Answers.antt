use Rattle.std.proofs.Common.{true≢false, sym, ◌∙◌}
use Rattle.hp_rule.specs.Mapped.{task}
use Rattle.hp_rule.specs.SameTasks.{task_decides}
use Rattle.hp_attempt.proofs.settling.may_stand.Goals as goal

pub returns-then-eq : goal.returns-then-eq
returns-then-eq c = (
  λ stands. ((task_decides (task c.args.attempt.now.task) (task c.args.task.now)).0 (sym c.eq.ensures ∙ c.if-eq.true), c.holds.ensures.0 stands),
  λ both. c.holds.ensures.1 both.1,
)

pub returns-else-eq : goal.returns-else-eq
returns-else-eq c = (
  λ stands. absurd (true≢false (sym stands ∙ c.if-eq.false)),
  λ both. c.eq.ensures ∙ (task_decides (task c.args.attempt.now.task) (task c.args.task.now)).1 both.0,
)
