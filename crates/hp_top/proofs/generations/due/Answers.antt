use Rattle.std.proofs.Common.{sym, ◌∙◌}
use Rattle.hp_top.proofs.Gathered.{due_kept, due_gone}
use Rattle.hp_top.proofs.generations.due.Goals as goal

pub loop-one-preserved-in-Continue-1 : goal.loop-one-preserved-in-Continue-1
loop-one-preserved-in-Continue-1 c =
    due_kept c.loop-one.tasks.items c.push.new.self.items c.loop-one.yielded c.in-Some.one c.in_ok-push.ensures.items (sym c.is_due.ensures ∙ c.if-is_due.true) c.loop-one.invariant

pub loop-one-preserved : goal.loop-one-preserved
loop-one-preserved c = due_gone c.loop-one.tasks.items c.loop-one.yielded c.in-Some.one (sym c.is_due.ensures ∙ c.if-is_due.false) c.loop-one.invariant
