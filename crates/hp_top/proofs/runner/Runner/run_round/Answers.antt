use Rattle.std.proofs.Common.{sym, ap, ◌∙◌, subst, map, true}
use Rattle.hp_model.specs.Transactions.{done}
use Rattle.hp_model.specs.Answers.{followed}
use Rattle.hp_model.specs.Firing.{siblings, fire_task}
use Rattle.hp_rule.specs.Mapped.{library, task}
use Rattle.hp_fire.specs.Mapped.{course, group}
use Rattle.hp_fire.specs.Runs.{RunsGroup}
use Rattle.hp_top.specs.Runs.{IsRound}
use Rattle.hp_top.proofs.Coursing.{one_round}
use Rattle.hp_top.proofs.runner.Runner.run_round.Goals as goal

pub returns : goal.returns
returns g c =
    let L = library c.args.self.now.engine.lib.now in
    let ran = subst (λ ts. RunsGroup L (siblings (fire_task L) true (map task ts)) c.args.view.now c.run_siblings.new.view (group c.in_ok-group.group)) c.deref.ensures.value c.in_ok-group.ensures in
    let so_far = course c.args.course in
    subst (λ a. IsRound L c.args.view.now c.run_siblings.new.view (course c.args.course) a)
    (sym (c.in_ok-join.ensures ∙ (λ i. followed (record { end = done; queued = ap (map task) c.new.ensures.items i; detached = so_far.detached; items = so_far.items }) (c.in_ok-next.ensures i))))
    (one_round (course c.args.course) c.requires.unsettled ran)
