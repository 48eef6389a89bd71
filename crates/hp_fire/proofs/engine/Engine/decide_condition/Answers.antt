use Rattle.std.proofs.lemmas.Result.{IfOk-weaker}
use Rattle.hp_query.specs.Mapped.{verdict}
use Rattle.hp_rule.specs.Mapped.{library, task}
use Rattle.hp_fire.proofs.Decisions.{condition_decides}
use Rattle.hp_fire.proofs.engine.Engine.decide_condition.Goals as goal

pub returns : goal.returns
returns g c =
    let found = c.in_ok-verdict.ensures in
    IfOk-weaker c.follow.result _ _ (λ d follows. condition_decides (library c.args.self.now.lib.now) (task c.args.task.now) (verdict c.in_ok-verdict.verdict)
    c.args.view.now c.condition_verdict.new.view d
    c.requires found.only found.finds (follows c.condition_verdict.new.view)) c.follow.ensures
