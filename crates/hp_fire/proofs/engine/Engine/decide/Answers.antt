use Rattle.std.proofs.Common.{ap, sym, ◌∙◌}
use Rattle.hp_model.specs.Tree.{action_step}
use Rattle.hp_query.specs.declared.entry.Findings.{Findings}
use Rattle.hp_query.specs.Mapped.{findings}
use Rattle.hp_rule.specs.Mapped.{library, task, step}
use Rattle.hp_fire.proofs.Decisions.{action_acts}
use Rattle.hp_fire.proofs.engine.Engine.decide.Goals as goal

pub returns-in_ok-findings-in-Action : goal.returns-in_ok-findings-in-Action
returns-in_ok-findings-in-Action g c =
    action_acts (library c.args.self.now.lib.now) (task c.args.task.now) (findings c.in_ok-findings-in-Action.findings.value) c.args.view.now
    (ap step c.in-Action.is ∙ ap (λ (f : Findings). action_step (findings f)) (sym c.in_ok-findings-in-Action.ensures))
