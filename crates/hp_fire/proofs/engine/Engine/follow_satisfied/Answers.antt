use Rattle.std.proofs.Common.{ap, sym, ◌∙◌, [], ◌∷◌}
use Rattle.hp_model.specs.Rules.{Coupling}
use Rattle.hp_model.specs.Tree.{fire_node, with_later_action}
use Rattle.hp_model.specs.Firing.{action_task}
use Rattle.hp_model.specs.Answers.{handing_on}
use Rattle.hp_query.specs.Mapped.{findings}
use Rattle.hp_rule.specs.Mapped.{library, task}
use Rattle.hp_fire.proofs.Decisions.{follow_now, follow_later, apart_from_immediate}
use Rattle.hp_fire.proofs.engine.Engine.follow_satisfied.Goals as goal

pub returns-in-Immediate : goal.returns-in-Immediate
returns-in-Immediate g c = λ view.
    follow_now (library c.args.self.now.lib.now) (task c.args.task.now) (findings c.args.found) _ _ view (sym c.in-Immediate.ensures) c.node_for-what.ensures

pub returns-in_ok-over-in_default : goal.returns-in_ok-over-in_default
returns-in_ok-over-in_default g c = λ view.
    let t = task c.args.task.now in
    let found = findings c.args.found in
    follow_later (library c.args.self.now.lib.now) t found _ _ view
    (λ e. apart_from_immediate c.action_coupling.result c.in_default.not-Immediate (c.action_coupling.ensures ∙ e))
    (c.in_ok-over-in_default.ensures ∙ ap (λ (p : Coupling). handing_on (fire_node t.rule t.place with_later_action) (action_task p t found ∷ [])) c.action_coupling.ensures)
