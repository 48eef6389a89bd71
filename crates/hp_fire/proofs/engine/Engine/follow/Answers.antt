use Rattle.std.proofs.Common.{ap, sym, subst, ◌∙◌, None, IfOk}
use Rattle.hp_model.specs.Conditions.{Verdict}
use Rattle.hp_model.specs.Tree.{Node}
use Rattle.hp_model.specs.Answers.{standing}
use Rattle.hp_value.specs.Mapped.{cause}
use Rattle.hp_query.specs.Mapped.{verdict}
use Rattle.hp_rule.specs.Mapped.{library, task}
use Rattle.hp_fire.specs.declared.deciding.Decision.TheVariants.{Over}
use Rattle.hp_fire.specs.Decides.{Follows, standing_in}
use Rattle.hp_fire.proofs.Decisions.{unsatisfied_over, faulty_over}
use Rattle.hp_fire.proofs.engine.Engine.follow.Goals as goal

pub returns-in-Satisfied : goal.returns-in-Satisfied
returns-in-Satisfied g c =
    subst (λ (v : Verdict). IfOk c.follow_satisfied.result (λ d. Follows (library c.args.self.now.lib.now) (task c.args.task.now) v d)) (ap verdict (sym c.in-Satisfied.is))
    c.follow_satisfied.ensures

pub returns-in-Unsatisfied : goal.returns-in-Unsatisfied
returns-in-Unsatisfied g c =
    subst (λ (v : Verdict). Follows (library c.args.self.now.lib.now) (task c.args.task.now) v (Over c.without_effects.result)) (ap verdict (sym c.in-Unsatisfied.is))
    (λ view. unsatisfied_over (library c.args.self.now.lib.now) (task c.args.task.now) (standing_in c.without_effects.result) view
    (c.without_effects.ensures ∙ ap (λ (n : Node). standing n None) c.node_for-what.ensures))

pub returns-in_ok-veto-in-Faulty : goal.returns-in_ok-veto-in-Faulty
returns-in_ok-veto-in-Faulty g c =
    subst (λ (v : Verdict). Follows (library c.args.self.now.lib.now) (task c.args.task.now) v (Over c.without_effects-in-Faulty.result)) (ap verdict (sym c.in-Faulty.is))
    (λ view. faulty_over (library c.args.self.now.lib.now) (task c.args.task.now) (cause c.in-Faulty.cause) (standing_in c.without_effects-in-Faulty.result) view
    (c.without_effects-in-Faulty.ensures ∙ (λ i. standing (c.node_for-what-in-Faulty.ensures i) (c.in_ok-veto-in-Faulty.ensures i))))
