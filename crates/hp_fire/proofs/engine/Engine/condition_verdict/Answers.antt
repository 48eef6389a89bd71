use Rattle.std.proofs.Common.{rules, sym, subst, ◌∙◌, Some, []}
use Rattle.hp_model.specs.Rules.{rule_at}
use Rattle.hp_model.specs.Conditions.{verdict}
use Rattle.hp_model.specs.Firing.{task_environment}
use Rattle.hp_value.specs.Mapped.{occurrence}
use Rattle.hp_query.specs.Mapped as query
use Rattle.hp_rule.specs.Mapped.{library, task}
use Rattle.hp_view.specs.Seeing.{Seeing, OnlyReads}
use Rattle.hp_ops.proofs.Worlds.{finds_world}
use Rattle.hp_fire.specs.Decides.{FindsVerdict}
use Rattle.hp_fire.proofs.engine.Engine.condition_verdict.Goals as goal

pub returns : goal.returns
returns g c =
    let lib = library c.args.self.now.lib.now in
    let t = task c.args.task.now in
    let found = query.verdict c.in_ok-verdict.verdict in
    let new = c.evaluate_condition.new.look.view.now in
    subst (λ (v : Seeing). FindsVerdict lib t c.args.view.now v found) (search rules)
    (record {
      only = subst (λ (v : Seeing). OnlyReads v new) c.new-look.ensures.now c.evaluate_condition.ensures.goes_on.only;
      finds = finds_world lib (λ objects. verdict objects (task_environment t) (rule_at lib t.rule).condition) new found
          (λ world rise allowed. sym (c.in_ok-verdict.ensures.verdict world rise allowed
          ∙ (λ i. verdict world (record { occurrence = Some (occurrence (c.deref.ensures i)); rows = []; values = []; now = t.now }) (c.condition_of-entries.ensures i))));
    })
