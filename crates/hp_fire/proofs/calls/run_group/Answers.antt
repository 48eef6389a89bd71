use Rattle.std.proofs.Common.{ap, sym, ◌∙◌, subst, map, IfOk}
use Rattle.hp_model.specs.Firing.{siblings, fire_task}
use Rattle.hp_rule.specs.Mapped.{library, task}
use Rattle.hp_fire.specs.Mapped.{group}
use Rattle.hp_fire.specs.Runs.{RunsGroup}
use Rattle.hp_fire.proofs.Starting.{any_nest}
use Rattle.hp_fire.proofs.calls.run_group.Goals as goal

pub fire_group-requires-clause-tasks : goal.fire_group-requires-clause-tasks
fire_group-requires-clause-tasks g c = any_nest c.new-engine.result.lib.now c.depth_limit.result
    (c.depth_limit.ensures ∙ ap (λ r. (library r.now).depth_limit) (sym c.new-engine.ensures.lib)) c.args.tasks.now

pub returns-clause-runs : goal.returns-clause-runs
returns-clause-runs g c =
    subst (λ l. IfOk c.fire_group.result
    (λ o. RunsGroup (library l) (siblings (fire_task (library l)) c.args.stop_at_veto (map task c.args.tasks.now)) c.args.view.now c.fire_group.new.view (group o)))
    (ap (λ r. r.now) c.new-engine.ensures.lib) c.fire_group.ensures.runs
