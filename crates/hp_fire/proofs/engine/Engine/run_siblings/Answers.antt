use Rattle.hp_fire.proofs.Starting.{any_nest}
use Rattle.hp_fire.proofs.engine.Engine.run_siblings.Goals as goal

pub fire_group-requires-clause-tasks : goal.fire_group-requires-clause-tasks
fire_group-requires-clause-tasks g c = any_nest c.args.self.now.lib.now c.depth_limit.result c.depth_limit.ensures c.args.tasks.now
