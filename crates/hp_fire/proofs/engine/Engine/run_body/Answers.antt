use Rattle.hp_rule.specs.Mapped.{body_in}
use Rattle.hp_fire.proofs.Adding.{adds_alone}
use Rattle.hp_fire.proofs.Stating.{body_under}
use Rattle.hp_fire.proofs.engine.Engine.run_body.Goals as goal

pub returns : goal.returns
returns g c = body_under (body_in c.args.body.now) c.of_script-context.ensures.context c.of_script-context.ensures.depth (adds_alone c.ended-course.ensures c.in_ok-statements.ensures)
