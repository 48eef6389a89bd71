use Rattle.hp_model.specs.Firing.{level_at, signal_in}
use Rattle.hp_value.specs.Mapped.{primitive}
use Rattle.hp_rule.specs.Mapped.{library}
use Rattle.hp_fire.proofs.Adding.{adds_alone}
use Rattle.hp_fire.proofs.Starting.{signal_starts, signal_ready}
use Rattle.hp_fire.proofs.engine.Engine.run_signal.Goals as goal

pub start-started-requires-clause-tasks : goal.start-started-requires-clause-tasks
start-started-requires-clause-tasks g c =
    signal_ready c.args.self.now.lib.now c.args.time c.args.depth (primitive c.args.prim.now) c.args.view.now c.trigger-tasks.new.view c.trigger-tasks.result c.trigger-tasks.ensures.triggers

pub returns : goal.returns
returns g c =
    let lib = c.args.self.now.lib.now in
    let started = c.start-started.ensures (signal_in (level_at (library lib) c.args.time c.args.depth) (primitive c.args.prim.now)) c.args.view.now
    (signal_starts lib c.args.time c.args.depth (primitive c.args.prim.now) c.args.view.now c.trigger-tasks.new.view c.trigger-tasks.result
    c.trigger-tasks.ensures.triggers c.trigger-tasks.ensures.goes_on) in
    adds_alone c.ended-course.ensures (c.in_ok-or_aborted.ensures (library lib) _ c.args.view.now c.start-started.new.view _ started)
