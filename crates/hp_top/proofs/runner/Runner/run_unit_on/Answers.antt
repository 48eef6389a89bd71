use Rattle.std.proofs.Common.{rules}
use Rattle.hp_rule.specs.Mapped.{unit}
use Rattle.hp_top.proofs.Attempted.{unit_runs}
use Rattle.hp_top.proofs.runner.Runner.run_unit_on.Goals as goal

pub returns : goal.returns
returns g c =
    unit_runs (unit c.args.unit.now) c.in_ok-top.top c.in_ok-tasks.tasks.items c.in_ok-later.later.items c.append.new.self.items c.moment_of.result
    c.in_ok-top.ensures c.in_ok-tasks.ensures c.in_ok-later.ensures (search rules) c.moment_of.ensures
