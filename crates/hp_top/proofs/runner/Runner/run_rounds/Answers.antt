use Rattle.std.proofs.Common.{sym, ◌∙◌, ◌-◌, arith}
use Rattle.hp_model.specs.Cascade.{most_rounds}
use Rattle.hp_rule.specs.Mapped.{library}
use Rattle.hp_fire.specs.Mapped.{course}
use Rattle.hp_top.proofs.Coursing.{rounds_none, rounds_next, rounds_settled, rounds_all}
use Rattle.hp_top.proofs.runner.Runner.run_rounds.Goals as goal

pub loop-init : goal.loop-init
loop-init g c =
    let most = most_rounds (library c.args.self.now.engine.lib.now) in
    rounds_none (library c.args.self.now.engine.lib.now) most (most - 0) c.args.view.now (course c.args.begun) (omega arith)

pub returns-then-is_settled : goal.returns-then-is_settled
returns-then-is_settled g c = rounds_settled (sym c.is_settled.ensures ∙ c.if-is_settled.true) c.loop.invariant

pub loop-preserved : goal.loop-preserved
loop-preserved g c = rounds_next (omega (arith, c.most_rounds-most.ensures)) c.loop.invariant c.in_ok-course.ensures

pub returns : goal.returns
returns g c = rounds_all (omega (arith, c.most_rounds-most.ensures)) c.loop.invariant
