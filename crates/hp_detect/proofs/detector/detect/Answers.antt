use Rattle.std.proofs.Common.{rules, ◌≡◌, [], ◌∷◌, ◌++◌}
use Rattle.hp_detect.specs.Mapped.{event}
use Rattle.hp_detect.proofs.Along.{along_more}
use Rattle.hp_detect.proofs.detector.detect.Goals as goal

pub loop-prim-preserved : goal.loop-prim-preserved
loop-prim-preserved c =
    let more : c.push.new.self.items ≡ c.loop-prim.answers.items ++ c.in_ok-step.field-0 ∷ [] = search rules in
    along_more (event c.args.expr.now.value) c.args.signalled.now c.loop-prim.prim-index c.prim-item.result c.loop-prim.detector c.step.new.self
    c.loop-prim.answers.items c.push.new.self.items c.in_ok-step.field-0
    c.loop-prim-test.true c.prim-item.is c.loop-prim.invariant c.step.ensures.event c.in_ok-step.ensures.answers c.in_ok-step.ensures.learns more
