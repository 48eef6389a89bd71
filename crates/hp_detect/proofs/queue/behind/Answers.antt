use Rattle.std.proofs.Common.{rules, ◌≡◌, ◌++◌, ◌<◌, ◌-◌, length}
use Rattle.hp_detect.specs.Ropes.{laid_out, rest_laid_out}
use Rattle.hp_detect.proofs.Runs.{run_here, run_right, within_right}
use Rattle.hp_detect.proofs.queue.behind.Goals as goal

pub returns-else-at-before : goal.returns-else-at-before
returns-else-at-before c =
    let first = laid_out c.deref.result.now in
    let before = c.count-before.result in
    let whole : rest_laid_out c.args.middle.now ++ c.args.tail.now ≡ first ++ c.args.tail.now = search rules in
    let within : c.args.at < length (first ++ c.args.tail.now) = search rules in
    run_right _ (rest_laid_out c.args.middle.now ++ c.args.tail.now) first c.args.tail.now c.args.at before whole c.count-before.ensures c.if-at-before.false
    (run_here _ c.args.tail.now (c.args.at - before) c.from-else-at-before.ensures
    (within_right first c.args.tail.now c.args.at before c.count-before.ensures c.if-at-before.false within))
