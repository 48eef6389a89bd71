use Rattle.std.proofs.Common.{rules, ◌≡◌, ◌++◌, ap, ◌∙◌, sym, drop}
use Rattle.hp_detect.specs.Ropes.{laid_out}
use Rattle.hp_detect.proofs.Runs.{run_here, run_right}
use Rattle.hp_detect.proofs.rope.+run.Goals as goal

pub returns-in-Leaf : goal.returns-in-Leaf
returns-in-Leaf t c =
    let whole : laid_out c.args.rope.now ≡ c.in-Leaf.chunk = search rules in
    run_here _ (laid_out c.args.rope.now) c.args.at (c.from.ensures ∙ ap (drop c.args.at) (sym whole)) c.requires.within

pub returns-else-at-before : goal.returns-else-at-before
returns-else-at-before t c =
    let first = laid_out c.deref.result.now in
    let second = laid_out c.deref-else-at-before.result.now in
    let whole : laid_out c.args.rope.now ≡ first ++ second = search rules in
    run_right _ (laid_out c.args.rope.now) first second c.args.at c.count-before.result whole c.count-before.ensures c.if-at-before.false c.run-else-at-before.ensures
