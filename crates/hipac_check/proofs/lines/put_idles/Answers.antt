use Rattle.std.proofs.Common.{arith, ◌≡◌, ap, suc, ◌+◌, ◌∷◌, ◌++◌, drop, map, string_bytes}
use Rattle.std.proofs.lemmas.Grind.{common_steps}
use Rattle.hp_rule.specs.Statements.{rule}
use Rattle.hp_analysis.specs.Checking.{idle_lines}
use Rattle.hipac_check.specs.Spots.{shown}
use Rattle.hipac_check.proofs.Written.{idle_put}
use Rattle.hipac_check.proofs.lines.put_idles.Goals as goal

pub loop-n-preserved : goal.loop-n-preserved
loop-n-preserved c =
    let S = shown c.args.spots.now in
    let next : c.loop-n.n + 1 ≡ suc c.loop-n.n = omega arith in
    let split : drop c.loop-n.n c.args.rules.now ≡ c.index-rules-n.result ∷ drop (c.loop-n.n + 1) c.args.rules.now = grind (arith, common_steps, c.index-rules-n.is, c.loop-n-test.true) in
    idle_put S c.args.present.now c.args.reached.now c.loop-n.n (c.loop-n.n + 1) (rule c.index-rules-n.result)
    (map rule (drop c.loop-n.n c.args.rules.now)) (map rule (drop (c.loop-n.n + 1) c.args.rules.now))
    (string_bytes c.loop-n.out) (string_bytes c.put_idle.new.out)
    (string_bytes c.args.out.now ++ idle_lines S c.args.present.now c.args.reached.now 0 (map rule c.args.rules.now)) next (ap (map rule) split) c.in_ok-put_idle.ensures c.loop-n.invariant
