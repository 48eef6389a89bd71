use Rattle.std.proofs.Common.{◌≡◌, subst, List, ℕ, Some}
use Rattle.std.specs.Prelude.{OnOk}
use Rattle.hp_rule.specs.Statements.{rule}
use Rattle.hp_report.specs.Text.{Gains}
use Rattle.hipac_check.specs.Spots.{shown}
use Rattle.hipac_check.specs.Words.{idle_word}
use Rattle.hipac_check.proofs.RuleLines.{idle_told}
use Rattle.hipac_check.proofs.lines.put_idle.Goals as goal

pub returns : goal.returns
returns c =
    let r = rule c.args.idle.now in
    let w = c.in-Some.word.now in
    let known : Some w ≡ idle_word c.args.present.now c.args.reached.now c.args.number = c.in-Some.ensures in
    subst (λ (text : List ℕ). OnOk c.put_rule.result (Gains c.args.out.now c.put_rule.new.out text))
    (idle_told (shown c.args.spots.now) c.args.present.now c.args.reached.now c.args.number r w c.as_str.result.now c.as_str.ensures.value known) c.put_rule.ensures
