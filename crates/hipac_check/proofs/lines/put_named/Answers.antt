use Rattle.std.proofs.Common.{rules, subst, List, ℕ, [], ◌∷◌, ◌++◌}
use Rattle.hp_report.specs.Text.{Gains}
use Rattle.hipac_check.specs.Spots.{spot_text}
use Rattle.hipac_check.proofs.RuleLines.{named_is}
use Rattle.hipac_check.proofs.lines.put_named.Goals as goal

pub returns : goal.returns
returns c =
    let at = spot_text c.args.at in
    let plain : Gains c.args.out.now c.writeln.new.self (c.args.word.now ++ 32 ∷ (at ++ 32 ∷ (c.args.name.now ++ 10 ∷ []))) = search rules in
    subst (λ (text : List ℕ). Gains c.args.out.now c.writeln.new.self text) (named_is c.args.word.now at c.args.name.now) plain
