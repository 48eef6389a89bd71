use Rattle.std.proofs.Common.{subst, List, ℕ, [], ◌∷◌}
use Rattle.std.specs.Prelude.{OnOk, codes}
use Rattle.hp_model.specs.Report.{line}
use Rattle.hp_model.specs.Refusals.{to_member, to_item}
use Rattle.hp_report.specs.Text.{Gains}
use Rattle.hipac_check.specs.Spots.{shown}
use Rattle.hipac_check.proofs.lines.put_link.Goals as goal

pub returns : goal.returns
returns c =
    let S = shown c.args.spots.now in
    subst (λ (name : List ℕ). OnOk c.put_rule.result
    (Gains c.args.out.now c.put_rule.new.out (line 0 (codes "chain" ∷ S.at (to_member (codes "rules") ∷ to_item c.args.number ∷ []) ∷ name ∷ [])))) c.name_of-name.ensures
    c.put_rule.ensures
