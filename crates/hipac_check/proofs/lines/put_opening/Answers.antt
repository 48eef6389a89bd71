use Rattle.std.proofs.Common.{rules, ◌≡◌, subst, List, ℕ, [], ◌∷◌, Some}
use Rattle.std.specs.Prelude.{OnOk, codes}
use Rattle.hp_model.specs.Report.{line}
use Rattle.hp_model.specs.Refusals.{to_member, to_item}
use Rattle.hp_rule.specs.Statements.{rule}
use Rattle.hp_report.specs.Text.{Gains}
use Rattle.hp_analysis.specs.Guards as guards
use Rattle.hp_analysis.specs.Openings as openings
use Rattle.hipac_check.specs.Spots.{shown}
use Rattle.hipac_check.proofs.RuleLines.{open_is}
use Rattle.hipac_check.proofs.lines.put_opening.Goals as goal

pub returns : goal.returns
returns c =
    let r = rule c.args.guard.now in
    let o = openings.opening c.in-Some.opening in
    let S = shown c.args.spots.now in
    let known : Some o ≡ guards.opening r = c.in-Some.ensures in
    let put : OnOk c.put_named.result (Gains c.args.out.now c.put_named.new.out
    (line 0 (codes "open" ∷ S.at (to_member (codes "rules") ∷ to_item c.args.number ∷ to_item c.part_of.result ∷ []) ∷ c.as_str.result.now ∷ []))) = search rules in
    subst (λ (text : List ℕ). OnOk c.put_named.result (Gains c.args.out.now c.put_named.new.out text))
    (open_is S c.args.number c.part_of.result r c.as_str.result.now o (guards.opening r) c.as_str.ensures.value c.part_of.ensures known) put
