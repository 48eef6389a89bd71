use Rattle.std.proofs.Common.{rules, subst, List, ℕ, [], ◌∷◌, ◌++◌}
use Rattle.std.specs.Prelude.{codes}
use Rattle.std.specs.List.{flat_map}
use Rattle.hp_model.specs.Output.{step_text}
use Rattle.hp_rule.specs.Places.{path}
use Rattle.hp_report.specs.Text.{Gains}
use Rattle.hp_checked.proofs.BodyLines.{body_line}
use Rattle.hp_checked.proofs.faults.put_body_refusal.Goals as goal

pub returns : goal.returns
returns c =
    let steps = path c.args.found.now.path.items in
    let plain : Gains c.args.out.now c.writeln.new.self (codes "refused S8 kinds /1" ++ (flat_map (λ step. 47 ∷ step_text step) steps ++ 10 ∷ [])) = search rules in
    subst (λ (text : List ℕ). Gains c.args.out.now c.writeln.new.self text) (body_line steps) plain
