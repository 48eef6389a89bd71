use Rattle.std.proofs.Common.{rules, ◌≡◌, ap, ◌∙◌}
use Rattle.std.specs.Prelude.{option_map}
use Rattle.hp_model.specs.Knowledge.{knowledge}
use Rattle.hp_value.specs.Mapped.{primitive, occurrence}
use Rattle.hp_detect.specs.Mapped.{event, known}
use Rattle.hp_detect.specs.Stepped.{stepped}
use Rattle.hp_detect.proofs.Steps.{stepped_lem}
use Rattle.hp_detect.proofs.knowledge.Knowledge.step.Goals as goal

pub returns-clause-answers : goal.returns-clause-answers
returns-clause-answers c = λ past knows.
    let known_is : known c.self.inside.kept.value ≡ knowledge (event c.args.expr.now) past = search rules in
    let step_is : (option_map occurrence c.in_ok-next.next.occurrence, known c.in_ok-next.next.known.value) ≡ stepped (event c.args.expr.now)
    (known c.self.inside.kept.value) (primitive c.args.prim.now) = search rules in
    ap (λ r. r.0) (step_is ∙ stepped_lem _ _ _ past known_is)

pub returns-clause-learns : goal.returns-clause-learns
returns-clause-learns c = λ past knows.
    let known_is : known c.self.inside.kept.value ≡ knowledge (event c.args.expr.now) past = search rules in
    let step_is : (option_map occurrence c.in_ok-next.next.occurrence, known c.in_ok-next.next.known.value) ≡ stepped (event c.args.expr.now)
    (known c.self.inside.kept.value) (primitive c.args.prim.now) = search rules in
    ap (λ r. r.1) (step_is ∙ stepped_lem _ _ _ past known_is)
