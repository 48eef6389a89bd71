use Rattle.std.proofs.Common.{rules, ◌≡◌, ap, ◌∙◌, sym, ◌∷◌, true, false, Some}
use Rattle.std.specs.Prelude.{option_map}
use Rattle.hp_model.specs.Occurrences.{primitive_occurrence}
use Rattle.hp_model.specs.Events as model
use Rattle.hp_model.specs.Knowledge.{knowledge}
use Rattle.hp_value.specs.Mapped.{primitive, occurrence}
use Rattle.hp_detect.specs.Mapped.{event, known}
use Rattle.hp_detect.specs.Stepped.{stepped}
use Rattle.hp_detect.proofs.Steps.{stepped_lem, unmentioned_occurs, unmentioned_known, pure_occurs, pure_known}
use Rattle.hp_detect.proofs.detector.Detector.step.Goals as goal

pub returns-then-not-mentions-clause-answers : goal.returns-then-not-mentions-clause-answers
returns-then-not-mentions-clause-answers c = λ past knows.
    let unmentioned : model.mentions c.args.self.now.event (primitive c.args.prim.now) ≡ false = search rules in
    unmentioned_occurs c.args.self.now.event (primitive c.args.prim.now) past unmentioned

pub returns-then-not-mentions-clause-learns : goal.returns-then-not-mentions-clause-learns
returns-then-not-mentions-clause-learns c = λ past knows.
    let unmentioned : model.mentions c.args.self.now.event (primitive c.args.prim.now) ≡ false = search rules in
    knows ∙ unmentioned_known c.args.self.now.event (primitive c.args.prim.now) past unmentioned

pub returns-in_default-clause-answers : goal.returns-in_default-clause-answers
returns-in_default-clause-answers c = λ past knows.
    let pure : model.is_pure c.args.self.now.event ≡ true = search rules in
    let told : model.mentions c.args.self.now.event (primitive c.args.prim.now) ≡ true = search rules in
    let made : occurrence c.in_ok-single.field-0 ≡ primitive_occurrence (primitive c.args.prim.now) = search rules in
    sym (pure_occurs c.args.self.now.event (primitive c.args.prim.now) past pure told ∙ ap Some (sym made))

pub returns-in_default-clause-learns : goal.returns-in_default-clause-learns
returns-in_default-clause-learns c = λ past knows.
    let pure : model.is_pure c.args.self.now.event ≡ true = search rules in
    knows ∙ pure_known c.args.self.now.event past (primitive c.args.prim.now ∷ past) pure

pub returns-clause-answers : goal.returns-clause-answers
returns-clause-answers c = λ past knows.
    let known_is : known c.in-Some.kept.value ≡ knowledge c.args.self.now.event past = search rules in
    let step_is : (option_map occurrence c.in_ok-next.next.occurrence, known c.in_ok-next.next.known.value) ≡ stepped c.args.self.now.event (known c.in-Some.kept.value)
    (primitive c.args.prim.now) = search rules in
    ap (λ r. r.0) (step_is ∙ stepped_lem _ _ _ past known_is)

pub returns-clause-learns : goal.returns-clause-learns
returns-clause-learns c = λ past knows.
    let known_is : known c.in-Some.kept.value ≡ knowledge (event c.self.inside.expr.value) past = search rules in
    let step_is : (option_map occurrence c.in_ok-next.next.occurrence, known c.in_ok-next.next.known.value) ≡ stepped (event c.self.inside.expr.value)
    (known c.in-Some.kept.value) (primitive c.args.prim.now) = search rules in
    ap (λ r. r.1) (step_is ∙ stepped_lem _ _ _ past known_is)
