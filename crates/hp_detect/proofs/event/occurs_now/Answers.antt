use Rattle.std.proofs.Common.{rules, ◌≡◌, ap, ◌∙◌, sym, true, false, Some}
use Rattle.hp_model.specs.Occurrences.{primitive_occurrence}
use Rattle.hp_model.specs.Events as model
use Rattle.hp_value.specs.Mapped.{primitive, occurrence}
use Rattle.hp_detect.specs.Mapped.{event}
use Rattle.hp_detect.proofs.Steps.{unmentioned_occurs, pure_occurs}
use Rattle.hp_detect.proofs.event.occurs_now.Goals as goal

pub returns-then-not-mentions-clause-occurs : goal.returns-then-not-mentions-clause-occurs
returns-then-not-mentions-clause-occurs c = λ past.
    let unmentioned : model.mentions (event c.args.expr.now) (primitive c.args.prim.now) ≡ false = search rules in
    unmentioned_occurs (event c.args.expr.now) (primitive c.args.prim.now) past unmentioned

pub returns-clause-occurs : goal.returns-clause-occurs
returns-clause-occurs c = λ past.
    let told : model.mentions (event c.args.expr.now) (primitive c.args.prim.now) ≡ true = search rules in
    let made : occurrence c.in_ok-single.field-0 ≡ primitive_occurrence (primitive c.args.prim.now) = search rules in
    sym (pure_occurs (event c.args.expr.now) (primitive c.args.prim.now) past c.requires told ∙ ap Some (sym made))
