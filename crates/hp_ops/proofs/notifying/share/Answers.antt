use Rattle.std.proofs.Common.{rules, ◌≡◌, ap, ◌∙◌, sym, [], ◌∷◌, true, false, Some}
use Rattle.hp_model.specs.Occurrences.{primitive_occurrence}
use Rattle.hp_model.specs.Events.{mentions, occurrence_of as model_occurrence}
use Rattle.hp_value.specs.Mapped.{occurrence as occurrence_of, primitive}
use Rattle.hp_detect.specs.Mapped.{event as event_of}
use Rattle.hp_detect.proofs.Steps.{unmentioned_occurs, pure_occurs}
use Rattle.hp_ops.proofs.notifying.share.Goals as goal

pub returns-then-not-mentions-clause-occurs : goal.returns-then-not-mentions-clause-occurs
returns-then-not-mentions-clause-occurs c = λ past.
    let unmentioned : mentions (event_of c.args.event.now) (primitive c.args.prim.now) ≡ false = search rules in
    unmentioned_occurs (event_of c.args.event.now) (primitive c.args.prim.now) past unmentioned

pub returns-in-Some-clause-occurs : goal.returns-in-Some-clause-occurs
returns-in-Some-clause-occurs c = λ past.
    let told : mentions (event_of c.args.event.now) (primitive c.args.prim.now) ≡ true = search rules in
    let made : occurrence_of c.in_ok-try_clone.field-0.value ≡ primitive_occurrence (primitive c.args.prim.now) = search rules in
    ap Some made ∙ sym (pure_occurs (event_of c.args.event.now) (primitive c.args.prim.now) past c.requires.pure told)

pub returns-clause-shared : goal.returns-clause-shared
returns-clause-shared c =
    let told : mentions (event_of c.args.event.now) (primitive c.args.prim.now) ≡ true = search rules in
    let occurs : Some (occurrence_of c.in-Some-now.occurrence) ≡ model_occurrence (event_of c.args.event.now) (primitive c.args.prim.now ∷ []) = search rules in
    let known : Some (occurrence_of c.in-Some-now.occurrence) ≡ Some (primitive_occurrence (primitive c.args.prim.now)) =
    occurs ∙ pure_occurs (event_of c.args.event.now) (primitive c.args.prim.now) [] c.requires.pure told in
    let is : occurrence_of c.in-Some-now.occurrence ≡ primitive_occurrence (primitive c.args.prim.now) = cc in
    let same : occurrence_of c.in_ok-try_clone-2.field-0.value ≡ occurrence_of c.in-Some-now.occurrence = search rules in
    same ∙ is
