use Rattle.std.proofs.Common.{rules, ◌≡◌, ap, ◌∙◌, subst, ◌∷◌, true, false}
use Rattle.std.specs.Prelude.{option_map}
use Rattle.hp_model.specs.Events.{is_pure, occurrence_of as model_occurrence}
use Rattle.hp_value.specs.Mapped.{occurrence as occurrence_of, primitive}
use Rattle.hp_detect.specs.Mapped.{event as event_of}
use Rattle.hp_rule.specs.Mapped.{rule as rule_of}
use Rattle.hp_ops.specs.Notified.{StepsOn}
use Rattle.hp_ops.proofs.Notices.{hears_pure, hears_stepped}
use Rattle.hp_ops.proofs.notifying.notify_enabled.Goals as goal

pub returns-then-is_pure-clause-notified : goal.returns-then-is_pure-clause-notified
returns-then-is_pure-clause-notified c = λ lib at.
    let pure : is_pure (event_of c.args.rule.now.event.value) ≡ true = search rules in
    let event : c.deref-then-is_pure.result.now ≡ c.args.rule.now.event.value = search rules in
    hears_pure lib (primitive c.args.prim.now) c.args.number (rule_of c.args.rule.now) at c.args.view.now (option_map (λ a. occurrence_of a.value) c.in_ok-occurrence.occurrence) pure
    (λ past. c.in_ok-occurrence.ensures.occurs past ∙ ap (λ e. model_occurrence (event_of e) (primitive c.args.prim.now ∷ past)) event)

pub returns-clause-notified : goal.returns-clause-notified
returns-clause-notified c = λ lib at.
    let impure : is_pure (event_of c.args.rule.now.event.value) ≡ false = search rules in
    let event : c.deref-2.result.now ≡ c.args.rule.now.event.value = search rules in
    hears_stepped lib (primitive c.args.prim.now) c.args.number (rule_of c.args.rule.now) at c.args.view.now c.step_detector.new.view
    (option_map (λ a. occurrence_of a.value) c.in_ok-occurrence-2.occurrence) c.in_ok-occurrence-2.next impure c.in_ok-occurrence-2.ensures.only
    (subst (λ e. StepsOn (event_of e) (primitive c.args.prim.now) c.args.number c.step_detector.new.view (option_map (λ a. occurrence_of a.value) c.in_ok-occurrence-2.occurrence)
    c.in_ok-occurrence-2.next) event c.in_ok-occurrence-2.ensures.steps)
