use Rattle.std.proofs.Common.{◌≡◌, not, sym, ap, ap₂, ◌∙◌, false, subst}
use lib.Pointwise.{pointwise}
use Rattle.std.specs.Ordering.{int_eq, on}
use Rattle.hp_value.specs.Mapped.{keyed_row, keys_of}
use Rattle.hp_value.specs.Rows.{AreValues}
use Rattle.hp_value.specs.Same.{values_same}
use Rattle.hp_value.proofs.Lists.{pointwise_map, true_first}
use Rattle.hp_value.proofs.Rows.{keys_tell, numbers_tell}
use Rattle.hp_value.proofs.objects.ObjectList.has_values_of.Goals as goal

pub returns-in-Some-Some : goal.returns-in-Some-Some
returns-in-Some-Some c =
    let keys = c.have_same_numbers.ensures
    ∙ ap₂ (pointwise int_eq) (c.deref.ensures.value ∙ (c.self.invariant.0 ∙ ap keys_of c.self.view_is)) (c.deref-2.ensures.value ∙ (c.other.invariant.0 ∙ ap keys_of c.other.view_is)) in
    let same : not (pointwise int_eq (keys_of c.args.self.now) (keys_of c.args.other.now)) ≡ false = ap not (sym keys ∙ c.if-not-have_same_numbers.false) in
    let numbers = subst (λ o. AreValues o c.args.self.now) c.in-Some-Some.is-0 (subst (AreValues c.self.inside.numbers) c.self.view_is c.self.invariant.2) in
    let others = subst (λ o. AreValues o c.args.other.now) c.in-Some-Some.is-1 (subst (AreValues c.other.inside.numbers) c.other.view_is c.other.invariant.2) in
    c.have_same_numbers-in-Some-Some.ensures ∙ ap₂ (pointwise int_eq) c.deref-in-Some-Some.ensures.value c.deref-in-Some-Some-2.ensures.value
    ∙ numbers_tell c.in-Some-Some.numbers.items c.in-Some-Some.others.items c.args.self.now c.args.other.now numbers others
    c.requires.0 c.requires.1 c.requires.2 (keys_tell c.args.self.now c.args.other.now same)
    ∙ sym (true_first _ _ same)

pub returns-in_default : goal.returns-in_default
returns-in_default c =
    let keys = c.have_same_numbers.ensures
    ∙ ap₂ (pointwise int_eq) (c.deref.ensures.value ∙ (c.self.invariant.0 ∙ ap keys_of c.self.view_is)) (c.deref-2.ensures.value ∙ (c.other.invariant.0 ∙ ap keys_of c.other.view_is)) in
    let same : not (pointwise int_eq (keys_of c.args.self.now) (keys_of c.args.other.now)) ≡ false = ap not (sym keys ∙ c.if-not-have_same_numbers.false) in
    let values = c.have_same_values.ensures ∙ ap₂ (pointwise (on keyed_row values_same)) c.deref-in_default.ensures.value c.deref-in_default-2.ensures.value
    ∙ pointwise_map keyed_row values_same c.self.inside.rows.items c.other.inside.rows.items ∙ ap₂ (pointwise values_same) c.self.view_is c.other.view_is in
    values ∙ sym (true_first _ _ same)
