use Rattle.std.proofs.Common.{◌∙◌, ap, sym, subst, arith}
use Rattle.hp_value.specs.Rows.{values_of, AreValues}
use Rattle.hp_value.proofs.Rows.{numbers_added}
use Rattle.hp_value.proofs.objects.with_numbers.Goals as goal

pub returns : goal.returns
returns c = λ objects added same held.
    numbers_added c.loop-value.numbers.items c.in-Some.numbers.items c.values-value-items.result.now c.loop-value.value-index objects added (omega arith)
    c.loop-value.invariant (c.values-value-items.ensures ∙ ap values_of (sym same)) (subst (λ numbers. AreValues numbers objects) c.in-Some.is held)
