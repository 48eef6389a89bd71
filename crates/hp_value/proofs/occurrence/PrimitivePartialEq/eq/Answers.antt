use Rattle.std.proofs.Common.{◌∙◌, sym, rules}
use Rattle.hp_value.specs.Same.{value_same}
use Rattle.hp_value.specs.Mapped.{value}
use Rattle.hp_value.proofs.Lists.{pointwise_map, both_true}
use Rattle.hp_value.proofs.occurrence.PrimitivePartialEq.eq.Goals as goal

pub returns-then-eq-2 : goal.returns-then-eq-2
returns-then-eq-2 c =
    let both = both_true _ _ _ (sym c.eq-in-Signal-Signal.ensures ∙ c.if-eq-2.true)
    (c.eq-then-eq-2.ensures ∙ pointwise_map value value_same c.in-Signal-Signal.args.items c.in-Signal-Signal.xs.items) in
    search (rules, both)
