use Rattle.std.proofs.Common.{◌∙◌, sym, refl}
use Rattle.hp_value.specs.Same.{primitive_same}
use Rattle.hp_value.specs.Mapped.{primitive}
use Rattle.hp_value.proofs.Lists.{pointwise_map, both_true, first_false}
use Rattle.hp_value.proofs.occurrence.OccurrencePartialEq.eq.Goals as goal

pub returns-then-eq : goal.returns-then-eq
returns-then-eq c =
    let same = c.eq.ensures ∙ pointwise_map primitive primitive_same c.args.self.now.parts.items c.args.other.now.parts.items in
    both_true _ _ _ (sym same ∙ c.if-eq.true) refl

pub returns-else-eq : goal.returns-else-eq
returns-else-eq c =
    let same = c.eq.ensures ∙ pointwise_map primitive primitive_same c.args.self.now.parts.items c.args.other.now.parts.items in
    first_false _ _ _ same c.if-eq.false
