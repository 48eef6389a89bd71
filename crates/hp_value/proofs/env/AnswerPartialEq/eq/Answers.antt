use Rattle.std.proofs.Common.{◌∙◌, sym}
use Rattle.hp_value.specs.Same.{keyed_same}
use Rattle.hp_value.specs.Mapped.{keyed_row}
use Rattle.hp_value.proofs.Lists.{pointwise_map, both_true}
use Rattle.hp_value.proofs.env.AnswerPartialEq.eq.Goals as goal

pub returns-then-eq : goal.returns-then-eq
returns-then-eq c =
    both_true _ _ _ (sym c.eq.ensures ∙ c.if-eq.true)
    (c.eq-then-eq.ensures ∙ pointwise_map keyed_row keyed_same c.args.self.now.rows.items c.args.other.now.rows.items)
