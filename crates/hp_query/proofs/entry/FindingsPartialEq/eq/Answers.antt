use Rattle.std.proofs.Common.{sym, ◌∙◌}
use Rattle.hp_value.specs.Same.{answer_same, pair_same}
use Rattle.hp_value.specs.Mapped.{answer, named_value}
use Rattle.hp_value.proofs.Lists.{pointwise_map, both_true, first_false}
use Rattle.hp_query.proofs.entry.FindingsPartialEq.eq.Goals as goal

pub returns-then-eq : goal.returns-then-eq
returns-then-eq c =
    both_true _ _ _ (sym (c.eq.ensures ∙ pointwise_map answer answer_same c.args.self.now.answers.items c.args.other.now.answers.items) ∙ c.if-eq.true)
    (c.eq-then-eq.ensures ∙ pointwise_map named_value pair_same c.args.self.now.values.items c.args.other.now.values.items)

pub returns-else-eq : goal.returns-else-eq
returns-else-eq c =
    first_false _ _ _ (c.eq.ensures ∙ pointwise_map answer answer_same c.args.self.now.answers.items c.args.other.now.answers.items) c.if-eq.false
