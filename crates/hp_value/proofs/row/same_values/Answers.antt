use Rattle.std.proofs.Common.{◌≡◌, ◌+◌, ℕ, suc, ap, sym, ◌∙◌, arith, drop}
use Rattle.std.specs.Ordering.{on}
use lib.Pointwise.{pointwise}
use Rattle.hp_value.specs.Rows.{value}
use Rattle.hp_value.specs.Same.{value_same}
use Rattle.hp_value.proofs.Lists.{pointwise_from, pointwise_at_end, pointwise_unlike, false_first, true_first}
use Rattle.hp_value.proofs.row.same_values.Goals as goal

pub returns-then-values-others : goal.returns-then-values-others
returns-then-values-others c = pointwise_unlike (on value value_same) c.args.values.now c.args.others.now c.if-values-others.true

pub returns-then-ne : goal.returns-then-ne
returns-then-ne c =
    let step = pointwise_from (on value value_same) c.args.values.now c.args.others.now c.loop-i.i _ _ (omega arith) (omega arith) c.index-values-i.is c.index-others-i.is in
    false_first _ _ (sym c.ne.ensures ∙ c.if-ne.true) ∙ (sym step ∙ c.loop-i.invariant)

pub loop-i-preserved : goal.loop-i-preserved
loop-i-preserved c =
    let values = c.args.values.now in
    let others = c.args.others.now in
    let step = pointwise_from (on value value_same) values others c.loop-i.i _ _ (omega arith) (omega arith) c.index-values-i.is c.index-others-i.is in
    let e : suc c.loop-i.i ≡ c.loop-i.i + 1 = omega arith in
    ap (λ (j : ℕ). pointwise (on value value_same) (drop j values) (drop j others)) (sym e)
    ∙ (sym (true_first _ _ (sym c.ne.ensures ∙ c.if-ne.false)) ∙ (sym step ∙ c.loop-i.invariant))

pub returns : goal.returns
returns c = pointwise_at_end (on value value_same) c.args.values.now c.args.others.now c.loop-i.i (omega arith) (omega arith) ∙ c.loop-i.invariant
