use Rattle.std.proofs.Common.{◌≡◌, ◌+◌, ℕ, suc, ap, ap₂, sym, ◌∙◌, arith, drop, not}
use Rattle.std.specs.Ordering.{on}
use lib.Pointwise.{pointwise}
use Rattle.hp_value.specs.declared.row.KeyedRow.{KeyedRow}
use Rattle.hp_value.specs.Mapped.{keyed_row}
use Rattle.hp_value.specs.Same.{values_same}
use Rattle.hp_value.proofs.Lists.{pointwise_from, pointwise_at_end, pointwise_unlike, false_first, true_first}
use Rattle.hp_value.proofs.objects.have_same_values.Goals as goal

pub returns-then-rows-others : goal.returns-then-rows-others
returns-then-rows-others c = pointwise_unlike (on keyed_row values_same) c.args.rows.now c.args.others.now c.if-rows-others.true

pub returns-then-not-has_values_of : goal.returns-then-not-has_values_of
returns-then-not-has_values_of c =
    let step = pointwise_from (on keyed_row values_same) c.args.rows.now c.args.others.now c.loop-i.i _ _ (omega arith) (omega arith) c.index-rows-i.is c.index-others-i.is in
    let test = c.has_values_of.ensures ∙ ap₂ (λ (o p : KeyedRow). values_same (keyed_row o) (keyed_row p)) (sym c.index-rows-i.is) (sym c.index-others-i.is) in
    false_first _ _ (ap not (sym test ∙ c.if-not-has_values_of.true)) ∙ (sym step ∙ c.loop-i.invariant)

pub loop-i-preserved : goal.loop-i-preserved
loop-i-preserved c =
    let rows = c.args.rows.now in
    let others = c.args.others.now in
    let step = pointwise_from (on keyed_row values_same) rows others c.loop-i.i _ _ (omega arith) (omega arith) c.index-rows-i.is c.index-others-i.is in
    let test = c.has_values_of.ensures ∙ ap₂ (λ (o p : KeyedRow). values_same (keyed_row o) (keyed_row p)) (sym c.index-rows-i.is) (sym c.index-others-i.is) in
    let e : suc c.loop-i.i ≡ c.loop-i.i + 1 = omega arith in
    ap (λ (j : ℕ). pointwise (on keyed_row values_same) (drop j rows) (drop j others)) (sym e)
    ∙ (sym (true_first _ _ (ap not (sym test ∙ c.if-not-has_values_of.false))) ∙ (sym step ∙ c.loop-i.invariant))

pub returns : goal.returns
returns c = pointwise_at_end (on keyed_row values_same) c.args.rows.now c.args.others.now c.loop-i.i (omega arith) (omega arith) ∙ c.loop-i.invariant
