use Rattle.std.proofs.Common.{◌≡◌, ◌+◌, ℕ, suc, ap, sym, ◌∙◌, arith, drop, true}
use Rattle.hp_value.specs.Rows.{row_of}
use Rattle.hp_value.specs.Same.{row_same}
use Rattle.hp_value.proofs.Lists.{first_differs, second_differs, none_differs}
use Rattle.hp_value.proofs.Rows.{lengths_differ, same_from, row_at_end}
use Rattle.hp_value.proofs.row.same_rows.Goals as goal

pub returns-then-n-min : goal.returns-then-n-min
returns-then-n-min c =
    lengths_differ c.args.fields.now c.args.others.now c.args.values.now c.args.other_values.now
    (λ e. c.if-n-min.true (c.min-n.ensures ∙ e ∙ sym c.min.ensures))

pub returns-then-ne : goal.returns-then-ne
returns-then-ne c =
    let fs = c.args.fields.now in
    let vs = c.args.values.now in
    let gs = c.args.others.now in
    let ws = c.args.other_values.now in
    let i = c.loop-i.i in
    let step =
    same_from fs gs vs ws i _ _ _ _ (omega arith) (omega arith) (omega arith) (omega arith)
    c.index-fields-i.is c.index-values-i.is c.index-others-i.is c.index-other_values-i.is in
    first_differs _ _ _ (sym c.ne.ensures ∙ c.if-ne.true) ∙ sym step ∙ c.loop-i.invariant

pub returns-then-ne-2 : goal.returns-then-ne-2
returns-then-ne-2 c =
    let fs = c.args.fields.now in
    let vs = c.args.values.now in
    let gs = c.args.others.now in
    let ws = c.args.other_values.now in
    let i = c.loop-i.i in
    let step =
    same_from fs gs vs ws i _ _ _ _ (omega arith) (omega arith) (omega arith) (omega arith)
    c.index-fields-i.is c.index-values-i.is c.index-others-i.is c.index-other_values-i.is in
    second_differs _ _ _ (sym c.ne-in-loop-i.ensures ∙ c.if-ne-2.true) ∙ sym step ∙ c.loop-i.invariant

pub loop-i-preserved : goal.loop-i-preserved
loop-i-preserved c =
    let fs = c.args.fields.now in
    let vs = c.args.values.now in
    let gs = c.args.others.now in
    let ws = c.args.other_values.now in
    let i = c.loop-i.i in
    let step =
    same_from fs gs vs ws i _ _ _ _ (omega arith) (omega arith) (omega arith) (omega arith)
    c.index-fields-i.is c.index-values-i.is c.index-others-i.is c.index-other_values-i.is in
    let e : suc i ≡ i + 1 = omega arith in
    ap (λ (j : ℕ). row_same (row_of (drop j fs) (drop j vs)) (row_of (drop j gs) (drop j ws))) (sym e)
    ∙ (sym (none_differs _ _ _ (sym c.ne.ensures ∙ c.if-ne.false) (sym c.ne-in-loop-i.ensures ∙ c.if-ne-2.false)) ∙ (sym step ∙ c.loop-i.invariant))

pub returns : goal.returns
returns c =
    let fs = c.args.fields.now in
    let vs = c.args.values.now in
    let gs = c.args.others.now in
    let ws = c.args.other_values.now in
    let i = c.loop-i.i in
    let same : row_same (row_of (drop i fs) (drop i vs)) (row_of (drop i gs) (drop i ws)) ≡ true =
    rw (row_at_end fs vs i (omega arith), row_at_end gs ws i (omega arith)) in
    sym same ∙ c.loop-i.invariant
