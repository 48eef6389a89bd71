use Rattle.std.proofs.Common.{map, ◌≡◌, ◌-◌, suc, sym, ap, subst, ◌∙◌, Some, arith}
use Rattle.std.specs.Prelude.{IfSome}
use Rattle.serde_json.specs.Data.{Data}
use Rattle.serde_json.specs.View.{view}
use Rattle.hp_text.specs.Mapped.{mark_view}
use Rattle.hp_model.specs.NotationForms.{empty}
use Rattle.hp_model.specs.NotationPrint.{statement_pieces, body_pieces, is_empty}
use Rattle.hp_model.specs.NotationValues.{body_of}
use Rattle.hp_print.specs.Statements.{statement_within}
use Rattle.hp_print.specs.Written.{step, text_with}
use Rattle.hp_print.proofs.Chains.{then_ok}
use Rattle.hp_print.proofs.BodySteps.{body_of_list, body_step, braced_step, other_step, nothing_step, zero_body, not_nil, five_parts}
use Rattle.hp_print.proofs.ListSteps.{steps_more, steps_none, statement_list}
use Rattle.hp_print.proofs.Readings.{one_item, two_items, three_items, four_items}
use Rattle.hp_print.proofs.StatementSteps.{when_step, each_step, for_step, with_step, let_step, sub_step}
use Rattle.hp_print.proofs.body.+body.Goals as goal

pub when-returns : goal.when-returns
when-returns t c = then_ok c.other_body.result (λ last rest. ap (text_with c.args.w.now) (when_step _ _ _ _ rest) ∙ c.in_ok-mark.ensures _ ∙ c.in_ok-any_expression.ensures _
    ∙ c.in_ok-body.ensures _ ∙ last rest) c.other_body.ensures

pub each-returns : goal.each-returns
each-returns t c = then_ok c.body.result (λ last rest. ap (text_with c.args.w.now) (each_step _ _ _ rest) ∙ c.in_ok-mark.ensures _ ∙ c.in_ok-rows.ensures _ ∙ last rest) c.body.ensures

pub for_answer-returns : goal.for_answer-returns
for_answer-returns t c = then_ok c.body.result (λ last rest. ap (text_with c.args.w.now) (for_step _ _ _ rest) ∙ c.in_ok-mark.ensures _ ∙ c.in_ok-name.ensures _ ∙ last rest) c.body.ensures

pub with_object-returns : goal.with_object-returns
with_object-returns t c = then_ok c.body.result (λ last rest. ap (text_with c.args.w.now) (with_step _ _ _ _ _ rest) ∙ c.in_ok-mark.ensures _
    ∙ c.in_ok-object.ensures _ ∙ c.in_ok-mark-2.ensures _ ∙ c.in_ok-name.ensures _ ∙ last rest) c.body.ensures

pub with_value-returns : goal.with_value-returns
with_value-returns t c = then_ok c.body.result (λ last rest. ap (text_with c.args.w.now) (let_step _ _ _ _ rest) ∙ c.in_ok-word.ensures _ ∙ c.in_ok-binding.ensures _ ∙ last rest) c.body.ensures

pub subtransaction-returns : goal.subtransaction-returns
subtransaction-returns t c = then_ok c.other_body.result (λ last rest. ap (text_with c.args.w.now) (sub_step _ _ _ rest) ∙ c.in_ok-mark.ensures _ ∙ c.in_ok-body.ensures _ ∙ last rest)
    c.other_body.ensures

pub of_two-returns-in-delete : goal.of_two-returns-in-delete
of_two-returns-in-delete t c = rw c.in-delete.is c.delete.ensures

pub of_two-returns-in-signal : goal.of_two-returns-in-signal
of_two-returns-in-signal t c = rw c.in-signal.is c.signal.ensures

pub of_two-returns-in-for : goal.of_two-returns-in-for
of_two-returns-in-for t c = rw c.in-for.is c.for_answer.ensures

pub of_two-returns-in-sub : goal.of_two-returns-in-sub
of_two-returns-in-sub t c = rw c.in-sub.is c.subtransaction.ensures

pub of_three-returns-in-create : goal.of_three-returns-in-create
of_three-returns-in-create t c = rw c.in-create.is c.set_object.ensures

pub of_three-returns-in-update : goal.of_three-returns-in-update
of_three-returns-in-update t c = rw c.in-update.is c.set_object-in-update.ensures

pub of_three-returns-in-if : goal.of_three-returns-in-if
of_three-returns-in-if t c = rw c.in-if.is c.when.ensures

pub of_three-returns-in-let : goal.of_three-returns-in-let
of_three-returns-in-let t c = rw c.in-let.is c.with_value.ensures

pub of_four-returns-in-each : goal.of_four-returns-in-each
of_four-returns-in-each t c = rw c.in-each.is c.each.ensures

pub of_four-returns-in-with : goal.of_four-returns-in-with
of_four-returns-in-with t c = rw c.in-with.is c.with_object.ensures

pub body-returns : goal.body-returns
body-returns t c =
    let m = c.args.nest.levels - 1 in
    then_ok c.braced.result
    (λ last rest. ap (λ o. text_with c.args.w.now (step (λ b. body_pieces b c.args.nest.depth) o rest))
    (body_of_list c.args.nest.levels m _ _ (omega (arith, c.if-nest-eq0.false)) (sym c.in-Some.ensures))
    ∙ ap (text_with c.args.w.now) (body_step c.args.nest.depth _ rest) ∙ last rest)
    c.braced.ensures

pub braced-returns : goal.braced-returns
braced-returns t c =
    then_ok c.mark-2.result
    (λ last rest. ap (text_with c.args.w.now) (braced_step c.args.nest.depth _ c.args.nest.levels _ rest (omega arith) (not_nil view c.args.values.now c.if-values-eq0.false))
    ∙ c.in_ok-mark.ensures _ ∙ c.in_ok-statements.ensures _ ∙ last rest)
    c.mark-2.ensures

pub statements-returns : goal.statements-returns
statements-returns t c rest =
    let each = λ (d : Data). step (λ s. statement_pieces s c.args.nest.depth) (statement_within c.args.nest.levels d) in
    ap (text_with c.args.w.now) (sym (statement_list c.args.nest.depth (statement_within c.args.nest.levels) (map view c.args.values.now) rest)) ∙ c.loop-value.invariant rest
    ∙ ap (text_with c.loop-value.w) (steps_none each view c.args.values.now c.loop-value.value-index c.loop-value-test.false rest)

pub of_form-returns-in-len1 : goal.of_form-returns-in-len1
of_form-returns-in-len1 t c = rw (one_item view c.args.parts.now c.part-item.result c.in-len1.len_at_least c.in-len1.len_below c.part-item.is) c.of_one.ensures

pub of_form-returns-in-len2 : goal.of_form-returns-in-len2
of_form-returns-in-len2 t c = rw (two_items view c.args.parts.now c.first-item.result c.second-item.result c.in-len2.len_at_least c.in-len2.len_below c.first-item.is c.second-item.is) c.of_two.ensures

pub of_form-returns-in-len3 : goal.of_form-returns-in-len3
of_form-returns-in-len3 t c =
    rw (three_items view c.args.parts.now c.first-item-then-parts-lt4.result c.second-item-then-parts-lt4.result c.third-item.result c.in-len3.len_at_least
    c.in-len3.len_below c.first-item-then-parts-lt4.is c.second-item-then-parts-lt4.is c.third-item.is) c.of_three.ensures

pub of_form-returns-in-len4 : goal.of_form-returns-in-len4
of_form-returns-in-len4 t c =
    rw (four_items view c.args.parts.now c.name-item.result c.class-item.result c.value-item.result c.inner-item.result c.in-len4.len_at_least c.in-len4.len_below
    c.name-item.is c.class-item.is c.value-item.is c.inner-item.is) c.of_four.ensures

pub of_form-returns-in_default : goal.of_form-returns-in_default
of_form-returns-in_default t c rest = rw (five_parts view (body_of c.args.nest.levels) c.args.word.now c.args.parts.now c.in_default.len_at_least) (c.refuse.ensures rest)

pub other_body-returns-then-nest-eq0 : goal.other_body-returns-then-nest-eq0
other_body-returns-then-nest-eq0 t c rest = rw (zero_body c.args.nest.levels (view c.args.value.now) c.if-nest-eq0.true) (c.refuse.ensures rest)

pub other_body-returns-then-is_empty_list : goal.other_body-returns-then-is_empty_list
other_body-returns-then-is_empty_list t c rest =
    let more : suc (c.args.nest.levels - 1) ≡ c.args.nest.levels = omega (arith, c.if-nest-eq0.false) in
    ap (text_with c.args.w.now)
    (nothing_step (mark_view c.args.mark) c.args.nest.depth _ (subst (λ n. body_of n (view c.args.value.now) ≡ Some empty) more
    (c.is_empty_list.ensures.empty c.if-is_empty_list.true (c.args.nest.levels - 1))) rest)

pub other_body-returns : goal.other_body-returns
other_body-returns t c =
    then_ok c.body.result
    (λ last rest. ap (text_with c.args.w.now) (other_step (mark_view c.args.mark) c.args.nest.depth (body_of c.args.nest.levels (view c.args.value.now))
    (subst (λ r. IfSome (body_of c.args.nest.levels (view c.args.value.now)) (λ b. r ≡ is_empty b)) c.if-is_empty_list.false (c.is_empty_list.ensures.each c.args.nest.levels)) rest)
    ∙ c.in_ok-mark.ensures _ ∙ last rest)
    c.body.ensures

pub statements-loop-value-preserved : goal.statements-loop-value-preserved
statements-loop-value-preserved t c =
    steps_more (λ (d : Data). step (λ s. statement_pieces s c.args.nest.depth) (statement_within c.args.nest.levels d)) view c.args.values.now
    c.loop-value.value-index c.value-item.result c.loop-value.w c.statement.new.w _
    c.loop-value-test.true c.value-item.is c.in_ok-statement.ensures c.loop-value.invariant
