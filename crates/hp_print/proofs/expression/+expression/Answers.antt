use Rattle.std.proofs.Common.{sym, ap, ◌∙◌, refl, ◌-◌, nat_lt, arith}
use Rattle.serde_json.specs.View.{view}
use Rattle.hp_print.specs.Written.{text_with, gap_view}
use Rattle.hp_model.specs.NotationPrint.{expression_pieces, expression_level, negated_level}
use Rattle.hp_print.proofs.Chains.{then_ok, onward}
use Rattle.hp_model.specs.NotationValues.{expression_of}
use Rattle.hp_print.proofs.Operands.{value_step}
use Rattle.hp_print.proofs.Levels.{operation_form, other_form}
use Rattle.hp_print.proofs.Readings.{one_item, two_items, expression_in_form, expression_in_literal}
use Rattle.hp_print.proofs.Expressions.{enclosed_step, decided_step, compared, operation_step, inverted_step, negated_step}
use Rattle.hp_print.proofs.expression.+expression.Goals as goal

pub enclosed-returns-then-is_enclosed : goal.enclosed-returns-then-is_enclosed
enclosed-returns-then-is_enclosed t c = then_ok c.mark-then-is_enclosed.result (λ last rest. ap (text_with c.args.w.now) (enclosed_step expression_pieces _ _ c.if-is_enclosed.true _ rest)
    ∙ c.in_ok-mark.ensures _ ∙ c.in_ok-expression.ensures _ ∙ last rest) c.mark-then-is_enclosed.ensures

pub operation-returns : goal.operation-returns
operation-returns t c = then_ok c.operand-2.result (λ last rest. ap (text_with c.args.w.now) (operation_step _ _ _ _ _ _ _ c.left_level.ensures c.sign.ensures c.right_level.ensures rest)
    ∙ c.in_ok-operand.ensures _ ∙ c.in_ok-mark.ensures _ ∙ last rest) c.operand-2.ensures

pub inverted-returns : goal.inverted-returns
inverted-returns t c = then_ok c.operand.result (λ last rest. ap (text_with c.args.w.now) (inverted_step _ _ rest) ∙ c.in_ok-mark.ensures _ ∙ last rest) c.operand.ensures

pub of_one-returns-in-not : goal.of_one-returns-in-not
of_one-returns-in-not t c = rw c.in-not.is c.inverted.ensures

pub of_one-returns-in-neg : goal.of_one-returns-in-neg
of_one-returns-in-neg t c = rw c.in-neg.is c.negated.ensures

pub of_one-returns-in-key : goal.of_one-returns-in-key
of_one-returns-in-key t c = rw c.in-key.is c.key_of.ensures

pub of_one-returns-in-id : goal.of_one-returns-in-id
of_one-returns-in-id t c = rw c.in-id.is c.key_in.ensures

pub of_one-returns-in-time : goal.of_one-returns-in-time
of_one-returns-in-time t c = rw c.in-time.is c.time_of.ensures

pub of_form-returns-in-len1 : goal.of_form-returns-in-len1
of_form-returns-in-len1 t c = rw (one_item view c.args.form.parts.now c.part-item.result c.in-len1.len_at_least c.in-len1.len_below c.part-item.is) c.of_one.ensures

pub of_form-returns-in-len2 : goal.of_form-returns-in-len2
of_form-returns-in-len2 t c = rw (two_items view c.args.form.parts.now c.first-item.result c.second-item.result c.in-len2.len_at_least c.in-len2.len_below c.first-item.is c.second-item.is)
    c.of_two.ensures

pub of_one-returns-in-value : goal.of_one-returns-in-value
of_one-returns-in-value t c = rw c.in-value.is (then_ok c.value_name.result (λ last rest. ap (text_with c.args.w.now) (value_step _ _ rest) ∙ last rest) c.value_name.ensures)

pub of_two-returns-in-Some : goal.of_two-returns-in-Some
of_two-returns-in-Some t c = onward c.operation.result c.args.w.now c.operation.new.w (λ e. expression_pieces e (gap_view c.args.gap)) _ _
    (operation_form (expression_of c.args.levels) c.args.word.now _ (view c.args.first.now) (view c.args.second.now) (sym c.in-Some.ensures)) c.operation.ensures

pub of_two-returns-in-None : goal.of_two-returns-in-None
of_two-returns-in-None t c = onward c.parts.result c.args.w.now c.parts.new.w (λ e. expression_pieces e (gap_view c.args.gap)) _ _
    (other_form (expression_of c.args.levels) c.args.word.now (view c.args.first.now) (view c.args.second.now) (sym c.in-None.ensures)) c.parts.ensures

pub expression-returns-in-Some : goal.expression-returns-in-Some
expression-returns-in-Some t c = onward c.of_form.result c.args.w.now c.of_form.new.w (λ e. expression_pieces e (gap_view c.args.gap)) _ _
    (expression_in_form c.args.levels (c.args.levels - 1) _ _ (omega (arith, c.if-levels-eq0.false)) (sym c.in-Some.ensures)) c.of_form.ensures

pub expression-returns-in-None : goal.expression-returns-in-None
expression-returns-in-None t c = onward c.literal.result c.args.w.now c.literal.new.w (λ e. expression_pieces e (gap_view c.args.gap)) _ _
    (expression_in_literal c.args.levels (c.args.levels - 1) _ (omega (arith, c.if-levels-eq0.false)) (sym c.in-None.ensures)) c.literal.ensures

pub operand-returns : goal.operand-returns
operand-returns t c =
    then_ok c.enclosed.result (λ last rest. ap (text_with c.args.w.now) (decided_step expression_pieces _ _ (λ e. nat_lt (expression_level e) c.args.least)
    _ (compared _ expression_level c.args.least _ _ refl (c.level.ensures c.args.levels)) rest) ∙ last rest) c.enclosed.ensures

pub negated-returns : goal.negated-returns
negated-returns t c =
    then_ok c.enclosed.result (λ last rest. ap (text_with c.args.w.now) (negated_step _ _ rest) ∙ c.in_ok-mark.ensures _
    ∙ ap (text_with c.mark.new.self) (decided_step expression_pieces _ _ (λ e. nat_lt (negated_level e) 8) _ (compared _ negated_level 8 _ _ refl (c.negated_level.ensures c.args.levels))
    rest) ∙ last rest) c.enclosed.ensures
