use Rattle.std.proofs.Common.{sym, ap, ◌∙◌, ◌-◌, arith}
use Rattle.serde_json.specs.View.{view}
use Rattle.hp_model.specs.NotationValues.{event_of}
use Rattle.hp_print.specs.Written.{text_with, gap_view}
use Rattle.hp_model.specs.NotationPrint.{event_pieces}
use Rattle.hp_print.proofs.Chains.{then_ok, onward}
use Rattle.hp_print.proofs.Readings.{no_item, one_item, two_items, event_in_form}
use Rattle.hp_print.proofs.EventSteps.{joined_step, closure_step}
use Rattle.hp_print.proofs.Expressions.{enclosed_step}
use Rattle.hp_print.proofs.event.+event.Goals as goal

pub enclosed-returns-then-is_enclosed : goal.enclosed-returns-then-is_enclosed
enclosed-returns-then-is_enclosed t c = then_ok c.mark-then-is_enclosed.result (λ last rest. ap (text_with c.args.w.now) (enclosed_step event_pieces _ _ c.if-is_enclosed.true _ rest)
    ∙ c.in_ok-mark.ensures _ ∙ c.in_ok-event.ensures _ ∙ last rest) c.mark-then-is_enclosed.ensures

pub joined-returns : goal.joined-returns
joined-returns t c = then_ok c.right_part.result (λ last rest. ap (text_with c.args.w.now) (joined_step _ _ _ _ _ c.sign.ensures rest) ∙ c.in_ok-left_part.ensures _
    ∙ c.in_ok-mark.ensures _ ∙ last rest) c.right_part.ensures

pub closure-returns : goal.closure-returns
closure-returns t c = then_ok c.mark-3.result (λ last rest. ap (text_with c.args.w.now) (closure_step _ _ _ rest) ∙ c.in_ok-word.ensures _ ∙ c.in_ok-mark.ensures _
    ∙ c.in_ok-event.ensures _ ∙ c.in_ok-mark-2.ensures _ ∙ c.in_ok-event-2.ensures _ ∙ last rest) c.mark-3.ensures

pub of_two-returns-in-every : goal.of_two-returns-in-every
of_two-returns-in-every t c = rw c.in-every.is c.every_moment.ensures

pub of_two-returns-in-or : goal.of_two-returns-in-or
of_two-returns-in-or t c = rw c.in-or.is c.joined.ensures

pub of_two-returns-in-seq : goal.of_two-returns-in-seq
of_two-returns-in-seq t c = rw c.in-seq.is c.joined-in-seq.ensures

pub of_two-returns-in-closure : goal.of_two-returns-in-closure
of_two-returns-in-closure t c = rw c.in-closure.is c.closure.ensures

pub event-returns-in-empty : goal.event-returns-in-empty
event-returns-in-empty t c =
    onward c.word_alone.result c.args.w.now c.word_alone.new.w (λ e. event_pieces e (gap_view c.args.gap)) _ _
    (event_in_form c.args.levels (c.args.levels - 1) _ _ _ (omega (arith, c.if-levels-eq0.false)) (sym c.in-Some.ensures) (no_item view _ c.in-empty.len_below))
    (c.word_alone.ensures (event_of (c.args.levels - 1)))

pub event-returns-in-len1 : goal.event-returns-in-len1
event-returns-in-len1 t c =
    onward c.of_one.result c.args.w.now c.of_one.new.w (λ e. event_pieces e (gap_view c.args.gap)) _ _
    (event_in_form c.args.levels (c.args.levels - 1) _ _ _ (omega (arith, c.if-levels-eq0.false)) (sym c.in-Some.ensures)
    (one_item view _ c.part-item.result c.in-len1.len_at_least c.in-len1.len_below c.part-item.is)) c.of_one.ensures

pub event-returns-in-len2 : goal.event-returns-in-len2
event-returns-in-len2 t c =
    onward c.of_two.result c.args.w.now c.of_two.new.w (λ e. event_pieces e (gap_view c.args.gap)) _ _
    (event_in_form c.args.levels (c.args.levels - 1) _ _ _ (omega (arith, c.if-levels-eq0.false)) (sym c.in-Some.ensures)
    (two_items view _ c.first-item.result c.second-item.result c.in-len2.len_at_least c.in-len2.len_below c.first-item.is c.second-item.is)) c.of_two.ensures
