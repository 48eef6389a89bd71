use Rattle.std.proofs.Common.{sym, ap, ◌∙◌, Some, arith}
use lib.Pointwise.{bytes_decides}
use Rattle.serde_json.specs.View.{view}
use Rattle.hp_print.proofs.Chains.{onward}
use Rattle.std.specs.Prelude.{option_and_then}
use Rattle.hp_model.specs.NotationForms as F
use Rattle.hp_model.specs.NotationPrint.{aggregate_pieces}
use Rattle.hp_model.specs.NotationValues.{of_one, of_two, any_expression, fold_named}
use Rattle.hp_print.proofs.Readings.{one_item, three_items, four_items}
use Rattle.hp_print.proofs.Aggregates.{form, plain_value, plain_form, next_form, count_form, fold_form, one_other, three_other, more_other}
use Rattle.hp_print.proofs.rows.aggregate.Goals as goal

pub returns-in_default : goal.returns-in_default
returns-in_default c =
    onward c.plain.result c.args.w.now c.plain.new.w aggregate_pieces _ _
    (plain_value _ (sym c.in_default.ensures)) c.plain.ensures

pub returns-then-eq : goal.returns-then-eq
returns-then-eq c =
    onward c.next_key.result c.args.w.now c.next_key.new.w aggregate_pieces _ _
    (next_form _ _ c.in-Some.form.word.now (sym c.in-Some.ensures ∙ ap (λ ps. Some (form c.in-Some.form.word.now ps))
    (one_item view c.in-Some.form.parts.now c.index-parts-0.result (omega (arith, c.if-parts-eq1.true)) (omega (arith, c.if-parts-eq1.true)) c.index-parts-0.is))
    ((bytes_decides _ _).0 (sym c.eq.ensures ∙ c.if-eq.true))) c.next_key.ensures

pub returns-then-parts-eq1 : goal.returns-then-parts-eq1
returns-then-parts-eq1 c =
    onward c.plain-then-parts-eq1.result c.args.w.now c.plain-then-parts-eq1.new.w aggregate_pieces _ _
    (plain_form _ _ (sym c.in-Some.ensures) (one_other view c.in-Some.form.word.now c.in-Some.form.parts.now c.if-parts-eq1.true (sym c.eq.ensures ∙ c.if-eq.false))) c.plain-then-parts-eq1.ensures

pub returns-then-eq-2 : goal.returns-then-eq-2
returns-then-eq-2 c =
    onward c.count_of.result c.args.w.now c.count_of.new.w aggregate_pieces _ _
    (count_form _ _ _ _ c.in-Some.form.word.now (sym c.in-Some.ensures ∙ ap (λ ps. Some (form c.in-Some.form.word.now ps))
    (three_items view c.in-Some.form.parts.now c.index-parts-0-then-eq-2.result c.index-parts-1.result c.index-parts-2.result (omega (arith, c.if-parts-eq3.true))
    (omega (arith, c.if-parts-eq3.true)) c.index-parts-0-then-eq-2.is c.index-parts-1.is c.index-parts-2.is)) ((bytes_decides _ _).0 (sym c.eq-then-parts-eq3.ensures ∙ c.if-eq-2.true))
    ∙ ap (of_one F.count_of) (sym c.rows_of.ensures)) c.count_of.ensures

pub returns-then-parts-eq3 : goal.returns-then-parts-eq3
returns-then-parts-eq3 c =
    onward c.plain-then-parts-eq3.result c.args.w.now c.plain-then-parts-eq3.new.w aggregate_pieces _ _
    (plain_form _ _ (sym c.in-Some.ensures) (three_other view c.in-Some.form.word.now c.in-Some.form.parts.now c.if-parts-eq3.true (sym c.eq-then-parts-eq3.ensures ∙ c.if-eq-2.false)))
    c.plain-then-parts-eq3.ensures

pub returns-then-parts-eq4 : goal.returns-then-parts-eq4
returns-then-parts-eq4 c =
    onward c.folded.result c.args.w.now c.folded.new.w aggregate_pieces _ _
    (fold_form _ _ _ _ _ c.in-Some.form.word.now (sym c.in-Some.ensures ∙ ap (λ ps. Some (form c.in-Some.form.word.now ps))
    (four_items view c.in-Some.form.parts.now c.index-parts-0-then-parts-eq4.result c.index-parts-1-then-parts-eq4.result c.index-parts-2-then-parts-eq4.result
    c.index-parts-3.result (omega (arith, c.if-parts-eq4.true)) (omega (arith, c.if-parts-eq4.true)) c.index-parts-0-then-parts-eq4.is c.index-parts-1-then-parts-eq4.is
    c.index-parts-2-then-parts-eq4.is c.index-parts-3.is))
    ∙ ap (λ r. option_and_then (λ f. of_two (F.fold_of f) r (any_expression (view c.index-parts-3.result))) (fold_named c.in-Some.form.word.now)) (sym c.rows_of-then-parts-eq4.ensures))
    c.folded.ensures

pub returns : goal.returns
returns c =
    onward c.plain-2.result c.args.w.now c.plain-2.new.w aggregate_pieces _ _
    (plain_form _ _ (sym c.in-Some.ensures) (more_other view c.in-Some.form.word.now c.in-Some.form.parts.now c.if-parts-eq1.false c.if-parts-eq3.false c.if-parts-eq4.false)) c.plain-2.ensures
