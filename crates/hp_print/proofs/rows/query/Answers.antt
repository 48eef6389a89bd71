use Rattle.std.proofs.Common.{sym, ap, ◌∙◌, arith}
use Rattle.serde_json.specs.View.{view}
use Rattle.hp_print.specs.Written.{step, text_with}
use Rattle.hp_print.proofs.Chains.{onward}
use Rattle.serde_json.specs.Find.{as_str}
use Rattle.hp_model.specs.NotationPrint.{query_pieces}
use Rattle.hp_print.specs.Rows.{query_in, no_rows_of}
use Rattle.hp_print.proofs.Readings.{four_items, query_of_items}
use Rattle.hp_print.proofs.Aggregates.{query_of_four, no_items_query}
use Rattle.hp_print.proofs.rows.query.Goals as goal

pub returns-then-items-eq4 : goal.returns-then-items-eq4
returns-then-items-eq4 c =
    onward c.query_of_four.result c.args.w.now c.query_of_four.new.w query_pieces _ _
    (query_of_items c.args.lets _ _ (sym c.in-Some.ensures)
    ∙ ap (query_in c.args.lets) (four_items view c.in-Some.items.now c.index-items-0-then-items-eq4.result c.index-items-1-then-items-eq4.result
    c.index-items-2-then-items-eq4.result c.index-items-3.result (omega (arith, c.if-items-eq4.true)) (omega (arith, c.if-items-eq4.true))
    c.index-items-0-then-items-eq4.is c.index-items-1-then-items-eq4.is c.index-items-2-then-items-eq4.is c.index-items-3.is)
    ∙ query_of_four c.args.lets _ _ _ _ ∙ ap (no_rows_of (as_str (view c.index-items-0-then-items-eq4.result))) (sym c.rows_of.ensures))
    c.query_of_four.ensures

pub returns : goal.returns
returns c rest =
    ap (λ o. text_with c.args.w.now (step query_pieces o rest)) (query_of_items c.args.lets _ _ (sym c.in-Some.ensures)
    ∙ no_items_query view c.args.lets c.in-Some.items.now c.if-items-eq3.false c.if-items-eq4.false)
    ∙ c.refuse-2.ensures rest
