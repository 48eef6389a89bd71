use Rattle.std.proofs.Common.{sym, ap, ◌∙◌}
use Rattle.serde_json.specs.View.{view}
use Rattle.hp_print.specs.Written.{step, text_with}
use Rattle.hp_model.specs.NotationPrint.{condition_pieces}
use Rattle.hp_model.specs.NotationValues.{query_of}
use Rattle.serde_json.specs.Data.{Data}
use Rattle.hp_print.proofs.ListSteps.{steps_more, steps_none, each_list}
use Rattle.hp_print.proofs.rule.each_condition.Goals as goal

pub loop-value-preserved : goal.loop-value-preserved
loop-value-preserved c =
    steps_more (λ (d : Data). step condition_pieces (query_of c.args.lets d)) view c.args.values.now c.loop-value.value-index c.value-item.result
    c.loop-value.w c.condition.new.w _ c.loop-value-test.true c.value-item.is c.in_ok-condition.ensures c.loop-value.invariant

pub returns : goal.returns
returns c rest =
    ap (text_with c.args.w.now) (sym (each_list condition_pieces (query_of c.args.lets) _ rest)) ∙ c.loop-value.invariant rest
    ∙ ap (text_with c.loop-value.w) (steps_none (λ (d : Data). step condition_pieces (query_of c.args.lets d)) view c.args.values.now c.loop-value.value-index c.loop-value-test.false rest)
