use Rattle.std.proofs.Common.{refl}
use Rattle.serde_json.specs.View.{view}
use Rattle.hp_model.specs.ExpressionGrammar.{expression_at}
use Rattle.hp_value.specs.Mapped.{expression}
use Rattle.hp_rule.specs.Places.{steps}
use Rattle.hp_script.specs.Settings.{setting_view}
use Rattle.hp_script.proofs.Listed.{read_more}
use Rattle.hp_script.proofs.operation.arguments_at.Goals as goal

pub loop-i-preserved : goal.loop-i-preserved
loop-i-preserved c =
    read_more expression view (λ _. expression_at (setting_view c.args.setting.now)) (steps c.args.place.now) (steps c.item.result) _
    c.loop-i.arguments.items c.loop-i.arguments.items c.push.new.self.items c.in_ok-argument.argument c.in_ok-values.values.now c.loop-i.i c.index-values-i.result
    c.loop-i-test.true c.index-values-i.is refl c.item.ensures c.in_ok-argument.ensures c.in_ok-push.ensures.items c.loop-i.invariant
