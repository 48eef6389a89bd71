use Rattle.std.proofs.Common.{map}
use Rattle.serde_json.specs.View.{view}
use Rattle.hp_model.specs.Scopes.{field_names}
use Rattle.hp_model.specs.StatementGrammar.{assignment_at}
use Rattle.hp_value.specs.Mapped.{field}
use Rattle.hp_rule.specs.Mapped.{assignment}
use Rattle.hp_rule.specs.Places.{steps}
use Rattle.hp_script.specs.Settings.{setting_view}
use Rattle.hp_script.proofs.Listed.{read_more}
use Rattle.hp_script.proofs.assignment.assignments_at.Goals as goal

pub loop-i-preserved : goal.loop-i-preserved
loop-i-preserved c =
    read_more assignment view (assignment_at (field_names (map field c.args.fields.now)) (setting_view c.args.setting.now)) (steps c.args.place.now) (steps c.item.result) _
    c.loop-i.pairs.items c.as_slice.result.now c.push.new.self.items c.in_ok-pair.pair c.in_ok-values.values.now c.loop-i.i c.index-values-i.result
    c.loop-i-test.true c.index-values-i.is c.as_slice.ensures.value c.item.ensures c.in_ok-pair.ensures c.in_ok-push.ensures.items c.loop-i.invariant
