use Rattle.serde_json.specs.View.{view}
use Rattle.hp_model.specs.Decode.{field_at}
use Rattle.hp_value.specs.Mapped.{field}
use Rattle.hp_rule.specs.Places.{steps}
use Rattle.hp_script.proofs.Listed.{read_more}
use Rattle.hp_script.proofs.class.fields_at.Goals as goal

pub loop-i-preserved : goal.loop-i-preserved
loop-i-preserved c =
    read_more field view field_at (steps c.args.place.now) (steps c.item.result) _
    c.loop-i.fields.items c.as_slice.result.now c.push.new.self.items c.in_ok-field.field c.in_ok-values.values.now c.loop-i.i c.index-values-i.result
    c.loop-i-test.true c.index-values-i.is c.as_slice.ensures.value c.item.ensures c.in_ok-field.ensures c.in_ok-push.ensures.items c.loop-i.invariant
