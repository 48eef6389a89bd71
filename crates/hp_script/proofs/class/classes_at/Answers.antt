use Rattle.std.proofs.Common.{rules}
use Rattle.serde_json.specs.View.{view}
use Rattle.hp_model.specs.Decode.{class_at}
use Rattle.hp_value.specs.Mapped.{class_def}
use Rattle.hp_rule.specs.Places.{steps}
use Rattle.hp_script.proofs.Listed.{read_more}
use Rattle.hp_script.proofs.class.classes_at.Goals as goal

pub loop-i-preserved : goal.loop-i-preserved
loop-i-preserved c = record {
  reads =
      read_more class_def view class_at (steps c.args.place.now) (steps c.item.result) _
      c.loop-i.classes.items c.as_slice.result.now c.push.new.self.items c.in_ok-class.class c.in_ok-values.values.now c.loop-i.i c.index-values-i.result
      c.loop-i-test.true c.index-values-i.is c.as_slice.ensures.value c.item.ensures c.in_ok-class.ensures c.in_ok-push.ensures.items c.loop-i.invariant.reads;
  counted = search rules;
}
