use Rattle.std.proofs.Common.{rules}
use Rattle.serde_json.specs.View.{view}
use Rattle.hp_model.specs.RuleHeads.{rule_head_at}
use Rattle.hp_script.specs.Heads.{head_view}
use Rattle.hp_rule.specs.Places.{steps}
use Rattle.hp_script.specs.Versions.{version_view}
use Rattle.hp_script.proofs.Listed.{read_more}
use Rattle.hp_script.proofs.rule_head.rule_heads_at.Goals as goal

pub loop-i-preserved : goal.loop-i-preserved
loop-i-preserved c = record {
  reads =
      read_more head_view view (rule_head_at (version_view c.args.version)) (steps c.args.place.now) (steps c.item.result) _
      c.loop-i.heads.items c.as_slice.result.now c.push.new.self.items c.in_ok-head.head c.in_ok-values.values.now c.loop-i.i c.index-values-i.result
      c.loop-i-test.true c.index-values-i.is c.as_slice.ensures.value c.item.ensures c.in_ok-head.ensures c.in_ok-push.ensures.items c.loop-i.invariant.reads;
  counted = search rules;
}
