use Rattle.serde_json.specs.View.{view}
use Rattle.hp_model.specs.Scopes.{class_names}
use Rattle.hp_model.specs.Decode.{entry_at}
use Rattle.hp_query.specs.Mapped.{entry}
use Rattle.hp_script.specs.Forms.{scope_view, version_view}
use Rattle.hp_rule.specs.Places.{steps}
use Rattle.hp_script.proofs.Listed.{read_more}
use Rattle.hp_script.proofs.entry.condition_at.Goals as goal

pub loop-i-preserved : goal.loop-i-preserved
loop-i-preserved c =
    read_more entry view (entry_at (version_view c.args.scope.now.version) (class_names (scope_view c.args.scope.now).classes)) (steps c.args.place.now) (steps c.item.result) _
    c.loop-i.entries.items c.as_slice.result.now c.push.new.self.items c.in_ok-entry.entry c.in_ok-values.values.now c.loop-i.i c.index-values-i.result
    c.loop-i-test.true c.index-values-i.is c.as_slice.ensures.value c.item.ensures c.in_ok-entry.ensures c.in_ok-push.ensures.items c.loop-i.invariant
