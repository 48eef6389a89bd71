use Rattle.std.proofs.Common.{refl}
use Rattle.hp_model.specs.Decode.{rule_at}
use Rattle.hp_rule.specs.Mapped.{rule}
use Rattle.hp_script.specs.Forms.{head_view, scope_view, version_view}
use Rattle.hp_rule.specs.Places.{steps}
use Rattle.hp_script.proofs.Listed.{read_more}
use Rattle.hp_script.proofs.rule.rules_at.Goals as goal

pub loop-i-preserved : goal.loop-i-preserved
loop-i-preserved c =
    read_more rule head_view (λ _. rule_at (version_view c.args.scope.now.version) (scope_view c.args.scope.now)) (steps c.args.place.now) (steps c.item.result) _
    c.loop-i.rules.items c.loop-i.rules.items c.push.new.self.items c.in_ok-rule.rule c.args.heads.now c.loop-i.i c.index-heads-i.result
    c.loop-i-test.true c.index-heads-i.is refl c.item.ensures c.in_ok-rule.ensures c.in_ok-push.ensures.items c.loop-i.invariant
