use Rattle.std.proofs.Common.{refl}
use Rattle.serde_json.specs.View.{view}
use Rattle.hp_analysis.specs.Kinded.{sort}
use Rattle.hp_rule.specs.Places.{steps}
use Rattle.hp_script.proofs.Listed.{read_more}
use Rattle.hp_signals.specs.Signals.{sort_at}
use Rattle.hp_signals.proofs.reading.sorts_at.Goals as goal

pub loop-i-preserved : goal.loop-i-preserved
loop-i-preserved c =
    read_more sort view (λ _. sort_at) (steps c.args.place.now) (steps c.item.result) _
    c.loop-i.sorts.items c.loop-i.sorts.items c.push.new.self.items c.in_ok-known.known c.in_ok-values.values.now c.loop-i.i c.index-values-i.result
    c.loop-i-test.true c.index-values-i.is refl c.item.ensures c.in_ok-known.ensures c.in_ok-push.ensures.items c.loop-i.invariant
