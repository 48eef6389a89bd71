use Rattle.std.proofs.Common.{ap, ◌∙◌}
use Rattle.hp_store.specs.Changes.{changes}
use Rattle.hp_store.proofs.Layered.{fold_more, nothing_more}
use Rattle.hp_store.proofs.shared.folded.Goals.{in-Some+in_ok-take_in, in_default}
use Rattle.hp_store.proofs.shared.folded.Goals as goal

pub loop-shared-preserved : goal.loop-shared-preserved
loop-shared-preserved c = elim c.match-layer.branch [
  | in-Some+in_ok-take_in w ↦ λ q.
      ap (λ es. changes es q) w.all-is
      ∙ fold_more c.args.layers.now c.loop-shared.shared-index c.shared-item.result w.in-Some.layer.now c.loop-shared.all w.take_in.new.self c.loop-shared-test.true c.shared-item.is w.in-Some.ensures
      c.loop-shared.invariant w.in_ok-take_in.ensures.ok q
  | in_default w ↦ λ q.
      ap (λ es. changes es q) w.all-is ∙ c.loop-shared.invariant q ∙ nothing_more c.args.layers.now c.loop-shared.shared-index c.shared-item.result
      c.loop-shared-test.true c.shared-item.is w.in_default.ensures q
]
