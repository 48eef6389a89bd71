use Rattle.std.proofs.Common.{◌≤◌, ◌∙◌, sym, arith}
use Rattle.hp_model.specs.Cells.{object_cell}
use Rattle.hp_store.proofs.Bounds.{unnamed_more}
use Rattle.hp_store.proofs.Layered.{nothing_more}
use Rattle.hp_store.proofs.classes.bound_of_all.Goals.{in-Some, in_default}
use Rattle.hp_store.proofs.classes.bound_of_all.Goals as goal

pub loop-shared-preserved : goal.loop-shared-preserved
loop-shared-preserved c = elim c.match-layer.branch [
  | in-Some w ↦ λ class key up.
      let own : w.bound_of.result ≤ class = grind (arith, up) in
      let before : c.loop-shared.bound ≤ class = grind (arith, up) in
      unnamed_more c.args.layers.now c.loop-shared.shared-index c.shared-item.result w.in-Some.layer.now (object_cell class key) c.loop-shared-test.true c.shared-item.is
      w.in-Some.ensures (c.loop-shared.invariant class key before) (w.bound_of.ensures class key own)
  | in_default w ↦ λ class key up.
      let before : c.loop-shared.bound ≤ class = grind (arith, up) in
      sym (nothing_more c.args.layers.now c.loop-shared.shared-index c.shared-item.result c.loop-shared-test.true c.shared-item.is w.in_default.ensures (object_cell class key))
      ∙ c.loop-shared.invariant class key before
]
