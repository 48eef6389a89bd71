use Rattle.std.proofs.Common.{sym, subst, ℤ, take}
use Rattle.std.specs.Global.{Vec}
use Rattle.hp_model.specs.Cells.{AreKeys, over}
use Rattle.hp_store.specs.Changes.{changes, changes_in}
use Rattle.hp_store.specs.Tables.{base_cells}
use Rattle.hp_store.proofs.Stacked.{keys_more, keys_same}
use Rattle.hp_store.proofs.snapshot.keys_of.Goals.{in-Some+in_ok-keys-2, in_default}
use Rattle.hp_store.proofs.snapshot.keys_of.Goals as goal

pub loop-shared-preserved : goal.loop-shared-preserved
loop-shared-preserved c = elim c.match-layer.branch [
  | in-Some+in_ok-keys-2 w ↦
      keys_more (base_cells c.args.base.now) c.args.class c.args.layers.now c.loop-shared.shared-index c.shared-item.result w.in-Some.layer.now c.loop-shared.keys.items c.match-layer.keys.items
      c.loop-shared-test.true c.shared-item.is w.in-Some.ensures c.loop-shared.invariant
      (λ b have. subst (λ (v : Vec ℤ). AreKeys (over b (changes w.in-Some.layer.now)) c.args.class v.items) (sym w.keys-is) (w.in_ok-keys-2.ensures b have))
  | in_default w ↦
      keys_same (base_cells c.args.base.now) c.args.class c.args.layers.now c.loop-shared.shared-index c.shared-item.result c.match-layer.keys.items
      c.loop-shared-test.true c.shared-item.is w.in_default.ensures
      (subst (λ (v : Vec ℤ). AreKeys (over (base_cells c.args.base.now) (changes_in (take c.loop-shared.shared-index c.args.layers.now))) c.args.class v.items) (sym w.keys-is) c.loop-shared.invariant)
]
