use Rattle.std.proofs.Common.{subst, sym}
use Rattle.hp_model.specs.Cells.{AreObjects}
use Rattle.hp_store.specs.Kept.{AreKept}
use Rattle.hp_store.specs.Stack.{cells_in}
use Rattle.hp_store.proofs.Keeping.{kept_at, cells_shown}
use Rattle.hp_store.proofs.snapshot.Snapshot.kept_objects.Goals as goal

pub returns-then-list-class : goal.returns-then-list-class
returns-then-list-class c =
    let lists = c.deref-list-items.result.now in
    let all = subst (λ cs. AreKept cs lists) (cells_shown c.self.inside.base.value c.self.inside.layers.items c.args.self.now c.self.view_is)
    (subst (AreKept _) (sym c.deref-list-items.ensures.value) c.self.invariant.1) in
    subst (λ class. AreObjects (cells_in c.args.self.now) class c.list-item.result.objects.value) c.if-list-class.true
    (kept_at (cells_in c.args.self.now) lists c.loop-list.list-index c.list-item.result all c.loop-list-test.true c.list-item.is)
