use Rattle.std.proofs.Common.{arith}
use Rattle.hp_store.specs.Stack.{cells_in}
use Rattle.hp_report.specs.Mapped.{library}
use Rattle.hp_report.proofs.StoredLines.{none_yet, class_more, classes_whole}
use Rattle.hp_report.proofs.stored.put_all_objects.Goals as goal

pub loop-index-init : goal.loop-index-init
loop-index-init c = none_yet (library c.args.library.now) (cells_in c.args.store.now) c.args.out.now

pub loop-index-preserved : goal.loop-index-preserved
loop-index-preserved c =
    class_more (library c.args.library.now) (cells_in c.args.store.now) c.in_ok-class.class c.loop-index.index c.args.out.now c.loop-index.out c.put_class.new.out c.in_ok-class.ensures
    c.loop-index.invariant c.in_ok-put_class.ensures

pub returns : goal.returns
returns c =
    classes_whole (library c.args.library.now) (cells_in c.args.store.now) c.class_bound-index-end.result c.loop-index.index c.args.out.now c.loop-index.out c.class_bound-index-end.ensures
    (grind (arith, c.loop-index-test.false)) c.loop-index.invariant
