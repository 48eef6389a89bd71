use Rattle.std.proofs.Common.{sym, subst}
use Rattle.hp_model.specs.Cells.{Cells, AreObjects, over}
use Rattle.hp_store.specs.Changes.{changes}
use Rattle.hp_store.proofs.Wholes.{whole_under, told_some}
use Rattle.hp_store.proofs.kept.objects_under.Goals as goal

pub returns-then-not-names_objects_of : goal.returns-then-not-names_objects_of
returns-then-not-names_objects_of c = λ base are.
    let list = c.args.list.now in
    subst (AreObjects (over base (changes c.args.layer.now)) list.class) (sym c.in_ok-try_clone.ensures)
    (whole_under base (changes c.args.layer.now) list.class list.objects.value (c.names_objects_of.ensures.leaves c.if-not-names_objects_of.true) are)

pub returns : goal.returns
returns c = λ base are.
    let list = c.args.list.now in
    let merged = told_some (λ objects. (cells : Cells) → AreObjects cells list.class c.deref.result.now → AreObjects (over cells (changes c.args.layer.now)) list.class objects)
    c.in-Some.is c.in_ok-objects.ensures.merged in
    subst (AreObjects (over base (changes c.args.layer.now)) list.class) (sym c.in_ok-new.ensures.ok) (merged base (subst (AreObjects base list.class) (sym c.deref.ensures) are))
