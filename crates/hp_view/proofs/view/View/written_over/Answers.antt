use Rattle.std.proofs.Common.{◌∙◌, sym, ap, subst}
use Rattle.hp_model.specs.Cells.{Cells, AreObjects, object_cell, over}
use Rattle.hp_store.specs.Changes.{changes}
use Rattle.hp_store.proofs.Wholes.{whole_under, told_some}
use Rattle.hp_view.specs.Seeing.{written}
use Rattle.hp_view.specs.contracts.view.View.{the_view}
use Rattle.hp_view.proofs.view.View.written_over.Goals as goal

pub returns-then-not-names_objects_of-clause-objects : goal.returns-then-not-names_objects_of-clause-objects
returns-then-not-names_objects_of-clause-objects c = λ base are.
    subst (λ u. AreObjects (over base (written u)) c.args.class c.args.under.value) c.self.view_is
    (whole_under base (written (the_view c.self.inside)) c.args.class c.args.under.value
    (λ key. ap (λ es. changes es (object_cell c.args.class key)) (sym c.deref.ensures) ∙ c.names_objects_of.ensures.leaves c.if-not-names_objects_of.true key) are)

pub returns-clause-objects : goal.returns-clause-objects
returns-clause-objects c = λ base are.
    let merged = told_some (λ objects. (cells : Cells) → AreObjects cells c.args.class c.deref-3.result.now
    → AreObjects (over cells (changes c.deref-2.result.now)) c.args.class objects) c.in-Some.is c.in_ok-objects.ensures.merged in
    subst (AreObjects (over base (written c.args.self.now)) c.args.class) (sym c.in_ok-new.ensures.ok)
    (subst (λ u. AreObjects (over base (written u)) c.args.class c.in-Some.objects) c.self.view_is
    (subst (λ es. AreObjects (over base (changes es)) c.args.class c.in-Some.objects) c.deref-2.ensures (merged base (subst (AreObjects base c.args.class) (sym c.deref-3.ensures) are))))
