use Rattle.std.proofs.Common.{◌∙◌, sym, ap, subst}
use Rattle.hp_model.specs.Cells.{AreObjects, object_cell}
use Rattle.hp_store.specs.Changes.{changes}
use Rattle.hp_store.proofs.Wholes.{whole_under, told_some}
use Rattle.hp_view.specs.Seeing.{beneath, written, now_in}
use Rattle.hp_view.specs.contracts.view.View.{the_view}
use Rattle.hp_view.proofs.Wholes.{compared, told_whole}
use Rattle.hp_view.proofs.view.View.has_objects.Goals as goal

pub returns-in-Some : goal.returns-in-Some
returns-in-Some c =
    let v = the_view c.self.inside in
    let are = whole_under (beneath v) (written v) c.args.class c.in-Some.known.now.value
    (λ key. ap (λ es. changes es (object_cell c.args.class key)) (sym c.deref.ensures) ∙ c.names_objects_of.ensures.leaves c.if-not-names_objects_of.true key)
    (subst (λ u. AreObjects (beneath u) c.args.class c.in-Some.known.now.value) (sym c.self.view_is)
    (told_some (λ objects. AreObjects (beneath c.args.self.now) c.args.class objects.now.value) c.in-Some.is c.known_objects.ensures)) in
    compared c.eq.result (subst (AreObjects (now_in c.args.self.now) c.args.class) (sym c.deref-in-Some.ensures)
    (subst (λ u. AreObjects (now_in u) c.args.class c.in-Some.known.now.value) c.self.view_is are)) c.eq.ensures.same

pub returns-then-has_keys : goal.returns-then-has_keys
returns-then-has_keys c = told_whole c.has_rows.result c.keys.ensures c.rows.ensures (c.has_keys.ensures.0 c.if-has_keys.true) c.has_rows.ensures
