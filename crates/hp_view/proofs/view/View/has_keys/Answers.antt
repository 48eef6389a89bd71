use Rattle.std.proofs.Common.{◌∙◌, sym, subst}
use Rattle.std.specs.Cmp.Rules.{signed_items}
use Rattle.hp_model.specs.Cells.{AreKeys}
use Rattle.hp_model.proofs.BridgesKeys.{one_list}
use Rattle.hp_store.specs.Changes.{Entries}
use Rattle.hp_store.specs.Stack.{cells_in}
use Rattle.hp_view.specs.Keeping.{KeepsObject}
use Rattle.hp_view.specs.Seeing.{now_in}
use Rattle.hp_view.proofs.Reading.{keys_kept}
use Rattle.hp_view.proofs.view.View.has_keys.Goals as goal

pub returns-then-keeps_objects : goal.returns-then-keeps_objects
returns-then-keeps_objects c =
    let are_same = signed_items c.in-Some.recorded.now c.args.keys.now in
    let now = keys_kept c.args.class c.in-Some.recorded.now c.self.view_is (c.in-Some.ensures.held (cells_in c.self.inside.base) c.self.invariant.held)
    (λ key. subst (λ (es : Entries). KeepsObject (cells_in c.self.inside.base) es c.args.class key) c.deref-then-len-keys.ensures (c.keeps_objects.ensures c.if-keeps_objects.true key)) in
    (λ same. subst (AreKeys (now_in c.args.self.now) c.args.class) (are_same.0 (sym c.eq.ensures ∙ same)) now, λ are. c.eq.ensures ∙ are_same.1 (one_list now are))
