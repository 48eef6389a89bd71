use Rattle.std.proofs.Common.{◌∙◌, subst, sym, ap}
use Rattle.std.specs.Option.{option_or}
use Rattle.hp_store.specs.Changes.{changes, changes_in}
use Rattle.hp_store.specs.Kept.{AreKept}
use Rattle.hp_store.specs.Tables.{base_cells}
use Rattle.hp_model.specs.Cells.{over}
use Rattle.hp_store.proofs.Indexed.{complete_shared}
use Rattle.hp_store.proofs.Keeping.{kept_over}
use Rattle.hp_store.proofs.snapshot.Snapshot.with_layer.Goals as goal

pub invariant_of-result : goal.invariant_of-result
invariant_of-result c = (
  c.in_ok-layers.ensures.most,
  kept_over c.self.inside.base.value c.in_ok-try_clone.field-0.value c.self.inside.layers.items c.in_ok-layers.layers.items c.deref-3.result.now
      c.deref.result.now c.in_ok-lists.lists.items c.in_ok-try_clone.ensures
      (λ q. c.in_ok-layers.ensures.changes q ∙ ap (λ l. option_or (changes c.args.layer.value q) (changes_in l q)) c.deref-6.ensures
      ∙ ap (λ es. option_or (changes es q) (changes_in c.self.inside.layers.items q)) (sym c.deref-3.ensures))
      c.in_ok-lists.ensures
      (subst (AreKept (over (base_cells c.self.inside.base.value) (changes_in c.self.inside.layers.items))) (sym c.deref.ensures.value) c.self.invariant.1),
  complete_shared c.self.inside.base.value c.in_ok-try_clone.field-0.value c.in_ok-try_clone.ensures c.self.invariant.2,
)
