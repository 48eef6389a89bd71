use Rattle.std.proofs.Common.{rules, ◌≡◌, ◌≤◌, ◌∙◌, length, sym, ap, subst}
use Rattle.hp_model.specs.Cells.{over, changed}
use Rattle.std.specs.Option.{option_or}
use Rattle.hp_store.specs.Changes.{changes, changes_in}
use Rattle.hp_store.specs.Kept.{AreKept}
use Rattle.hp_store.specs.Tables.{base_cells}
use Rattle.hp_store.proofs.Indexed.{complete_shared}
use Rattle.hp_store.proofs.Keeping.{kept_shown}
use Rattle.hp_store.proofs.snapshot.SnapshotClone.clone.Goals as goal

pub invariant_of-result : goal.invariant_of-result
invariant_of-result c =
    let layers : c.in_ok-layers.layers.items ≡ c.self.inside.layers.items = search rules in (
      subst (λ ls. length ls ≤ 8) (sym layers) c.self.invariant.0,
      kept_shown c.self.inside.base.value c.in_ok-try_clone.field-0.value c.self.inside.layers.items c.in_ok-layers.layers.items c.new.result c.deref-2.result.now c.in_ok-lists.lists.items
          (λ q. ap (λ b. changed (base_cells b q) (changes_in c.in_ok-layers.layers.items q)) c.in_ok-try_clone.ensures
          ∙ ap (λ ls. changed (base_cells c.self.inside.base.value q) (changes_in ls q)) layers
          ∙ ap (λ es. changed (base_cells c.self.inside.base.value q) (option_or (changes es q) (changes_in c.self.inside.layers.items q))) (sym c.new.ensures))
          c.in_ok-lists.ensures
          (subst (AreKept (over (base_cells c.self.inside.base.value) (changes_in c.self.inside.layers.items))) (sym c.deref-2.ensures.value) c.self.invariant.1),
      complete_shared c.self.inside.base.value c.in_ok-try_clone.field-0.value c.in_ok-try_clone.ensures c.self.invariant.2,
    )
