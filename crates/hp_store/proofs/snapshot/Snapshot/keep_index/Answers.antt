use Rattle.std.proofs.Common.{sym, subst}
use Rattle.hp_model.specs.Cells.{over}
use Rattle.hp_store.specs.Changes.{changes_in}
use Rattle.hp_store.specs.Kept.{AreKept}
use Rattle.hp_store.proofs.Stacked.{same_tables}
use Rattle.hp_store.proofs.snapshot.Snapshot.keep_index.Goals as goal

pub invariant_of-self : goal.invariant_of-self
invariant_of-self c = (
  c.self.invariant.0,
  subst (λ cs. AreKept (over cs (changes_in c.self.inside.layers.items)) c.self.inside.lists.items)
      (λ i q. sym (same_tables c.self.inside.base.value c.keep_index.new.base.value c.keep_index.ensures.same q) i) c.self.invariant.1,
  c.keep_index.ensures.complete c.self.invariant.2,
)
