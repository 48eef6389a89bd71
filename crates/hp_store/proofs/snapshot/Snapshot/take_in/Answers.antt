use Rattle.std.proofs.Common.{ap, sym, subst, arith, ◌∙◌}
use Rattle.std.specs.Option.{option_or}
use Rattle.hp_model.specs.Cells.{changed, over}
use Rattle.hp_store.specs.Changes.{changes, changes_in}
use Rattle.hp_store.specs.Kept.{AreKept}
use Rattle.hp_store.specs.Tables.{base_cells}
use Rattle.hp_store.proofs.Keeping.{kept_shown}
use Rattle.hp_store.proofs.Stacked.{shown_over}
use Rattle.hp_store.proofs.snapshot.Snapshot.take_in.Goals as goal

pub returns-clause-ok : goal.returns-clause-ok
returns-clause-ok c =
    shown_over c.self.inside.base.value c.settle.new.base.value c.self.inside.layers.items c.settle.new.layers.items c.args.self.now c.args.layer.value c.self.view_is
    (λ q. c.settle.ensures.same q
    ∙ ap (changed (base_cells c.self.inside.base.value q)) (c.in_ok-self-inside.ensures.changes q ∙ ap (λ l. option_or (changes c.args.layer.value q) (changes_in l q)) c.deref-7.ensures))

pub invariant_of-self : goal.invariant_of-self
invariant_of-self c = (
  omega (arith, c.settle.ensures.fewer, c.in_ok-self-inside.ensures.most),
  kept_shown c.self.inside.base.value c.settle.new.base.value c.self.inside.layers.items c.settle.new.layers.items c.deref-4.result.now c.deref-2.result.now c.in_ok-lists.lists.items
      (λ q. c.settle.ensures.same q
      ∙ ap (changed (base_cells c.self.inside.base.value q)) (c.in_ok-self-inside.ensures.changes q ∙ ap (λ l. option_or (changes c.args.layer.value q) (changes_in l q)) c.deref-7.ensures
      ∙ ap (λ es. option_or (changes es q) (changes_in c.self.inside.layers.items q)) (sym c.deref-4.ensures)))
      c.in_ok-lists.ensures
      (subst (AreKept (over (base_cells c.self.inside.base.value) (changes_in c.self.inside.layers.items))) (sym c.deref-2.ensures.value) c.self.invariant.1),
  c.settle.ensures.complete c.self.invariant.2,
)
