use Rattle.std.proofs.Common.{◌≡◌, ℤ, true, None, List, subst}
use Rattle.hp_model.specs.Cells.{object_cell, is_above}
use Rattle.hp_store.specs.declared.base.Base.{Base}
use Rattle.hp_store.specs.Changes.{Entries, changes_in}
use Rattle.hp_store.specs.Greatest.{is_below, NamesNone}
use Rattle.hp_store.specs.Tables.{base_cells}
use Rattle.hp_store.proofs.Topmost.{none_named}
use Rattle.hp_store.proofs.snapshot.Snapshot.named_below.Goals as goal

pub returns-clause-above : goal.returns-clause-above
returns-clause-above c =
    let class = c.args.class in
    let bound = c.args.bound in
    let base = c.greatest_below.result in
    let named = c.greatest_in.result in
    none_named c.self.inside.base.value c.self.inside.layers.items c.args.self.now c.args.writes.now class bound base named c.greater-under.result
    c.greatest_below-2.result c.greater.result c.self.view_is
    (subst (λ (b : Base). (key : ℤ) → is_below bound key ≡ true → is_above base key ≡ true → base_cells b (object_cell class key) ≡ None) c.deref.ensures c.greatest_below.ensures.above)
    (subst (λ (ls : List Entries). NamesNone (changes_in ls) class bound named) c.deref-2.ensures c.greatest_in.ensures.above)
    c.greatest_below-2.ensures.above c.greater-under.ensures.first c.greater-under.ensures.second c.greater.ensures.first c.greater.ensures.second
