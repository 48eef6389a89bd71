use Rattle.std.proofs.Common.{List, subst}
use Rattle.hp_model.specs.Cells.{Cells, IsCount, over}
use Rattle.hp_store.specs.declared.base.Base.{Base}
use Rattle.hp_store.specs.Changes.{Entries, changes, changes_in}
use Rattle.hp_store.specs.Tables.{base_cells}
use Rattle.hp_store.proofs.Keeping.{cells_shown}
use Rattle.hp_store.proofs.snapshot.Snapshot.number_over.Goals as goal

pub returns : goal.returns
returns c =
    let class = c.args.class in
    let writes = changes c.args.writes.now in
    let n = c.recounted.result in
    subst (λ (cells : Cells). IsCount (over cells writes) class n) (cells_shown c.self.inside.base.value c.self.inside.layers.items c.args.self.now c.self.view_is)
    (subst (λ (b : Base). IsCount (over (over (base_cells b) (changes_in c.self.inside.layers.items)) writes) class n) c.deref-3.ensures
    (subst (λ (ls : List Entries). IsCount (over (over (base_cells c.deref-3.result.now) (changes_in ls)) writes) class n) c.deref-4.ensures c.recounted.ensures.counted))
