use Rattle.std.proofs.Common.{List, subst}
use Rattle.hp_model.specs.Cells.{Cells, IsCount, over}
use Rattle.hp_store.specs.declared.base.Base.{Base}
use Rattle.hp_store.specs.Changes.{Entries, changes_in}
use Rattle.hp_store.specs.Stack.{cells_in}
use Rattle.hp_store.specs.Tables.{base_cells}
use Rattle.hp_store.proofs.Counted.{sized_count, sized_err}
use Rattle.hp_store.proofs.Keeping.{cells_shown}
use Rattle.hp_store.proofs.snapshot.Snapshot.count.Goals as goal

is_counted : (c : goal.After-sized) → IsCount (cells_in c.args.self.now) c.args.class c.counted.result
is_counted c =
    let class = c.args.class in
    let n = c.counted.result in
    subst (λ (cells : Cells). IsCount cells class n) (cells_shown c.self.inside.base.value c.self.inside.layers.items c.args.self.now c.self.view_is)
    (subst (λ (b : Base). IsCount (over (base_cells b) (changes_in c.self.inside.layers.items)) class n) c.deref.ensures
    (subst (λ (ls : List Entries). IsCount (over (base_cells c.deref.result.now) (changes_in ls)) class n) c.deref-2.ensures c.counted.ensures.counted))

pub returns-clause-count : goal.returns-clause-count
returns-clause-count c = sized_count c.sized.result c.sized.ensures.count (is_counted c)

pub returns-clause-err : goal.returns-clause-err
returns-clause-err c = sized_err c.sized.result c.sized.ensures.err (is_counted c)
