use Rattle.std.proofs.Common.{◌≤◌, ◌∙◌, ap, sym, arith}
use Rattle.hp_model.specs.Cells.{object_cell}
use Rattle.hp_store.specs.Changes.{changes_in}
use Rattle.hp_store.specs.Tables.{base_cells}
use Rattle.hp_store.proofs.Bounds.{empty_cell}
use Rattle.hp_store.proofs.snapshot.Snapshot.class_bound.Goals as goal

pub returns : goal.returns
returns c class key up =
    let beneath : c.class_bound.result ≤ class = grind (arith, up) in
    let above : c.bound_of_all.result ≤ class = grind (arith, up) in
    empty_cell c.self.inside.base.value c.self.inside.layers.items c.args.self.now (object_cell class key) c.self.view_is
    (ap (λ b. base_cells b (object_cell class key)) (sym c.deref.ensures) ∙ c.class_bound.ensures class key beneath)
    (ap (λ ls. changes_in ls (object_cell class key)) (sym c.deref-2.ensures) ∙ c.bound_of_all.ensures class key above)
