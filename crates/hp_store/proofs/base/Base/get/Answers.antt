use Rattle.std.proofs.Common.{◌≡◌, to_z, of_z, w64, rules, ap, sym, ◌∙◌}
use Rattle.hp_model.specs.Cells.{object_cell}
use Rattle.hp_value.specs.Mapped.{cell}
use Rattle.hp_store.specs.Tables.{base_cells}
use Rattle.hp_store.proofs.base.Base.get.Goals as goal

pub returns-in-Object : goal.returns-in-Object
returns-in-Object c =
    let key : to_z w64 (of_z w64 c.in-Object.key) ≡ c.in-Object.key = search rules in
    c.object.ensures ∙ ap (λ k. base_cells c.args.self.now (object_cell c.in-Object.class k)) key ∙ ap (λ d. base_cells c.args.self.now (cell d)) (sym c.in-Object.is)
